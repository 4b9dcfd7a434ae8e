-- Trades that are added behind others, with how many they are.
use Rattle.std.proofs.Common.{All, List, [], append-nil, append_assoc, ap, arith, length, length-append, sym, ℕ, ◌++◌, ◌+◌, ◌∙◌, ◌≡◌, ◌≤◌}
use Rattle.std.proofs.lemmas.List.Elements.{All-append, All-nil}
use Rattle.agent_events.specs.declared.trade.Trade.{Trade}

pub record Adds (P : Trade → Type 0) (most : ℕ) (before after : List Trade) : Type 0 where
  pub added : List Trade
  pub is : after ≡ before ++ added
  pub all : All P added
  pub few : length added ≤ most

pub adds-none : (P : Trade → Type 0) (trades : List Trade) → Adds P 0 trades trades
adds-none P trades = record { added = []; is = sym (append-nil trades); all = All-nil P; few = omega arith }

pub adds-fewer : (P : Trade → Type 0) (most more : ℕ) (before after : List Trade) → most ≤ more → Adds P most before after → Adds P more before after
adds-fewer P most more before after le adds =
    record { added = adds.added; is = adds.is; all = adds.all; few = omega (arith, adds.few, le) }

pub adds-both : (P : Trade → Type 0) (first second : ℕ) (before between after : List Trade) → Adds P first before between → Adds P second between after → Adds P (first + second) before after
adds-both P first second before between after one two = record {
  added = one.added ++ two.added;
  is = two.is ∙ (ap (λ (trades : List Trade). trades ++ two.added) one.is ∙ append_assoc before one.added two.added);
  all = All-append P one.added two.added one.all two.all;
  few = omega (arith, one.few, two.few, length-append one.added two.added);
}
