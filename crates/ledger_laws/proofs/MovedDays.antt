-- By how much moves change the totals, told by the days that they leave: those of the households in another book.
use Rattle.std.proofs.Common.{List, [], ap, arith, false, filter, fold, nat_eq, pos, sym, ℕ, ℤ, ◌+ℤ◌, ◌==◌, ◌∙◌, ◌≡◌}
use Rattle.std.proofs.lemmas.Int.{ints}
use Rattle.std.specs.List.{IsDistinct, list_any}
use Rattle.std.specs.Option.{option_map_or}
use Rattle.std.specs.Prelude.{◌-ℤ◌}
use Rattle.agent_events.specs.declared.request.AccountForm.{AccountForm}
use Rattle.agent_events.specs.declared.totals.Changes.{Changes}
use Rattle.agent_events.specs.declared.trade.Trade.{Trade}
use Rattle.checkpoint_replay.proofs.FlowsOfMoves.{IsAdditive, all-same, all-still, cash-additive, mils-additive, same-flows, with_move}
use Rattle.checkpoint_replay.specs.Differences.{AreChangesOf, trades_cash}
use Rattle.checkpoint_replay.specs.Moves.{AreApart, day_if_moved, households_of, part_after}
use Rattle.checkpoint_replay.specs.Parts.{part_in}
use Rattle.checkpoint_replay.specs.Tallied.{flow_of_all}
use Rattle.checkpoint_replay.specs.declared.change.HouseholdMove.{HouseholdMove}
use Rattle.checkpoint_replay.specs.declared.part.HouseholdPart.{HouseholdPart}
use Rattle.gain_loss_book.specs.Booked.{AreDifferences}
use Rattle.gain_loss_book.specs.Flows.{net, no_flow}
use Rattle.gain_loss_book.specs.Movements.{trades_mils}
use Rattle.gain_loss_book.specs.declared.flows.Flow.{Flow}
use Rattle.ledger_laws.proofs.ClassTotals.{totals_by_differences}
use Rattle.ledger_laws.proofs.HouseholdBooks.{trades-owned}
use Rattle.ledger_laws.proofs.SumsOfMoves.{CoversMoves, moves-sum}
use Rattle.ledger_laws.proofs.SumsOverLedgers.{all-brought, joined, joined-distinct, not-joined, owners, owners-cover, owners-distinct}
use Rattle.ledger_laws.specs.LedgerTotals.{IsOfHouseholds}
use Rattle.ledger_laws.specs.Ledgers.{IsLedgerOf}
use Rattle.register_laws.specs.Households.{part_of}
use Rattle.register_machine.specs.corrections.Cash.{outstanding}
use Rattle.register_machine.specs.journal.Kinds.{household_of}
use Rattle.register_machine.specs.pricing.CorrectedBook.{Book}
use Rattle.register_machine.specs.replay.Replay.{replay}
use Rattle.register_machine.specs.replay.Trades.{Day}

-- the trades of each household among these
abbrev days_by_trades : List AccountForm → List Trade → ℕ → Day
days_by_trades accounts trades household = record {
  register = [];
  trades = filter (λ (trade : Trade). option_map_or (λ number. number == household) (household_of accounts trade.account) false) trades;
}

-- the days of all households in a book
abbrev AreDaysOf : (ℕ → Day) → Book → Type 0
AreDaysOf days book = (household : ℕ) → days household ≡ part_of book.accounts household (replay book)

-- households among which are all that have trades
abbrev AreAllOwners : List ℕ → Book → Type 0
AreAllOwners households book =
    (household : ℕ) → list_any (nat_eq household) households ≡ false → list_any (nat_eq household) (owners book.accounts (replay book).trades) ≡ false

sum-of-days : (flow : List Trade → Flow) → IsAdditive flow → (book : Book) (days : ℕ → Day) → IsOfHouseholds book → AreDaysOf days book → (households : List ℕ) → IsDistinct nat_eq households → AreAllOwners households book → net (flow (replay book).trades) ≡ net (flow_of_all flow days households)
sum-of-days flow additive book days of are households distinct all =
    let trades = (replay book).trades in
    let shown : (household : ℕ) → (days household).trades ≡ (days_by_trades book.accounts trades household).trades = λ household. ap (λ (day : Day). day.trades) (are household) in
    let same = ap net (same-flows flow days (days_by_trades book.accounts trades) households (all-same days (days_by_trades book.accounts trades) shown households)) in
    sym (same ∙ all-brought flow additive book.accounts trades (trades-owned book of) households distinct (λ household missing. owners-cover book.accounts trades household (all household missing)))

-- moves of different households lead from a ledger of one book to the days of another
pub record LeadToDays (before after : Book) (parts : List (ℕ × HouseholdPart)) (moves : List HouseholdMove) : Type 0 where
  pub from : IsLedgerOf before parts
  pub to : (household : ℕ) → part_after moves parts household ≡ part_of after.accounts household (replay after)
  pub apart : AreApart moves

moved-by : (flow : List Trade → Flow) → IsAdditive flow → (before after : Book) (parts : List (ℕ × HouseholdPart)) (moves : List HouseholdMove) → IsOfHouseholds before → IsOfHouseholds after → LeadToDays before after parts moves → net (flow (replay after).trades) ≡ net (flow (replay before).trades) +ℤ net (fold (with_move flow parts) no_flow moves)
moved-by flow additive before after parts moves of other is =
    let old = owners before.accounts (replay before).trades in
    let late = owners after.accounts (replay after).trades in
    let both = joined late old in
    let all = joined (households_of moves) both in
    let distinct = joined-distinct (households_of moves) both (joined-distinct late old (owners-distinct before.accounts (replay before).trades)) in
    let covers : CoversMoves all moves = λ household missing. (not-joined (households_of moves) both household missing).0 in
    let missed : (household : ℕ) → list_any (nat_eq household) all ≡ false → (list_any (nat_eq household) late ≡ false) × (list_any (nat_eq household) old ≡ false) = λ household missing. not-joined late old household (not-joined (households_of moves) both household missing).1 in
    let gone : ℕ → Day = λ household. fold (day_if_moved household) (part_in parts household) moves in
    let first = sum-of-days flow additive before (part_in parts) of is.from.part all distinct (λ household missing. (missed household missing).1) in
    let last = sum-of-days flow additive after gone other is.to all distinct (λ household missing. (missed household missing).0) in
    let moved = moves-sum flow additive parts all distinct moves is.apart covers (part_in parts) (all-still parts moves) in
    last ∙ (moved ∙ ap (λ (z : ℤ). z +ℤ net (fold (with_move flow parts) no_flow moves)) (sym first))

difference : (before after change : ℤ) → after ≡ before +ℤ change → change ≡ after -ℤ before
difference before after change sum = omega (arith, ints, sum)

pub differences-by-days : (changes : Changes) (before after : Book) (parts : List (ℕ × HouseholdPart)) (moves : List HouseholdMove) → IsOfHouseholds before → IsOfHouseholds after → LeadToDays before after parts moves → AreChangesOf changes parts moves → AreDifferences changes (replay before) (replay after)
differences-by-days changes before after parts moves of other is are = record {
  cash = λ party.
      let flow : List Trade → Flow = λ trades. trades_cash trades party in
      are.cash party
      ∙ difference (net (flow (replay before).trades)) (net (flow (replay after).trades)) (net (fold (with_move flow parts) no_flow moves))
      (moved-by flow (cash-additive party) before after parts moves of other is);
  mils = λ class.
      let flow : List Trade → Flow = λ trades. trades_mils trades class in
      let held : Book → ℤ = λ book. pos (outstanding (replay book).register class) in
      are.mils class
      ∙ (difference (net (flow (replay before).trades)) (net (flow (replay after).trades)) (net (fold (with_move flow parts) no_flow moves))
      (moved-by flow (mils-additive class) before after parts moves of other is)
      ∙ (ap (λ (z : ℤ). z -ℤ net (flow (replay before).trades)) (sym ((totals_by_differences after other.orderly).whole class))
      ∙ ap (λ (z : ℤ). held after -ℤ z) (sym ((totals_by_differences before of.orderly).whole class))));
}
