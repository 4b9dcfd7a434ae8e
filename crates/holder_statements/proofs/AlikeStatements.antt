-- Statements that read the same are the same.
use Rattle.std.proofs.Common.{Bool, List, [], ap, cond, false, filter, length, not, refl, sym, true, ℕ, ◌&&◌, ◌++◌, ◌==◌, ◌∙◌, ◌∷◌, ◌≡◌, nat_le}
use Rattle.std.specs.List.{flat_map}
use Rattle.std.proofs.lemmas.Bool.{eqb-true, true≢false}
use Rattle.agent_events.specs.declared.request.StatementForm.{StatementForm}
use Rattle.agent_events.specs.declared.trade.Trade.{Trade}
use Rattle.forward_price.specs.declared.price_sheet.Sheet.{Sheet}
use Rattle.register_machine.specs.corrections.Gains.{latest_nav}
use Rattle.register_machine.specs.pricing.CorrectedBook.{Book}
use Rattle.register_machine.specs.queries.Show.{positions_of}
use Rattle.register_machine.specs.queries.Statement.{heading, holding_line, is_in_period, line_text, name_of, trade_line}
use Rattle.register_machine.specs.replay.Positions.{Position}
use Rattle.register_machine.specs.replay.Trades.{Day}
use Rattle.holder_statements.specs.Alike.{PartTellsAll, StatedAlike, TellAlike, positions_owned, trades_owned}
use Rattle.holder_statements.specs.Holdings.{line_of_holding}
use Rattle.std.specs.Prelude.{codes}

-- a test of two parts passes what the one and then the other passes
in_two : {X : Type 0} (p q : X → Bool) (xs : List X) → filter (λ x. p x && q x) xs ≡ filter q (filter p xs)
in_two p q [] = refl
in_two p q (x ∷ xs) =
    elim (p x) as (λ b. cond (b && q x) (x ∷ filter (λ x. p x && q x) xs) (filter (λ x. p x && q x) xs) ≡ filter q (cond b (x ∷ filter p xs) (filter p xs))) [
      | true ↦ ap (λ ys. cond (q x) (x ∷ ys) ys) (in_two p q xs)
      | false ↦ in_two p q xs
    ]

pieces_same : {X Y : Type 0} (f g : X → List Y) → ((x : X) → f x ≡ g x) → (xs : List X) → flat_map f xs ≡ flat_map g xs
pieces_same f g h [] = refl
pieces_same f g h (x ∷ xs) = ap (λ ys. ys ++ flat_map f xs) (h x) ∙ ap (λ ys. g x ++ ys) (pieces_same f g h xs)

line_same : (book other : Book) → TellAlike book other → (position : Position) → holding_line book position ≡ holding_line other position
line_same book other alike position =
    ap (λ name. line_of_holding position.class name (latest_nav book.table.sheets position.class) position.holding) (alike.names position.class)
    ∙ ap (λ (sheets : List Sheet). line_of_holding position.class (name_of other position.class) (latest_nav sheets position.class) position.holding) alike.sheets

positions_same : (account : ℕ) (day other : Day) → positions_owned account day ≡ positions_owned account other → positions_of day.register account ≡ positions_of other.register account
positions_same account day other same =
    in_two (λ (position : Position). position.account == account) (λ position. not (length position.holding.lots == 0)) day.register
    ∙ (ap (filter (λ (position : Position). not (length position.holding.lots == 0))) same
    ∙ sym (in_two (λ (position : Position). position.account == account) (λ position. not (length position.holding.lots == 0)) other.register))

trades_same : (form : StatementForm) (day other : Day) → trades_owned form.account day ≡ trades_owned form.account other → filter (is_in_period form) day.trades ≡ filter (is_in_period form) other.trades
trades_same form day other same =
    in_two (λ (trade : Trade). trade.account == form.account) (λ trade. nat_le form.first trade.day && nat_le trade.day form.last) day.trades
    ∙ (ap (filter (λ (trade : Trade). nat_le form.first trade.day && nat_le trade.day form.last)) same
    ∙ sym (in_two (λ (trade : Trade). trade.account == form.account) (λ trade. nat_le form.first trade.day && nat_le trade.day form.last) other.trades))

pub stated_alike : (book other : Book) (form : StatementForm) (name : List ℕ) (day other_day : Day) → StatedAlike book other form name day other_day
stated_alike book other form name day other_day books days =
    let front = heading form name in
    let middle = line_text (codes "HOLDINGS" ∷ []) in
    let end_line = line_text (codes "END" ∷ []) in
    ap (λ (trades : List Trade). front ++ flat_map trade_line trades ++ middle ++ flat_map (holding_line book) (positions_of day.register form.account) ++ end_line) (trades_same form day other_day days.trades)
    ∙ (ap (λ (positions : List Position). front ++ flat_map trade_line (filter (is_in_period form) other_day.trades) ++ middle ++ flat_map (holding_line book) positions ++ end_line) (positions_same form.account day other_day days.register)
    ∙ ap (λ (lines : List ℕ). front ++ flat_map trade_line (filter (is_in_period form) other_day.trades) ++ middle ++ lines ++ end_line) (pieces_same (holding_line book) (holding_line other) (line_same book other books) (positions_of other_day.register form.account)))

-- what is of one account among what is of some
pub one_of_some : {X : Type 0} (owner : X → ℕ) (is_own : ℕ → Bool) (account : ℕ) → is_own account ≡ true → (xs : List X)
    → filter (λ x. owner x == account) (filter (λ x. is_own (owner x)) xs) ≡ filter (λ x. owner x == account) xs
one_of_some owner is_own account own [] = refl
one_of_some {X} owner is_own account own (x ∷ xs) =
    by_tests (one_of_some owner is_own account own xs) (is_own (owner x)) (owner x == account) refl refl
  where
    by_tests : filter (λ x. owner x == account) (filter (λ x. is_own (owner x)) xs) ≡ filter (λ x. owner x == account) xs
        → (a b : Bool) → is_own (owner x) ≡ a → (owner x == account) ≡ b
        → filter (λ x. owner x == account) (cond a (x ∷ filter (λ x. is_own (owner x)) xs) (filter (λ x. is_own (owner x)) xs)) ≡ cond b (x ∷ filter (λ x. owner x == account) xs) (filter (λ x. owner x == account) xs)
    by_tests rest true true e f =
        ap (λ b. cond b (x ∷ filter (λ x. owner x == account) (filter (λ x. is_own (owner x)) xs)) (filter (λ x. owner x == account) (filter (λ x. is_own (owner x)) xs))) f
        ∙ ap (λ (ys : List X). x ∷ ys) rest
    by_tests rest true false e f =
        ap (λ b. cond b (x ∷ filter (λ x. owner x == account) (filter (λ x. is_own (owner x)) xs)) (filter (λ x. owner x == account) (filter (λ x. is_own (owner x)) xs))) f
        ∙ rest
    by_tests rest false true e f = absurd (true≢false (sym own ∙ (ap is_own (sym (eqb-true (owner x) account f)) ∙ e)))
    by_tests rest false false e f = rest

pub part_tells_all : (is_own : ℕ → Bool) (account : ℕ) (day : Day) → PartTellsAll is_own account day
part_tells_all is_own account day own = record {
  register = one_of_some (λ (position : Position). position.account) is_own account own day.register;
  trades = one_of_some (λ (trade : Trade). trade.account) is_own account own day.trades;
}
