-- What a statement reads: of a book the sheets and the names of classes, and of a day what is of the account.
use Rattle.std.specs.Prelude.{Bool, List, true, ℕ, ◌==◌, ◌≡◌, filter}
use Rattle.agent_events.specs.declared.request.StatementForm.{StatementForm}
use Rattle.agent_events.specs.declared.trade.Trade.{Trade}
use Rattle.register_machine.specs.pricing.CorrectedBook.{Book}
use Rattle.register_machine.specs.queries.Statement.{name_of, statement_text}
use Rattle.register_machine.specs.replay.Positions.{Position}
use Rattle.register_machine.specs.replay.Trades.{Day}

-- books with the same sheets, in which each class has the same name
pub record TellAlike (book other : Book) : Type 0 where
  pub sheets : book.table.sheets ≡ other.table.sheets
  pub names : (class : ℕ) → name_of book class ≡ name_of other class

-- what is of the account in a day
abbrev pub positions_owned : ℕ → Day → List Position
positions_owned account day = filter (λ position. position.account == account) day.register

abbrev pub trades_owned : ℕ → Day → List Trade
trades_owned account day = filter (λ trade. trade.account == account) day.trades

-- days that have the same of the account
pub record HoldAlike (account : ℕ) (day other : Day) : Type 0 where
  pub register : positions_owned account day ≡ positions_owned account other
  pub trades : trades_owned account day ≡ trades_owned account other

-- such books and days have the same statement
abbrev pub StatedAlike : Book → Book → StatementForm → List ℕ → Day → Day → Type 0
StatedAlike book other form name day other_day =
    TellAlike book other → HoldAlike form.account day other_day
    → statement_text book form name day ≡ statement_text other form name other_day

-- the positions and trades of some accounts have all that is of one of these
abbrev pub PartTellsAll : (ℕ → Bool) → ℕ → Day → Type 0
PartTellsAll is_own account day =
    is_own account ≡ true
    → HoldAlike account
    (record {
      register = filter (λ position. is_own position.account) day.register;
      trades = filter (λ trade. is_own trade.account) day.trades;
    }) day
