-- What a replay keeps of its positions and letters, whichever sheet comes next.
use Rattle.std.proofs.Common.{not}
use Rattle.std.specs.Prelude.{All, AllPairs, None, Option, Some, count_by, filter, if◌then◌else◌, length, position, sum_by, true, ℕ, ◌==◌, ◌^◌, ◌≡◌, ◌≤◌}
use Rattle.agent_events.specs.declared.order.Body.{Body}
use Rattle.agent_events.specs.declared.order.OrderRow.{OrderRow}
use Rattle.agent_events.specs.declared.request.ClassForm.{ClassForm}
use Rattle.class_terms.specs.Tables.{deferred_fault, front_fault}
use Rattle.forward_price.specs.declared.price_sheet.Sheet.{Sheet}
use Rattle.letter_of_intent.specs.Letters.{IsLetter}
use Rattle.letter_of_intent.specs.declared.letter.Letter.{Letter}
use Rattle.register_laws.specs.OrderTurns.{OrderTurn, register_at}
use Rattle.register_laws.specs.Trades.{IsOrderly}
use Rattle.register_machine.specs.pricing.CorrectedBook.{Book}
use Rattle.register_machine.specs.pricing.CorrectedOrders.{stands}
use Rattle.register_machine.specs.replay.Positions.{Position, Register, mils_of, stands_before}
use Rattle.register_machine.specs.replay.Purchase.{credit_of}
use Rattle.register_machine.specs.replay.Replay.{replay, replay_to}
use Rattle.share_lots.specs.Lots.{IsHolding, cost_total, held_total, most_cost, most_mils}

-- ---- The register.

-- One position for an account and class, by account and then class.
abbrev pub AreInOrder : Register → Type 0
AreInOrder register = AllPairs (λ a b. stands_before a b ≡ true) register

-- an open letter keeps its limits: a rate of at most 850 basis points, and purchases that fall short of its amount
abbrev pub KeepsLetter : Option Letter → Type 0
KeepsLetter None = Unit {0}
KeepsLetter (Some letter) = IsLetter letter

-- The lots of a position have mils and numbers that differ, and come to its ceilings at most. One of them at most is free,
-- mils are held only under a letter, and its next lot has a number of 31 bits.
pub record IsKeptPosition (position : Position) : Type 0 where
  pub holding : IsHolding position.holding
  pub one_free : count_by (λ lot. lot.free) position.holding.lots ≤ 1
  pub few_mils : mils_of position.holding ≤ most_mils
  pub low_cost : cost_total position.holding ≤ most_cost
  pub held : position.letter ≡ None → held_total position.holding ≡ 0
  pub next_lot : position.holding.next_lot ≤ 2 ^ 31

-- the lots of an account that aren't free
abbrev pub owned_in : ℕ → Position → ℕ
owned_in account position =
    if position.account == account then count_by (λ lot. not lot.free) position.holding.lots else 0

abbrev pub owned_lots : Register → ℕ → ℕ
owned_lots register account = sum_by (owned_in account) register

-- so many lots of an account that aren't free: two for each order that it may have
abbrev pub most_lots : ℕ
most_lots = 8192

pub record IsKeptRegister (register : Register) : Type 0 where
  pub in_order : AreInOrder register
  pub positions : All IsKeptPosition register
  pub few_lots : (account : ℕ) → owned_lots register account ≤ most_lots

-- In an orderly book the register is kept so after each of its sheets, at the turn of each order, and after all.
pub record KeepsRegisters (book : Book) : Type 0 where
  pub up_to : (number : ℕ) → IsKeptRegister (replay_to book number).register
  pub at_turn : (turn : OrderTurn book) → IsKeptRegister (register_at book turn)
  pub at_last : IsKeptRegister (replay book).register

abbrev pub OrderlyKeepsRegisters : Book → Type 0
OrderlyKeepsRegisters book = IsOrderly book → KeepsRegisters book

-- ---- Letters.

-- tables of front-end loads and schedules of deferred ones without a fault: no rate passes 850 basis points
pub record TermsWithinLimits (terms : ClassForm) : Type 0 where
  pub front : front_fault terms.front ≡ None
  pub deferred : deferred_fault terms.deferred ≡ None

abbrev pub count_of_accounts : Book → ℕ → ℕ
count_of_accounts book household = count_by (λ account. account.household == household) book.accounts

-- A book within the limits that the machine's rules keep: tables and schedules of loads without a fault, 1,000 classes and 64
-- accounts of a household at most.
pub record IsWithinLimits (book : Book) : Type 0 where
  pub terms : All TermsWithinLimits book.classes
  pub few_classes : length book.classes ≤ 1000
  pub few_accounts : (household : ℕ) → count_of_accounts book household ≤ 64

-- a price of at most $100,000.00
abbrev pub most_nav : ℕ
most_nav = 10000000

abbrev pub SheetInRange : Sheet → Type 0
SheetInRange sheet = All (λ price. price.1 ≤ most_nav) sheet.prices

-- a letter asks for an amount of at most $10,000,000,000.00
abbrev pub AsksInRange : Body → Type 0
AsksInRange (Body.Letter class amount) = (1 ≤ amount) × (amount ≤ 1000000000000)
AsksInRange _ = Unit {0}

abbrev pub RowInRange : OrderRow → Type 0
RowInRange row = AsksInRange row.order.body

-- And one whose prices and letters have the range of their fields.
pub record IsInRange (book : Book) : Type 0 where
  pub prices : All SheetInRange book.table.sheets
  pub letters : All RowInRange (filter stands book.orders)

-- In an orderly book within limits and in range each open letter keeps its own, its household's credit on its first day among
-- them: at most 10^21.
abbrev pub AreKeptLetters : Register → Type 0
AreKeptLetters register = All (λ position. KeepsLetter position.letter) register

pub record KeepsLetters (book : Book) : Type 0 where
  pub up_to : (number : ℕ) → AreKeptLetters (replay_to book number).register
  pub at_turn : (turn : OrderTurn book) → AreKeptLetters (register_at book turn)
  pub at_last : AreKeptLetters (replay book).register

abbrev pub OrderlyKeepsLetters : Book → Type 0
OrderlyKeepsLetters book = IsOrderly book → IsWithinLimits book → IsInRange book → KeepsLetters book

-- And no household's credit passes 10^21 on a register that is kept.
abbrev pub CreditStaysLow : Book → Sheet → Register → ℕ → Type 0
CreditStaysLow book sheet register account =
    IsWithinLimits book → All SheetInRange book.table.sheets → IsKeptRegister register
    → credit_of book sheet register account ≤ 10 ^ 21
