-- How many things of each kind a lawful journal can have, by the counts that the machine's rules keep.
use Rattle.std.specs.Prelude.{List, count_by, length, sum_by, ℕ, ◌*◌, ◌<◌, ◌^◌, ◌≤◌}
use Rattle.forward_price.specs.Sheets.{lists_class}
use Rattle.forward_price.specs.declared.price_sheet.Sheet.{Sheet}
use Rattle.fund_calendar.specs.PricingDays.{longest_span}
use Rattle.limit_laws.specs.InForm.{AreInForm}
use Rattle.register_laws.specs.Lawful.{book_behind}
use Rattle.register_machine.specs.corrections.Cash.{outstanding}
use Rattle.register_machine.specs.journal.Journals.{Journal}
use Rattle.register_machine.specs.journal.Kinds.{accounts_of}
use Rattle.register_machine.specs.pricing.CorrectedOrders.{orders_of}
use Rattle.register_machine.specs.replay.Dividend.{is_of_class}
use Rattle.register_machine.specs.replay.Positions.{Register}
use Rattle.register_machine.specs.replay.Replay.{replay, replay_to}

-- 100,000 households have at most 64 accounts each
abbrev pub most_accounts : ℕ
most_accounts = 6400000

-- an order is begun by one event of a journal, which has at most 10^8
abbrev pub most_orders_begun : ℕ
most_orders_begun = 100000000

-- 1,000 classes are on at most 3,660 sheets each
abbrev pub most_listings : ℕ
most_listings = 3660000

-- the sheets that list a class, and the prices on all sheets
abbrev pub sheets_listing : List Sheet → ℕ → ℕ
sheets_listing sheets class = count_by (λ sheet. lists_class sheet.prices class) sheets

abbrev pub prices_listed : List Sheet → ℕ
prices_listed sheets = sum_by (λ sheet. length sheet.prices) sheets

-- A lawful journal has few accounts and orders, and each class is on few sheets: no more than its calendar has pricing days. So
-- few prices are on its sheets, where each lists a class once.
pub record HasFewThings (journal : Journal) : Type 0 where
  pub accounts : length (accounts_of journal) ≤ most_accounts
  pub orders : length (orders_of journal) ≤ most_orders_begun
  pub listings : (class : ℕ) → sheets_listing (book_behind journal).table.sheets class ≤ longest_span
  pub prices : AreInForm journal → prices_listed (book_behind journal).table.sheets ≤ most_listings

-- the positions in a class
abbrev pub positions_in : Register → ℕ → ℕ
positions_in register class = count_by (is_of_class class) register

-- An account has one position in a class at most.
pub record HasFewPositions (journal : Journal) : Type 0 where
  pub up_to : (number class : ℕ) → positions_in (replay_to (book_behind journal) number).register class ≤ most_accounts
  pub at_last : (class : ℕ) → positions_in (replay (book_behind journal)).register class ≤ most_accounts

-- So the shares of a class fit 63 bits: 6,400,000 positions of at most 10^12 mils.
abbrev pub most_outstanding : ℕ
most_outstanding = 6400000 * 10 ^ 12

pub record HasFewShares (journal : Journal) : Type 0 where
  pub up_to : (number class : ℕ) → outstanding (replay_to (book_behind journal) number).register class ≤ most_outstanding
  pub at_last : (class : ℕ) → outstanding (replay (book_behind journal)).register class ≤ most_outstanding
  pub fits : most_outstanding < 2 ^ 63
