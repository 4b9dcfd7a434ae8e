-- Books that a household's steps can meet, and tables of facts that give a book.
use Rattle.std.specs.List.{list_all, list_any}
use Rattle.std.specs.Option.{option_map_or}
use Rattle.std.specs.Prelude.{All, Bool, filter, is_some, option_map, true, ℕ, ◌≡◌}
use Rattle.agent_events.specs.declared.order.OrderRow.{OrderRow}
use Rattle.forward_price.specs.PriceTables.{AreNumbered}
use Rattle.forward_price.specs.Sheets.{lists_class}
use Rattle.forward_price.specs.declared.price_sheet.Sheet.{Sheet}
use Rattle.household_fold.specs.Facts.{Known, class_in_book, rate_numbered, row_numbered, sheets_known, terms_numbered}
use Rattle.ledger_laws.specs.PartsByFacts.{AreFactsOf}
use Rattle.register_laws.specs.Identities.{is_class}
use Rattle.register_laws.specs.Lawful.{book_behind}
use Rattle.register_laws.specs.Trades.{IsOrderly}
use Rattle.register_machine.specs.journal.Journals.{Journal}
use Rattle.register_machine.specs.journal.Kinds.{class_numbered, household_of}
use Rattle.register_machine.specs.journal.Lawful.{IsLawful}
use Rattle.register_machine.specs.pricing.CorrectedBook.{Book}
use Rattle.register_machine.specs.pricing.CorrectedOrders.{stands}
use Rattle.register_machine.specs.pricing.DividendRates.{rate_at}
use Rattle.register_machine.specs.pricing.OrderClasses.{classes_in}

-- ---- Sound books.

abbrev pub has_class_in : Book → ℕ → Bool
has_class_in book class = list_any (is_class class) book.classes

-- all classes of an order are the book's
abbrev pub NamesItsClasses : Book → OrderRow → Type 0
NamesItsClasses book row = list_all (has_class_in book) (classes_in row.order.body) ≡ true

-- and so are all classes of a sheet
abbrev pub ListsItsClasses : Book → Sheet → Type 0
ListsItsClasses book sheet = (class : ℕ) → lists_class sheet.prices class ≡ true → has_class_in book class ≡ true

-- A book is sound: it is orderly, and its standing orders and its sheets name classes of it. The book of a correction on
-- trial can be sound before it is known whether its journal is lawful.
pub record IsSoundBook (book : Book) : Type 0 where
  pub orderly : IsOrderly book
  pub orders : All (NamesItsClasses book) (filter stands book.orders)
  pub sheets : All (ListsItsClasses book) book.table.sheets

-- That of a lawful journal is.
abbrev pub LawfulHasASoundBook : Journal → Type 0
LawfulHasASoundBook journal = IsLawful journal → IsSoundBook (book_behind journal)

-- ---- Facts by their tables.

-- each class of the book has its terms among the facts
abbrev pub HaveTerms : Known → Book → Type 0
HaveTerms known book = (class : ℕ) → has_class_in book class ≡ true → is_some (terms_numbered known.terms class) ≡ true

-- The tables of the facts have what the book has: the same sheets, with the correction on trial, and by number the same terms of
-- each class, the same household of each account and the same rates.
pub record TablesAgree (known : Known) (book : Book) : Type 0 where
  pub sheets : sheets_known known ≡ book.table.sheets
  pub terms : (class : ℕ)
      → option_map class_in_book (terms_numbered known.terms class) ≡ class_numbered book.classes class
  pub accounts : (account : ℕ)
      → option_map (λ row. row.household) (row_numbered known.accounts account) ≡ household_of book.accounts account
  pub rates : (class moment : ℕ)
      → option_map_or (λ row. row.rate) (rate_numbered known.rates class moment) 0 ≡ rate_at book.rates class moment

-- So they are the facts of the book, and have the terms of each of its classes.
pub record AreGivenFacts (known : Known) (book : Book) : Type 0 where
  pub facts : AreFactsOf known book
  pub terms : HaveTerms known book

abbrev pub TablesGiveFacts : Known → Book → Type 0
TablesGiveFacts known book = TablesAgree known book → AreNumbered book.table.sheets → AreGivenFacts known book
