-- Facts that have all that a household's replay reads of a book.
use Rattle.std.specs.Prelude.{length, ◌≡◌}
use Rattle.household_fold.specs.Facts.{Known}
use Rattle.ledger_laws.specs.OwnedByAccounts.{TablesStand}
use Rattle.ledger_laws.specs.PartsByFacts.{AreFactsOf}
use Rattle.ledger_laws.specs.SoundBooks.{HaveTerms}
use Rattle.register_machine.specs.pricing.CorrectedBook.{Book}

-- The facts are those of the book, have the terms of each of its classes, and their tables stand by number and within limits.
pub record ServeBook (known : Known) (book : Book) : Type 0 where
  pub facts : AreFactsOf known book
  pub terms : HaveTerms known book
  pub tables : TablesStand known

-- And the sheet at hand is the last one.
pub record ServeLastSheet (known : Known) (book : Book) : Type 0 where
  pub serve : ServeBook known book
  pub last : known.sheet ≡ length book.table.sheets
