-- The proof of the law `tables_that_agree_are_facts`.
use Rattle.ledger_laws.proofs.ReplaysAsPart.{sheets_give_facts}
use Rattle.ledger_laws.proofs.SoundBooks.{books-alike, have-terms}
use Rattle.ledger_laws.proofs.book_laws.tables_that_agree_are_facts.Goals as goal

pub returns : goal.returns
returns c known book agree numbered = record {
  facts = sheets_give_facts known book (books-alike known book agree) agree.sheets numbered;
  terms = have-terms known book agree;
}
