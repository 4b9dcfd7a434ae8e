-- The books as they are kept are those of the journal: its classes with their shares, and the cash of all parties.
use Rattle.std.proofs.Common.{List, [], ap, map, pos, refl, subst, sym, ℕ, ◌∷◌, ◌≡◌}
use Rattle.std.proofs.lemmas.List.Elements.{All-map}
use Rattle.agent_events.specs.declared.verdict.Caller.{Caller}
use Rattle.checkpoint_replay.specs.Totals.{mils_held}
use Rattle.desk_books.specs.BooksOfJournals.{AreBooksOf}
use Rattle.desk_books.specs.declared.books.DeskBooks.{DeskBooks}
use Rattle.holder_statements.specs.KeptBooks.{KeepsCash, KeepsShares}
use Rattle.holder_statements.specs.declared.kept_books.ClassShares.{ClassShares}
use Rattle.register_desk.proofs.OtherHolders.{are_holders}
use Rattle.register_desk.specs.GatheredNumbers.{shares_in}
use Rattle.ledger_laws.proofs.HouseholdBooks.{is_of_households}
use Rattle.ledger_laws.proofs.LedgerTotals.{has_totals}
use Rattle.register_laws.specs.Lawful.{book_behind, own_at}
use Rattle.register_machine.specs.corrections.Cash.{outstanding}
use Rattle.register_machine.specs.corrections.Gains.{class_numbers_of}
use Rattle.register_machine.specs.corrections.Payments.{booked_movements}
use Rattle.register_machine.specs.journal.Journals.{Journal}
use Rattle.register_machine.specs.replay.Positions.{Register}
use Rattle.register_machine.specs.replay.Replay.{replay}

-- the shares that the ledger has of a class are those of the whole register
pub shares_kept : (journal : Journal) (books : DeskBooks) (class : ℕ) → AreBooksOf journal books → mils_held books.ledger.totals class ≡ pos (outstanding (replay (book_behind journal)).register class)
shares_kept journal books class are =
    (has_totals books.ledger (book_behind journal) (is_of_households journal are.lawful) are.tallied are.ledger).mils class

numbers-kept : (register : Register) (numbers : List ℕ) → map (λ row. row.class) (map (shares_in register) numbers) ≡ numbers
numbers-kept register [] = refl
numbers-kept register (n ∷ ns) = ap (λ ms. n ∷ ms) (numbers-kept register ns)

pub keeps_shares : (journal : Journal) (now : ℕ) (caller : Caller) (rows : List ClassShares) → rows ≡ map (shares_in (replay (book_behind journal)).register) (class_numbers_of journal) → KeepsShares (own_at journal now caller) (replay (book_behind journal)).register rows
keeps_shares journal now caller rows is =
    let register = (replay (book_behind journal)).register in
    subst (KeepsShares (own_at journal now caller) register) (sym is) (record {
      numbers = numbers-kept register (class_numbers_of journal);
      mils = All-map (λ (row : ClassShares). row.mils ≡ outstanding register row.class) (shares_in register) (class_numbers_of journal) (λ i d short. refl);
    })

pub keeps_cash : (journal : Journal) (now : ℕ) (caller : Caller) (books : DeskBooks) → AreBooksOf journal books → KeepsCash (own_at journal now caller) (booked_movements journal (replay (book_behind journal))) books.cash
keeps_cash journal now caller books are = record {
  balances = are.cash.balances;
  holders = are_holders journal are.lawful;
}
