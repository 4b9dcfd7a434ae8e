-- What the trial of a correction makes of the ledger is what the correction does, where it then follows the journal.
use Rattle.std.proofs.Common.{Bool, List, Option, Some, ap, false, nat_eq, refl, sym, true, ℕ, ◌∙◌, ◌≡◌, ◌||◌}
use Rattle.std.proofs.lemmas.Bool.{true≢false}
use Rattle.std.specs.List.{list_any}
use Rattle.agent_events.specs.Events.{Event}
use Rattle.agent_events.specs.declared.event.EventKind.{EventKind}
use Rattle.agent_events.specs.declared.order.Bearer.{Bearer}
use Rattle.agent_events.specs.declared.reply_lists.ClassGain.{ClassGain}
use Rattle.checkpoint_replay.specs.Differences.{AreChangesOf}
use Rattle.checkpoint_replay.specs.Moves.{AreApart, Moves, part_after}
use Rattle.checkpoint_replay.specs.Parts.{part_in}
use Rattle.desk_books.specs.HouseholdsReopened.{AreReached}
use Rattle.desk_books.specs.declared.least.BrokenTrade.{BrokenTrade}
use Rattle.desk_books.proofs.BrokenOfAll.{part-left}
use Rattle.desk_books.proofs.ChangedClasses.{has_changed, numbers_rise}
use Rattle.ledger_laws.proofs.MovedDays.{differences-by-days}
use Rattle.desk_books.specs.Changed.{AreGainsOf, AreWithin, change_with}
use Rattle.desk_books.specs.Reopened.{AreReopened, IsTriedOver}
use Rattle.desk_books.specs.LedgerChanges.{IsLedgerChange}
use Rattle.desk_books.specs.declared.books.DeskBooks.{DeskBooks}
use Rattle.register_laws.specs.EventReplays.{is_correction, is_sheet}
use Rattle.forward_price.specs.PriceTables.{Table}
use Rattle.forward_price.specs.declared.price_sheet.Sheet.{Sheet}
use Rattle.gain_loss_book.proofs.BookedFacts.{gains_between_are}
use Rattle.gain_loss_book.specs.Booked.{AreDifferences, correction_at, correction_by}
use Rattle.gain_loss_book.specs.Booked as booked
use Rattle.gain_loss_book.specs.ClassGains.{gains_in}
use Rattle.gain_loss_book.specs.declared.posting.Correction.{Correction}
use Rattle.household_fold.specs.Facts.{Known, sheets_known}
use Rattle.ledger_laws.proofs.CorrectedParts.{keeps_accounts, reopens}
use Rattle.ledger_laws.proofs.HouseholdBooks.{is_of_households}
use Rattle.ledger_laws.proofs.Reopenings.{reopenings_correct, unmoved}
use Rattle.ledger_laws.specs.CorrectedLedgers.{LeavesUnmoved, is_moved}
use Rattle.register_laws.proofs.OneEventMore.{table_goes_on}
use Rattle.register_laws.specs.Households.{part_of}
use Rattle.register_laws.specs.Lawful.{book_behind}
use Rattle.register_machine.specs.corrections.Gains.{class_numbers_of, gains_at, gains_between}
use Rattle.register_machine.specs.corrections.Payments.{bearer_in}
use Rattle.register_machine.specs.journal.Journals.{Journal, with_event}
use Rattle.register_machine.specs.journal.Lawful.{IsLawful}
use Rattle.register_machine.specs.pricing.CorrectedBook.{Book, book_of}
use Rattle.register_machine.specs.pricing.PublishedTable.{table_behind, table_by, table_of}
use Rattle.register_machine.specs.replay.Replay.{replay}
use Rattle.agent_events.specs.declared.request.AccountForm.{AccountForm}

-- ---- the published table stays

table-stays : (table : Table) (moment : ℕ) (kind : EventKind) → is_correction kind ≡ true → table_by table moment kind ≡ table
table-stays table moment (EventKind.FixPrice form) corrects = refl
table-stays table moment (EventKind.FixRate form) corrects = refl
table-stays table moment (EventKind.Enter form) corrects = refl
table-stays table moment (EventKind.Replace form) corrects = refl
table-stays table moment (EventKind.Void form) corrects = refl
table-stays table moment _ corrects = absurd (true≢false (sym corrects))

same-table : (journal : Journal) (event : Event) → is_correction event.kind ≡ true → table_of (with_event journal event) ≡ table_of journal
same-table journal event corrects =
    table_goes_on journal event ∙ table-stays (table_of journal) event.moment event.kind corrects

own-table : (journal : Journal) → booked.table_behind journal ≡ table_of journal
unfolding table_behind
own-table journal = refl

-- ---- the gains

gains-at : (journal : Journal) (event : Event) → is_correction event.kind ≡ true → gains_at (booked.table_behind journal) journal event ≡ gains_between (class_numbers_of journal) (replay (book_behind journal)) (replay (book_behind (with_event journal event))) (book_behind (with_event journal event)).table.sheets
gains-at journal event corrects =
    ap (λ (table : Table). gains_at table journal event) (own-table journal)
    ∙ ap (λ (table : Table). gains_between (class_numbers_of journal) (replay (book_behind journal)) (replay (book_of table (with_event journal event))) (book_of table (with_event journal event)).table.sheets)
    (sym (same-table journal event corrects))

-- ---- the days

module _ (books : DeskBooks) (event : Event) (known : Known) (households : List ℕ) (change : Moves) (first : Option BrokenTrade)
    (is : IsTriedOver books event known) (reached : AreReached books.book.journal event.kind households)
    (are : AreReopened books event known households change.moves first) (made : AreChangesOf change.changes books.ledger.parts change.moves) (apart : AreApart change.moves) (lawful : IsLawful (with_event books.book.journal event)) where
  abbrev before_it : Book
  before_it = book_behind books.book.journal

  abbrev after_it : Book
  after_it = book_behind (with_event books.book.journal event)

  left : LeavesUnmoved before_it after_it change.moves
  left household none =
      part-left books event known households household is reached (ap (list_any (nat_eq household)) (sym are.households) ∙ none)

  kept : after_it.accounts ≡ before_it.accounts
  kept = keeps_accounts books.book.journal event is.corrects

  day-of : (household : ℕ) (b : Bool) → is_moved change.moves household ≡ b → part_after change.moves books.ledger.parts household ≡ part_of after_it.accounts household (replay after_it)
  day-of household true moved =
      let own = are.reopened household moved in
      own.part ∙ (reopens known own.rows after_it household is.trial.sound.sound is.serve.serve own.own).part
  day-of household false none =
      unmoved change.moves household (part_in books.ledger.parts household) none
      ∙ (is.books_are.ledger.part household
      ∙ (sym (left household none).whole
      ∙ ap (λ (accounts : List AccountForm). part_of accounts household (replay after_it)) (sym kept)))

  differ : AreDifferences change.changes (replay before_it) (replay after_it)
  differ =
      differences-by-days change.changes before_it after_it books.ledger.parts change.moves
      (is_of_households books.book.journal is.books_are.lawful) (is_of_households (with_event books.book.journal event) lawful)
      (record { from = is.books_are.ledger; to = λ household. day-of household (is_moved change.moves household) refl; apart = apart })
      made

  corrected : (bearer : Bearer) (gains : List ClassGain) → bearer_in event.kind ≡ Some bearer → AreGainsOf change.changes (sheets_known known) gains → Some (record { bearer = bearer; gains = gains }) ≡ correction_at books.book.journal event
  corrected bearer gains bears gain =
      let journal = books.book.journal in
      ap (λ (all : List ClassGain). with-gains all)
      (gain (class_numbers_of journal) (numbers_rise journal is.books_are.lawful) (has_changed journal event change.changes is.books_are.lawful lawful is.corrects differ)
      ∙ (ap (λ (sheets : List Sheet). gains_in change.changes sheets (class_numbers_of journal)) is.serve.sheets
      ∙ (gains_between_are (class_numbers_of journal) (replay before_it) (replay after_it) after_it.table.sheets change.changes differ
      ∙ sym (gains-at journal event is.corrects))))
      ∙ ap (λ (found : Option Bearer). correction_by found journal event) (sym bears)
    where
      with-gains : List ClassGain → Option Correction
      with-gains all = Some (record { bearer = bearer; gains = all })

  or-right : (a b : Bool) → b ≡ true → (a || b) ≡ true
  or-right true b e = refl
  or-right false b e = e

  pub changes_ledger : (bearer : Bearer) (gains : List ClassGain) → bearer_in event.kind ≡ Some bearer → AreGainsOf change.changes (sheets_known known) gains → AreWithin change.changes gains → IsLedgerChange books.book.journal event books.ledger.parts (Some (change_with change bearer gains))
  changes_ledger bearer gains bears gain within = (
    or-right (is_sheet event.kind) (is_correction event.kind) is.corrects,
    record {
      leads = λ new shown. reopenings_correct known before_it after_it books.ledger.parts new change.moves is.serve.serve kept is.books_are.ledger are.reopened left shown;
      changes = made;
      differences = differ;
      correction = corrected bearer gains bears gain;
      cash = within.cash;
      mils = within.mils;
      gains = within.gains_fit;
    },
  )
