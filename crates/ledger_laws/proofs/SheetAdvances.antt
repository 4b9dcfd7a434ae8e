-- A ledger over one sheet more.
use Rattle.std.proofs.Common.{List, [], ap, arith, get_or, length, refl, subst, sym, take, ℕ, ◌+◌, ◌++◌, ◌∙◌, ◌∷◌, ◌≡◌}
use Rattle.std.proofs.Math.Seq.{take-length}
use Rattle.std.proofs.lemmas.List.{get_or_push, length-append}
use Rattle.agent_events.specs.Events.{Event}
use Rattle.agent_events.specs.declared.order.Order.{Order}
use Rattle.agent_events.specs.declared.request.SheetForm.{SheetForm}
use Rattle.checkpoint_replay.specs.Parts.{part_in}
use Rattle.checkpoint_replay.specs.declared.part.HouseholdPart.{HouseholdPart}
use Rattle.register_laws.proofs.PartsStay.{same_parts}
use Rattle.register_laws.proofs.EventReplays.{same-before, sheet-behind-all}
use Rattle.register_laws.specs.EventReplays.{sheet_behind}
use Rattle.forward_price.specs.declared.price_sheet.Sheet.{Sheet}
use Rattle.household_fold.specs.Facts.{Known, no_sheet}
use Rattle.checkpoint_replay.specs.Replays.{NumberedOrder, day_behind, known_on, orders_under}
use Rattle.ledger_laws.proofs.EachStep.{lets_step}
use Rattle.ledger_laws.proofs.ReplaysAsPart.{part-one-more}
use Rattle.ledger_laws.proofs.SoundBooks.{has_a_sound_book}
use Rattle.ledger_laws.specs.OwnedByAccounts.{CanStep}
use Rattle.ledger_laws.specs.PartsByFacts.{orders_of_part}
use Rattle.ledger_laws.specs.SoundBooks.{IsSoundBook}
use Rattle.ledger_laws.specs.BookFacts.{ServeLastSheet}
use Rattle.ledger_laws.specs.SheetLedgers.{AdvancesTo, AreRowsOn, LawfulLedgerAdvances}
use Rattle.register_laws.proofs.NothingBefore.{last-brought}
use Rattle.register_laws.specs.Households.{part_of}
use Rattle.register_laws.specs.Lawful.{book_behind}
use Rattle.register_machine.specs.journal.Journals.{Journal, with_event}
use Rattle.register_machine.specs.pricing.CorrectedBook.{Book}
use Rattle.register_machine.specs.replay.Replay.{replay, replay_over, replay_to}
use Rattle.register_machine.specs.replay.Trades.{Day}
use Rattle.ledger_laws.specs.Ledgers.{IsLedgerOf}
use Rattle.agent_events.specs.declared.event.EventKind.{EventKind}
use Rattle.register_machine.specs.journal.Lawful.{IsLawful}

-- a replay over all sheets is one up to the last
pub up-to-last : (book : Book) → replay book ≡ replay_to book (length book.table.sheets)
unfolding replay
up-to-last book = ap (replay_over book) (sym (take-length book.table.sheets))

module _ (known : Known) (rows : List NumberedOrder) (book : Book) (sheets : List Sheet) (sheet : Sheet) (ends : book.table.sheets ≡ sheets ++ sheet ∷ []) (serves : ServeLastSheet known book) (are : AreRowsOn rows book sheet) where
  as-many : length book.table.sheets ≡ length sheets + 1
  as-many = ap length ends ∙ length-append sheets (sheet ∷ [])

  last-sheet : get_or book.table.sheets (length sheets) no_sheet ≡ sheet
  last-sheet = ap (λ xs. get_or xs (length sheets) no_sheet) ends ∙ get_or_push sheets sheet no_sheet (length sheets) refl

  at-hand : known_on known (length sheets + 1) ≡ known
  at-hand =
      let number : length sheets + 1 ≡ known.sheet = omega (arith, as-many, serves.last) in
      ap (known_on known) number

  step-there : IsSoundBook book → (household : ℕ) → CanStep known (orders_under household rows) household (part_of book.accounts household (replay_to book (length sheets))).register
  step-there sound household =
      let register = (part_of book.accounts household (replay_to book (length sheets))).register in
      let there = lets_step known book household sound serves.serve.facts serves.serve.terms serves.serve.tables (length sheets) no_sheet (omega (arith, as-many)) in
      subst (λ (orders : List Order). CanStep known orders household register) (sym (are household))
      (subst (λ (s : Sheet). CanStep known (orders_of_part book household s) household register) last-sheet
      (subst (λ (k : Known). CanStep k (orders_of_part book household (get_or book.table.sheets (length sheets) no_sheet)) household register) at-hand there))

  day-there : (household : ℕ) → part_of book.accounts household (replay book) ≡ day_behind known (orders_under household rows) (part_of book.accounts household (replay_to book (length sheets)))
  day-there household =
      let before = part_of book.accounts household (replay_to book (length sheets)) in
      ap (part_of book.accounts household) (up-to-last book ∙ ap (replay_to book) as-many)
      ∙ (part-one-more known book household (length sheets) no_sheet serves.serve.facts (omega (arith, as-many))
      ∙ (ap (λ (k : Known). day_behind k (orders_of_part book household (get_or book.table.sheets (length sheets) no_sheet)) before) at-hand
      ∙ (ap (λ (s : Sheet). day_behind known (orders_of_part book household s) before) last-sheet
      ∙ ap (λ (orders : List Order). day_behind known orders before) (sym (are household)))))

  pub advances : (parts : List (ℕ × HouseholdPart)) → IsSoundBook book → ((household : ℕ) → part_in parts household ≡ part_of book.accounts household (replay_to book (length sheets))) → AdvancesTo known rows book parts
  advances parts sound shown = record {
    facts = (step-there sound 0).facts;
    households = λ household.
        let can = subst (λ (day : Day). CanStep known (orders_under household rows) household day.register) (sym (shown household)) (step-there sound household) in
        record { own_positions = can.owned; own_orders = can.orders_owned; lots = can.lots };
    ledger = λ new gone. record {
      part = λ household.
          gone household
          ∙ (ap (day_behind known (orders_under household rows)) (shown household)
          ∙ sym (day-there household));
    };
  }

-- the parts of the ledger are those of the book behind the sheet up to it
pub shown-before : (journal : Journal) (event : Event) (form : SheetForm) (parts : List (ℕ × HouseholdPart)) → IsLawful (with_event journal event) → event.kind ≡ EventKind.Sheet form → IsLedgerOf (book_behind journal) parts → (household : ℕ) → part_in parts household ≡ part_of (book_behind (with_event journal event)).accounts household (replay_to (book_behind (with_event journal event)) (length (book_behind journal).table.sheets))
shown-before journal event form parts lawful is ledger household =
    let sheets = (book_behind journal).table.sheets in
    ledger.part household
    ∙ (ap (part_of (book_behind journal).accounts household) (up-to-last (book_behind journal))
    ∙ (sym (same_parts journal event (last-brought journal event lawful).0 (take (length sheets) sheets) household)
    ∙ ap (part_of (book_behind (with_event journal event)).accounts household) (sym (same-before journal event lawful form is (length sheets) (omega arith)))))

pub ledger_advances : (known : Known) (rows : List NumberedOrder) (journal : Journal) (event : Event) (form : SheetForm) (parts : List (ℕ × HouseholdPart)) → LawfulLedgerAdvances known rows journal event form parts
ledger_advances known rows journal event form parts lawful is serves are ledger =
    advances known rows (book_behind (with_event journal event)) (book_behind journal).table.sheets (sheet_behind journal form)
    (sheet-behind-all journal event lawful form is) serves are parts (has_a_sound_book (with_event journal event) lawful)
    (shown-before journal event form parts lawful is ledger)
