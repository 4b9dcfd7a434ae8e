-- What a sheet on trial prices, what it makes of each household, and whom it reaches.
use Rattle.std.proofs.Common.{All, AllPairs, List, None, Option, Some, [], ap, append-nil, arith, false, get_or, length, option_to_list, refl, subst, sym, ℕ, ◌+◌, ◌++◌, ◌<◌, ◌==◌, ◌||◌, ◌∙◌, ◌∷◌, ◌≡◌, ◌≤◌}
use Rattle.std.proofs.lemmas.List.{get_or_append_left, get_or_push, length-append, length-map}
use Rattle.std.proofs.lemmas.List.Elements.{All-map, All-weaker}
use Rattle.agent_events.specs.Events.{Event}
use Rattle.agent_events.specs.declared.event.EventKind.{EventKind}
use Rattle.agent_events.specs.declared.order.Order.{Order}
use Rattle.agent_events.specs.declared.order.OrderRow.{OrderRow}
use Rattle.agent_events.specs.declared.request.AccountForm.{AccountForm}
use Rattle.agent_events.specs.declared.request.SheetForm.{SheetForm}
use Rattle.checkpoint_replay.specs.Differences.{AreChangesOf}
use Rattle.checkpoint_replay.specs.Moves.{AreApart, households_of, part_after}
use Rattle.checkpoint_replay.specs.Parts.{part_in}
use Rattle.checkpoint_replay.specs.Sheets.{IsReached as IsMoved}
use Rattle.checkpoint_replay.specs.declared.change.HouseholdMove.{HouseholdMove}
use Rattle.desk_books.specs.LedgerChanges.{IsLedgerChange, MovesLedger}
use Rattle.desk_books.specs.declared.books.DeskBooks.{DeskBooks}
use Rattle.desk_books.specs.declared.change.LedgerChange.{LedgerChange}
use Rattle.register_laws.proofs.EventReplays.{adds_sheet}
use Rattle.register_laws.specs.EventReplays.{is_correction, is_sheet, sheet_behind}
use Rattle.forward_price.specs.PriceTables.{Table}
use Rattle.forward_price.specs.declared.price_sheet.Sheet.{Sheet}
use Rattle.gain_loss_book.specs.Booked.{correction_by}
use Rattle.gain_loss_book.specs.ClassGains.{most_mils, size_of_mils}
use Rattle.gain_loss_book.specs.Posted.{most_cash, most_gains, size_of_cash, size_of_correction}
use Rattle.gain_loss_book.specs.declared.posting.Correction.{Correction}
use Rattle.household_fold.specs.Facts.{Known, no_sheet, sheet_at_hand}
use Rattle.household_fold.specs.Quiet.{is_quiet_for}
use Rattle.checkpoint_replay.specs.Replays.{NumberedOrder, day_behind, known_on, orders_under}
use Rattle.ledger_laws.proofs.ReplaysAsPart.{replayed-in-order}
use Rattle.ledger_laws.proofs.StepsAsPart.{steps_as_part}
use Rattle.ledger_laws.proofs.HouseholdBooks.{is_of_households}
use Rattle.ledger_laws.proofs.ServedBooks.{new_sheet_served}
use Rattle.ledger_laws.proofs.SheetAdvances.{ledger_advances}
use Rattle.ledger_laws.specs.BookFacts.{ServeLastSheet}
use Rattle.ledger_laws.specs.SheetLedgers.{AdvancesTo, AreRowsOn}
use Rattle.register_laws.proofs.Comparisons.{eq-no, eq-yes}
use Rattle.register_laws.proofs.NothingBefore.{begins_anew, last-brought}
use Rattle.register_laws.proofs.OneEventMore.{gathers-on}
use Rattle.register_laws.proofs.SheetsClimb.{sheets_never_fall}
use Rattle.register_laws.proofs.TablesAreOrderly.{numbered}
use Rattle.register_laws.specs.Households.{own_orders, part_of}
use Rattle.register_laws.specs.Lawful.{book_behind}
use Rattle.register_laws.specs.OneEventMore.{orders_after}
use Rattle.register_laws.specs.ReplayKeeps.{AreInOrder}
use Rattle.register_machine.specs.corrections.Payments.{bearer_in}
use Rattle.register_machine.specs.journal.Journals.{Journal, with_event}
use Rattle.register_machine.specs.journal.Kinds.{account_in, accounts_of, sheet_in}
use Rattle.register_machine.specs.journal.Lawful.{IsLawful}
use Rattle.register_machine.specs.pricing.CorrectedBook.{Book}
use Rattle.register_machine.specs.pricing.CorrectedOrders.{orders_of}
use Rattle.register_machine.specs.replay.Replay.{orders_on, priced_orders, replay}
use Rattle.register_machine.specs.replay.Trades.{Day}
use Rattle.ledger_laws.proofs.MovedDays.{differences-by-days}
use Rattle.standing_orders.proofs.IndexSteps.{last-found}
use Rattle.desk_books.proofs.QuietSheets.{reached-by-book}
use Rattle.desk_books.specs.SheetReach.{IsReached, TakeOneStepEach}
use Rattle.desk_books.specs.SheetTrials.{IsOnTrial, known_on_sheet}
use Rattle.standing_orders.proofs.PricedLast.{last_takes, priced_after_waiting}
use Rattle.standing_orders.specs.Entries.{is_priced}
use Rattle.standing_orders.specs.Priced.{ArePricedOn, IsOfBook}
use Rattle.standing_orders.specs.Rows.{AreOwners, HasEach}
use Rattle.standing_orders.specs.WaitingLaws.{ComesLast, IsNumbered}

some-same : {X : Type 0} {x y : X} → Some x ≡ Some y → x ≡ y
some-same e = cc

-- the register of a whole replay stands in order
in-order : (book : Book) → AreInOrder (replay book).register
unfolding replay
in-order book = replayed-in-order book book.table.sheets

-- ---- a sheet behind a lawful journal

module _ (journal : Journal) (event : Event) (form : SheetForm) (lawful : IsLawful (with_event journal event)) (is : event.kind ≡ EventKind.Sheet form) where
  rows-same : orders_of (with_event journal event) ≡ orders_of journal
  rows-same = (begins_anew journal event lawful).orders ∙ ap (orders_after (length journal) (orders_of journal)) is

  pub accounts-same : accounts_of (with_event journal event) ≡ accounts_of journal
  accounts-same =
      gathers-on account_in journal event
      ∙ (ap (λ k. accounts_of journal ++ option_to_list (account_in k)) is ∙ append-nil (accounts_of journal))

  sheets-more : (book_behind (with_event journal event)).table.sheets ≡ (book_behind journal).table.sheets ++ sheet_behind journal form ∷ []
  sheets-more = (adds_sheet journal event lawful form is).sheets

  -- no sheet before it is later, or of its number
  never-after : (k : ℕ) (d : Sheet) → k < length (book_behind journal).table.sheets → (get_or (book_behind journal).table.sheets k d).moment ≤ form.moment
  never-after k d short =
      let sheets = (book_behind journal).table.sheets in
      let new = sheet_behind journal form in
      let rise : AllPairs (λ (sheet later : Sheet). sheet.moment ≤ later.moment) (sheets ++ new ∷ []) = subst (λ all. AllPairs (λ (sheet later : Sheet). sheet.moment ≤ later.moment) all) sheets-more (sheets_never_fall (with_event journal event) lawful) in
      let low : get_or (sheets ++ new ∷ []) k d ≡ get_or sheets k d = get_or_append_left sheets (new ∷ []) d k short in
      let high : get_or (sheets ++ new ∷ []) (length sheets) d ≡ new = get_or_push sheets new d (length sheets) refl in
      let more : length sheets < length (sheets ++ new ∷ []) = (let all = length-append sheets (new ∷ []) in omega (arith, all)) in
      subst (λ (s : Sheet). s.moment ≤ form.moment) low (subst (λ (s : Sheet). (get_or (sheets ++ new ∷ []) k d).moment ≤ s.moment) high (rise k (length sheets) d short more))

  another-number : (k : ℕ) (d : Sheet) → k < length (book_behind journal).table.sheets → (get_or (book_behind journal).table.sheets k d).number ≡ (sheet_behind journal form).number → ⊥
  another-number k d short alike =
      let is = (numbered journal (last-brought journal event lawful).0).corrected.each k d short in
      omega (arith, is, alike, short)

  comes-last : (row : OrderRow) → ComesLast (book_behind journal).table.sheets (sheet_behind journal form) row
  comes-last row k d short prices = (another-number k d short, never-after k d short)

  last-number : IsNumbered (book_behind journal).table.sheets (sheet_behind journal form)
  last-number =
      let new = sheet_behind journal form in
      last-found (λ (s : Sheet). s.number == new.number) (book_behind journal).table.sheets new
      (λ k d short. eq-no (get_or (book_behind journal).table.sheets k d).number new.number (another-number k d short))
      (eq-yes new.number new.number refl)

-- ---- books with the sheet on trial

-- the orders are those that the sheet of this number prices in the books
abbrev pub ArePriced : DeskBooks → ℕ → List NumberedOrder → Type 0
ArePriced books number rows = ArePricedOn number (orders_of books.book.journal) books.prices.table.sheets books.orders.owners books.orders.waiting rows

module _ (books : DeskBooks) (number : ℕ) (event : Event) (on : IsOnTrial books number event) where
  sheets-on : books.prices.table.sheets ≡ (book_behind books.book.journal).table.sheets ++ sheet_behind books.book.journal on.form ∷ []
  sheets-on = ap (λ (t : Table). t.sheets) on.prices ∙ sheets-more books.book.journal event on.form on.follows on.sheet

  number-on : number ≡ (sheet_behind books.book.journal on.form).number
  number-on =
      let all = ap length sheets-on in
      let more = length-append (book_behind books.book.journal).table.sheets (sheet_behind books.book.journal on.form ∷ []) in
      let last = on.last in
      omega (arith, all, more, last)

  -- the orders that are priced on the sheet are those of each household, in turn
  pub rows-on : (rows : List NumberedOrder) → ArePriced books number rows → AreRowsOn rows (book_behind (with_event books.book.journal event)) (sheet_behind books.book.journal on.form)
  rows-on rows priced =
      let journal = books.book.journal in
      let sheets = (book_behind journal).table.sheets in
      let new = sheet_behind journal on.form in
      let waiting = books.orders.waiting in
      let owners = books.orders.owners in
      let given : ArePricedOn new.number (orders_of journal) (sheets ++ new ∷ []) owners waiting rows = subst (λ s. ArePricedOn new.number (orders_of journal) s owners waiting rows) sheets-on (subst (λ n. ArePricedOn n (orders_of journal) books.prices.table.sheets owners waiting rows) number-on priced) in
      let of : IsOfBook (book_behind (with_event journal event)) (orders_of journal) (sheets ++ new ∷ []) owners = record {
        orders = rows-same journal event on.form on.follows on.sheet;
        sheets = sheets-more journal event on.form on.follows on.sheet;
        households = subst (λ (accounts : List AccountForm). AreOwners accounts (orders_of journal) owners) (sym (accounts-same journal event on.form on.follows on.sheet)) on.index.owned;
      } in
      let each : HasEach (is_priced new.number (sheets ++ new ∷ [])) (orders_of journal) waiting = λ place row there passes. on.index.enough place row there (priced_after_waiting sheets new row (comes-last journal event on.form on.follows on.sheet row) passes) in
      given (book_behind (with_event journal event)) new refl of each (last_takes (orders_of journal) sheets new waiting (last-number journal event on.form on.follows on.sheet) on.index.all_wait)

  -- ---- the facts

  abbrev known_with : Table → Known
  known_with table = record { table = table; terms = books.tables.terms; accounts = books.tables.accounts; rates = books.tables.rates; patch = None; sheet = number }

  served : ServeLastSheet (known_on_sheet books number) (book_behind (with_event books.book.journal event))
  served =
      subst (λ (table : Table). ServeLastSheet (known_with table) (book_behind (with_event books.book.journal event))) (sym on.prices)
      (new_sheet_served books.book.journal books.tables event on.form number on.follows on.sheet on.tables (on.last ∙ ap (λ (t : Table). length t.sheets) on.prices))

  at-hand : sheet_at_hand (known_on_sheet books number) ≡ sheet_behind books.book.journal on.form
  at-hand =
      let known = known_on_sheet books number in
      let sheets = (book_behind books.book.journal).table.sheets in
      let new = sheet_behind books.book.journal on.form in
      let later = (book_behind (with_event books.book.journal event)).table.sheets in
      let ends : later ≡ sheets ++ new ∷ [] = sheets-more books.book.journal event on.form on.follows on.sheet in
      let many : length later ≡ length sheets + 1 = ap length ends ∙ length-append sheets (new ∷ []) in
      let same : length sheets + 1 ≡ number = sym number-on in
      let last : get_or later (length sheets) no_sheet ≡ new = ap (λ xs. get_or xs (length sheets) no_sheet) ends ∙ get_or_push sheets new no_sheet (length sheets) refl in
      ap (λ n. sheet_at_hand (known_on known n)) (sym same)
      ∙ (served.serve.facts.at_hand (length sheets) no_sheet (omega (arith, many)) ∙ last)

  pub advances : (rows : List NumberedOrder) → ArePriced books number rows → AdvancesTo (known_on_sheet books number) rows (book_behind (with_event books.book.journal event)) books.ledger.parts
  advances rows priced =
      ledger_advances (known_on_sheet books number) rows books.book.journal event on.form books.ledger.parts on.follows on.sheet served (rows-on rows priced) on.ledger

  -- ---- what the sheet makes of each household

  part-before : (household : ℕ) → part_of (book_behind (with_event books.book.journal event)).accounts household (replay (book_behind books.book.journal)) ≡ part_in books.ledger.parts household
  part-before household =
      ap (λ (accounts : List AccountForm). part_of accounts household (replay (book_behind books.book.journal))) (accounts-same books.book.journal event on.form on.follows on.sheet)
      ∙ sym (on.ledger.part household)

  -- the day that a step leaves is the household's in the book behind the sheet
  pub step-leads : (rows : List NumberedOrder) → ArePriced books number rows → (household : ℕ) → day_behind (known_on_sheet books number) (orders_under household rows) (part_in books.ledger.parts household) ≡ part_of (book_behind (with_event books.book.journal event)).accounts household (replay (book_behind (with_event books.book.journal event)))
  step-leads rows priced household =
      let journal = books.book.journal in
      let old = replay (book_behind journal) in
      let book = book_behind (with_event journal event) in
      let known = known_on_sheet books number in
      let new = sheet_behind journal on.form in
      let day = part_of book.accounts household old in
      let step = steps_as_part book known household new old served.serve.facts.alike at-hand (in-order (book_behind journal)) in
      sym (ap (part_of book.accounts household) (adds_sheet journal event on.follows on.form on.sheet).goes_on
      ∙ (step
      ∙ (ap (λ (orders : List Order). day_behind known orders day) (sym (rows-on rows priced household))
      ∙ ap (day_behind known (orders_under household rows)) (part-before household))))

  -- ---- whom the sheet reaches

  reached-once : (rows : List NumberedOrder) → ArePriced books number rows → (household : ℕ) → is_quiet_for (known_on_sheet books number) (orders_under household rows) (part_in books.ledger.parts household).register ≡ false → IsReached books.book.journal event on.form household
  reached-once rows priced household fails =
      let journal = books.book.journal in
      let book = book_behind (with_event journal event) in
      let known = known_on_sheet books number in
      let new = sheet_behind journal on.form in
      let here = ap (λ (day : Day). is_quiet_for known (orders_under household rows) day.register) (part-before household) in
      reached-by-book known book new (own_orders book.accounts household (orders_on (priced_orders book) new)) (orders_under household rows) (part_of book.accounts household (replay (book_behind journal))).register
      served.serve.facts.alike at-hand (rows-on rows priced household) (here ∙ fails)

  pub steps-taken : (rows : List NumberedOrder) → ArePriced books number rows → (moves : List HouseholdMove) → AreApart moves → All (IsMoved (known_on_sheet books number) rows books.ledger.parts) moves → (before after : ℕ) → after ≡ before + length moves → TakeOneStepEach books.book.journal event (households_of moves) before after
  steps-taken rows priced moves apart reached before after count = record {
    apart = apart;
    reached = λ form is.
        let same : on.form ≡ form = some-same (sym (ap sheet_in on.sheet) ∙ ap sheet_in is) in
        subst (λ (f : SheetForm). All (IsReached books.book.journal event f) (households_of moves)) same
        (All-map (IsReached books.book.journal event on.form) (λ (change : HouseholdMove). change.household) moves
        (All-weaker (IsMoved (known_on_sheet books number) rows books.ledger.parts) (λ (change : HouseholdMove). IsReached books.book.journal event on.form change.household)
        (λ change moved. reached-once rows priced change.household moved) moves reached));
    count = count ∙ ap (λ n. before + n) (sym (length-map moves (λ (change : HouseholdMove). change.household)));
  }

  -- ---- what the sheet makes of the ledger

  pub moves-ledger : (rows : List NumberedOrder) → ArePriced books number rows → (change : LedgerChange) → AreApart change.change.moves → ((household : ℕ) → part_after change.change.moves books.ledger.parts household ≡ day_behind (known_on_sheet books number) (orders_under household rows) (part_in books.ledger.parts household)) → AreChangesOf change.change.changes books.ledger.parts change.change.moves → change.correction ≡ None → size_of_cash change.change.changes.cash ≤ most_cash → size_of_mils change.change.changes.outstanding ≤ most_mils → IsLedgerChange books.book.journal event books.ledger.parts (Some change)
  moves-ledger rows priced change apart days changes none cash mils =
      let journal = books.book.journal in
      let before = book_behind journal in
      let after = book_behind (with_event journal event) in
      let to : (household : ℕ) → part_after change.change.moves books.ledger.parts household ≡ part_of after.accounts household (replay after) = λ household. days household ∙ step-leads rows priced household in
      let moves : MovesLedger journal event books.ledger.parts change = record {
        leads = λ new moved. record { part = λ household. moved household ∙ to household };
        changes = changes;
        differences = differences-by-days change.change.changes before after books.ledger.parts change.change.moves (is_of_households journal (last-brought journal event on.follows).0) (is_of_households (with_event journal event) on.follows) (record { from = on.ledger; to = to; apart = apart }) changes;
        correction = none ∙ sym (ap (λ kind. correction_by (bearer_in kind) journal event) on.sheet);
        cash = cash;
        mils = mils;
        gains = subst (λ (correction : Option Correction). size_of_correction correction ≤ most_gains) (sym none) (omega arith);
      } in
      (ap (λ kind. is_sheet kind || is_correction kind) on.sheet, moves)
