-- Where the replay of a household on trial may begin, and what its correction leaves of the kept states.
use Rattle.std.proofs.Common.{Bool, Contains, List, None, Option, Some, [], ap, arith, false, length, nat_eq, refl, subst, sym, take, true, ℕ, ◌<◌, ◌∙◌, ◌∷◌, ◌≡◌, ◌≤◌}
use Rattle.std.proofs.lemmas.Bool.{true≢false}
use Rattle.std.proofs.lemmas.List.{length-map}
use Rattle.std.proofs.lemmas.List.Elements.{All-contains, All-weaker}
use Rattle.std.specs.List.{list_any}
use Rattle.std.specs.Option.{option_map_or}
use Rattle.std.specs.Prelude.{find, is_some, option_map}
use Rattle.agent_events.specs.Events.{Event}
use Rattle.agent_events.specs.declared.event.EventKind.{EventKind}
use Rattle.agent_events.specs.declared.request.AccountForm.{AccountForm}
use Rattle.agent_events.specs.declared.order.OrderRow.{OrderRow}
use Rattle.agent_events.specs.declared.request.EntryForm.{EntryForm}
use Rattle.agent_events.specs.declared.request.FixPriceForm.{FixPriceForm}
use Rattle.agent_events.specs.declared.request.FixRateForm.{FixRateForm}
use Rattle.agent_events.specs.declared.trade.Trade.{Trade}
use Rattle.checkpoint_replay.specs.Parts.{part_in}
use Rattle.checkpoint_replay.specs.Reopenings.{IsReplayedTo}
use Rattle.desk_books.specs.Fresh.{IsOnTrial}
use Rattle.desk_books.specs.Reopened.{IsTriedOver}
use Rattle.desk_books.specs.Settled.{AreForgotten, AreForgottenBy, IsTrialOf, KeepsStates}
use Rattle.desk_books.specs.Starts.{LeavesBefore, LeavesSettledBehind, LeavesSettledOnTrial, first_start, first_touched, number_listed, start_at, start_by}
use Rattle.desk_books.specs.declared.starts.KeptStart.{KeptStart}
use Rattle.desk_books.specs.declared.correction_trial.Trial.{Trial}
use Rattle.desk_books.specs.declared.correction_trial.Tried.{Tried}
use Rattle.desk_books.proofs.ForgetFacts.{left-stays}
use Rattle.desk_books.proofs.ServedTrials.{listed_on}
use Rattle.desk_books.specs.BooksOfJournals.{AreBooksOf}
use Rattle.desk_books.specs.declared.books.DeskBooks.{DeskBooks}
use Rattle.register_laws.specs.EventReplays.{is_correction}
use Rattle.forward_price.specs.PriceTables.{Table}
use Rattle.forward_price.specs.declared.price_sheet.Patch.{Patch}
use Rattle.forward_price.specs.declared.price_sheet.Sheet.{Sheet}
use Rattle.reference_tables.specs.TablesOfJournals.{patch_by, patch_on}
use Rattle.household_fold.specs.Facts.{Known}
use Rattle.checkpoint_replay.specs.Replays.{NumberedOrder}
use Rattle.ledger_laws.proofs.StatesStay.{left_is_as_of, no_fewer}
use Rattle.ledger_laws.proofs.TradesLead.{trades_lead}
use Rattle.ledger_laws.specs.KeptOfBooks.{AreKeptOf, AreLikeLong, IsAsOf, part_to}
use Rattle.checkpoint_replay.proofs.StateFacts.{found-before}
use Rattle.checkpoint_replay.specs.KeptStates.{last_before, states_in}
use Rattle.checkpoint_replay.specs.declared.states.KeptState.{KeptState}
use Rattle.ledger_laws.proofs.ReplaysAsPart.{replays_as_part}
use Rattle.ledger_laws.specs.PartsByFacts.{AreRowsOf}
use Rattle.ledger_laws.proofs.CorrectedParts.{keeps_accounts}
use Rattle.register_laws.specs.CorrectionReach.{IsListedOn, order_changed}
use Rattle.register_laws.specs.Households.{part_of}
use Rattle.register_laws.specs.Lawful.{book_behind}
use Rattle.register_laws.specs.OneEventMore.{corrected_table_by}
use Rattle.register_machine.specs.journal.Journals.{Journal, with_event}
use Rattle.order_book.specs.Trials.{row_after}
use Rattle.register_machine.specs.pricing.CorrectedBook.{Book}
use Rattle.register_machine.specs.pricing.CorrectedPrices.{sheet_as_corrected}
use Rattle.register_machine.specs.replay.Positions.{Register}
use Rattle.register_machine.specs.replay.Replay.{replay_to}
use Rattle.register_machine.specs.replay.Trades.{Day}
use Rattle.register_machine.specs.rules.NamedThings.{lists_at}
use Rattle.standing_orders.specs.Priced.{AreSettledOnTrial}
use Rattle.standing_orders.specs.Rows.{is_settled}
use Rattle.standing_orders.proofs.SettledStay.{correction_leaves_settled}
use Rattle.standing_orders.specs.IndexOfJournals.{sheets_of}
use Rattle.standing_orders.specs.SettledOrders.{ReplacesNone}

-- ---- the two books

-- a correction publishes no sheet
sheets-kept : (table : Table) (moment : ℕ) (kind : EventKind) → is_correction kind ≡ true → length (corrected_table_by table moment kind).sheets ≡ length table.sheets
sheets-kept table moment (EventKind.FixPrice form) corrects = length-map table.sheets (sheet_as_corrected (form ∷ []))
sheets-kept table moment (EventKind.FixRate form) corrects = refl
sheets-kept table moment (EventKind.Enter form) corrects = refl
sheets-kept table moment (EventKind.Replace form) corrects = refl
sheets-kept table moment (EventKind.Void form) corrects = refl
sheets-kept table moment _ corrects = absurd (true≢false (sym corrects))

pub like_long : (journal : Journal) (event : Event) → is_correction event.kind ≡ true → IsOnTrial journal event → AreLikeLong (book_behind journal) (book_behind (with_event journal event))
like_long journal event corrects is = record {
  accounts = keeps_accounts journal event corrects;
  sheets =
      ap (λ (book : Book). length book.table.sheets) is.sound.goes_on
      ∙ sheets-kept (book_behind journal).table event.moment event.kind corrects;
  orders =
      subst (λ (book : Book). length (book_behind journal).orders ≤ length book.orders) (sym is.sound.goes_on)
      (no_fewer (length journal) (book_behind journal).orders event.kind);
}

-- what is settled stays so on trial of a corrected price or rate, which change no order
rows-stay : (journal : Journal) (event : Event) (before : ℕ) → ((row : OrderRow) → row_after event.kind row ≡ row) → LeavesSettledOnTrial journal event before
rows-stay journal event before same household first number less settled place row short there own =
    ap (is_settled (sheets_of journal) number) (same row) ∙ settled place row short there own

-- and behind every correction that replaces none
settled-stay : (journal : Journal) (event : Event) (before : ℕ) → is_correction event.kind ≡ true → IsOnTrial journal event → ((household : ℕ) → ReplacesNone journal event.kind household) → LeavesSettledBehind journal event before
settled-stay journal event before corrects is none household first number less few settled =
    correction_leaves_settled journal event household first number is.sound.goes_on corrects (none household) few settled

-- no part changes before the sheet of a corrected price, or of a corrected rate
pub price_before : (journal : Journal) (event : Event) (form : FixPriceForm) (number : ℕ) → is_correction event.kind ≡ true → IsOnTrial journal event → event.kind ≡ EventKind.FixPrice form → IsListedOn (book_behind journal) form.class form.moment number → LeavesBefore journal event number
price_before journal event form number corrects is at listed = record {
  parts = λ household sheet short.
      ap (λ (accounts : List AccountForm). part_of accounts household (replay_to (book_behind (with_event journal event)) sheet)) (keeps_accounts journal event corrects)
      ∙ ap (part_of (book_behind journal).accounts household) (is.reach.price_numbered form at number listed sheet short);
  trial = rows-stay journal event number (λ row. ap (λ kind. row_after kind row) at);
  settled = settled-stay journal event number corrects is (λ household entry replaces. absurd (other entry (sym at ∙ replaces)));
}
  where
    other : (entry : EntryForm) → EventKind.FixPrice form ≡ EventKind.Replace entry → ⊥
    other entry e = cc

rate_before : (journal : Journal) (event : Event) (form : FixRateForm) (number : ℕ) → is_correction event.kind ≡ true → IsOnTrial journal event → event.kind ≡ EventKind.FixRate form → IsListedOn (book_behind journal) form.class form.moment number → LeavesBefore journal event number
rate_before journal event form number corrects is at listed = record {
  parts = λ household sheet short.
      ap (λ (accounts : List AccountForm). part_of accounts household (replay_to (book_behind (with_event journal event)) sheet)) (keeps_accounts journal event corrects)
      ∙ ap (part_of (book_behind journal).accounts household) (is.reach.rate_numbered form at number listed sheet short);
  trial = rows-stay journal event number (λ row. ap (λ kind. row_after kind row) at);
  settled = settled-stay journal event number corrects is (λ household entry replaces. absurd (other entry (sym at ∙ replaces)));
}
  where
    other : (entry : EntryForm) → EventKind.FixRate form ≡ EventKind.Replace entry → ⊥
    other entry e = cc

-- nothing comes before the first sheet
pub none_before : (journal : Journal) (event : Event) → LeavesBefore journal event 0
none_before journal event = record {
  parts = λ household sheet short. absurd (omega (arith, short));
  trial = λ household first number less. absurd (omega (arith, less));
  settled = λ household first number less. absurd (omega (arith, less));
}

-- the sheet that is found lists the class at the moment
pub rate_touches : (books : DeskBooks) (event : Event) (form : FixRateForm) → AreBooksOf books.book.journal books → is_correction event.kind ≡ true → IsOnTrial books.book.journal event → event.kind ≡ EventKind.FixRate form → LeavesBefore books.book.journal event (option_map_or (λ (sheet : Sheet). sheet.number) (find (lists_at form.class form.moment) books.prices.table.sheets) 0)
rate_touches books event form are corrects is at =
    subst (λ (table : Table). LeavesBefore journal event (option_map_or (λ (sheet : Sheet). sheet.number) (find (lists_at form.class form.moment) table.sheets) 0)) (sym are.prices)
    (by (find (lists_at form.class form.moment) (sheets_of journal)) refl)
  where
    journal : Journal
    journal = books.book.journal

    by : (found : Option Sheet) → find (lists_at form.class form.moment) (sheets_of journal) ≡ found → LeavesBefore journal event (option_map_or (λ (sheet : Sheet). sheet.number) found 0)
    by None e = none_before journal event
    by (Some sheet) e = rate_before journal event form sheet.number corrects is at (listed_on form.class form.moment (sheets_of journal) sheet e)

-- the number of the patch of a corrected price is that of the sheet that is found
pub patch_touches : (sheets : List Sheet) (form : FixPriceForm) (patch : Patch) → patch_on sheets form ≡ Some patch → patch.sheet ≡ number_listed form.class form.moment sheets
patch_touches sheets form patch is = by (find (lists_at form.class form.moment) sheets) is
  where
    by : (found : Option Sheet) → option_map (λ (sheet : Sheet). patch_by form sheet.number) found ≡ Some patch → patch.sheet ≡ option_map_or (λ (sheet : Sheet). sheet.number) found 0
    by None e = cc
    by (Some sheet) e = sym (ap (λ (p : Patch). p.sheet) (same e))
      where
        same : Some (patch_by form sheet.number) ≡ Some patch → patch_by form sheet.number ≡ patch
        same h = cc

-- of a corrected order no sheet is looked for
pub orders_touch_all : (sheets : List Sheet) (kind : EventKind) → is_some (order_changed kind) ≡ true → first_touched sheets kind ≡ 0
orders_touch_all sheets (EventKind.FixPrice form) changes = absurd (true≢false (sym changes))
orders_touch_all sheets (EventKind.FixRate form) changes = absurd (true≢false (sym changes))
orders_touch_all sheets _ changes = refl

-- ---- a start

none-stays : (xs : List Trade) → take 0 xs ≡ []
none-stays [] = refl
none-stays (x ∷ xs) = refl

-- before all sheets its replay comes to nothing
starts-fresh : (known : Known) (rows : List NumberedOrder) (household : ℕ) (trades : List Trade) → IsReplayedTo known rows (first_start household) trades
starts-fresh known rows household trades =
    ap (λ (ts : List Trade). record { register = []; trades = ts }) (none-stays trades)

-- it is one of the household's own, behind a sheet that is published, where its replay comes to it; and its orders before the place of
-- the start are settled by then
pub record Serves (known : Known) (journal : Journal) (event : Event) (rows : List NumberedOrder) (trades : List Trade) (household : ℕ) (start : KeptStart) : Type 0 where
  pub begin : start.replay.sheet ≤ known.sheet
  pub own : start.replay.household ≡ household
  pub number : start.replay.state.number ≡ start.replay.household
  pub replayed : IsReplayedTo known rows start.replay trades
  pub settled : AreSettledOnTrial journal (Some event) (sheets_of journal) household start.orders start.replay.sheet

pub start_serves : (books : DeskBooks) (event : Event) (known : Known) (household before : ℕ) (rows : List NumberedOrder) (start : KeptStart) → IsTriedOver books event known → AreRowsOf rows (book_behind (with_event books.book.journal event)) household → LeavesBefore books.book.journal event before → start ≡ start_by household (last_before before (states_in books.kept household)) → Serves known books.book.journal event rows (part_in books.ledger.parts household).trades household start
start_serves books event known household before rows start is own leaves at =
    subst (Serves known journal event rows trades household) (sym at) (by (last_before before (states_in books.kept household)) refl)
  where
    journal : Journal
    journal = books.book.journal

    now : Book
    now = book_behind journal

    after : Book
    after = book_behind (with_event journal event)

    trades : List Trade
    trades = (part_in books.ledger.parts household).trades

    as-of : (kept : KeptState) → Contains (states_in books.kept household) kept → IsAsOf now household kept
    as-of kept there = All-contains (IsAsOf now household) (states_in books.kept household) kept (is.books_are.kept household) there

    published : (kept : KeptState) → Contains (states_in books.kept household) kept → kept.sheet ≤ length after.table.sheets
    published kept there = omega (arith, (as-of kept there).published, (like_long journal event is.corrects is.trial).sheets)

    within : (kept : KeptState) → Contains (states_in books.kept household) kept → kept.sheet ≤ known.sheet
    within kept there = omega (arith, published kept there, is.serve.serve.last)

    replayed : (kept : KeptState) → Contains (states_in books.kept household) kept → kept.sheet < before → IsReplayedTo known rows (start_at household kept) trades
    replayed kept there short =
        let are = as-of kept there in
        let first = ap (λ (day : Day). take kept.trades day.trades) (is.books_are.ledger.part household) ∙ trades_lead now household kept are in
        ap (λ (register : Register). record { register = register; trades = take kept.trades trades }) are.register
        ∙ (ap (λ (ts : List Trade). record { register = (part_to now household kept.sheet).register; trades = ts }) first
        ∙ (sym (leaves.parts household kept.sheet short)
        ∙ (replays_as_part known rows after household is.serve.serve.serve.facts own).from_first kept.sheet (published kept there)))

    by : (found : Option KeptState) → last_before before (states_in books.kept household) ≡ found → Serves known journal event rows trades household (start_by household found)
    by None e = record {
      begin = omega arith;
      own = refl;
      number = refl;
      replayed = starts-fresh known rows household trades;
      settled = λ place row short there mine. absurd (omega (arith, short));
    }
    by (Some kept) e =
        let found = found-before before (states_in books.kept household) kept e in
        record {
          begin = within kept found.among;
          own = refl;
          number = (as-of kept found.among).own;
          replayed = replayed kept found.among found.earlier;
          settled = leaves.trial household kept.orders kept.sheet found.earlier (as-of kept found.among).settled;
        }

-- ---- the kept states

-- those that are left are some of the old ones
pub forgotten_stay : (trial : Trial) (old new : List (ℕ × List KeptState)) (book : Book) → AreForgotten trial old new → AreKeptOf book old → AreKeptOf book new
forgotten_stay trial old new book forgotten are = by_tried trial.tried forgotten
  where
    by_tried : (tried : Tried) → AreForgottenBy tried trial.households.items trial.before old new → AreKeptOf book new
    by_tried (Tried.Breaks _) same = subst (AreKeptOf book) (sym same) are
    by_tried (Tried.Moves change) left = λ household.
        All-weaker (λ (state : KeptState). Contains (states_in old household) state × (list_any (nat_eq household) trial.households.items ≡ true → state.sheet < trial.before)) (IsAsOf book household)
        (λ state is. All-contains (IsAsOf book household) (states_in old household) state (are household) is.0) (states_in new household)
        (left-stays trial.households.items trial.before old new left household)

-- and they are what their households came to behind the correction
pub kept_behind : (books : DeskBooks) (event : Event) (trial : Trial) (new : List (ℕ × List KeptState)) → IsTrialOf books event trial → AreKeptOf (book_behind books.book.journal) books.kept → AreForgotten trial books.kept new → KeepsStates books.book.journal event new trial.tried
kept_behind books event trial new is are forgotten = by_tried trial.tried forgotten
  where
    journal : Journal
    journal = books.book.journal

    now : Book
    now = book_behind journal

    after : Book
    after = book_behind (with_event journal event)

    untouched : (household : ℕ) (state : KeptState) → state.sheet < trial.before → IsAsOf now household state → IsAsOf after household state
    untouched household state short of =
        let same = sym (is.before.parts household state.sheet short) in
        record {
          published = omega (arith, of.published, is.like.sheets);
          own = of.own;
          register = of.register ∙ ap (λ (day : Day). day.register) same;
          counted = of.counted ∙ ap (λ (day : Day). length day.trades) same;
          begun = omega (arith, of.begun, is.like.orders);
          settled = is.before.settled household state.orders state.sheet short of.begun of.settled;
        }

    each : (household : ℕ) (state : KeptState) → Contains (states_in books.kept household) state × (list_any (nat_eq household) trial.households.items ≡ true → state.sheet < trial.before) → IsAsOf after household state
    each household state stays =
        by_reach (list_any (nat_eq household) trial.households.items) refl
      where
        of : IsAsOf now household state
        of = All-contains (IsAsOf now household) (states_in books.kept household) state (are household) stays.0

        by_reach : (reached : Bool) → list_any (nat_eq household) trial.households.items ≡ reached → IsAsOf after household state
        by_reach true at = untouched household state (stays.1 at) of
        by_reach false at =
            left_is_as_of now after household state is.like (is.left household at)
            (correction_leaves_settled journal event household state.orders state.sheet is.goes_on is.corrects (is.unreplaced household at) of.begun) of

    by_tried : (tried : Tried) → AreForgottenBy tried trial.households.items trial.before books.kept new → KeepsStates journal event new tried
    by_tried (Tried.Breaks _) same = tt
    by_tried (Tried.Moves change) left = λ household.
        All-weaker (λ (state : KeptState). Contains (states_in books.kept household) state × (list_any (nat_eq household) trial.households.items ≡ true → state.sheet < trial.before)) (IsAsOf after household)
        (each household) (states_in new household) (left-stays trial.households.items trial.before books.kept new left household)
