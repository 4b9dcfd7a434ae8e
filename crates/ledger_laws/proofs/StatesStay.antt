-- Kept states are what the households came to, and which events and corrections leave them so.
use Rattle.std.proofs.Common.{List, [], ap, arith, false, length, refl, subst, sym, take, ℕ, ◌∙◌, ◌∷◌, ◌≡◌, ◌≤◌}
use Rattle.std.proofs.lemmas.List.{length-append, length-map}
use Rattle.std.proofs.lemmas.List.Elements.{All-nil, All-weaker}
use Rattle.agent_events.specs.Events.{Event}
use Rattle.agent_events.specs.declared.event.EventKind.{EventKind}
use Rattle.agent_events.specs.declared.order.OrderRow.{OrderRow}
use Rattle.agent_events.specs.declared.request.FixPriceForm.{FixPriceForm}
use Rattle.agent_events.specs.declared.request.SheetForm.{SheetForm}
use Rattle.register_laws.proofs.EventReplays.{adds_sheet, leaves_replay, sheets-kept}
use Rattle.register_laws.proofs.PartsStay.{same_parts}
use Rattle.register_laws.specs.EventReplays.{is_correction, is_sheet, sheet_behind}
use Rattle.ledger_laws.specs.KeptOfBooks.{AreKeptOf, IsAsOf, LastIsAsOf, LawfulLeavesKept, LeavesSettled, LeftIsAsOf, PriceLeavesKept, part_to}
use Rattle.checkpoint_replay.specs.KeptStates.{states_in}
use Rattle.checkpoint_replay.specs.declared.states.KeptState.{KeptState}
use Rattle.register_laws.proofs.BooksGoOn.{book_goes_on}
use Rattle.register_laws.proofs.NothingBefore.{last-brought}
use Rattle.register_laws.proofs.RegistersKept.{at-last}
use Rattle.register_laws.specs.Households.{part_of}
use Rattle.register_laws.specs.Lawful.{book_behind}
use Rattle.register_laws.specs.OneEventMore.{orders_after, replaced_by, struck_by}
use Rattle.register_machine.specs.journal.Journals.{Journal, with_event}
use Rattle.register_machine.specs.journal.Kinds.{accounts_of}
use Rattle.register_machine.specs.journal.Lawful.{IsLawful}
use Rattle.register_machine.specs.pricing.CorrectedBook.{Book}
use Rattle.register_machine.specs.pricing.CorrectedOrders.{row_as_sent}
use Rattle.register_machine.specs.replay.Replay.{replay, replay_to}
use Rattle.register_machine.specs.replay.Trades.{Day}
use Rattle.standing_orders.proofs.SettledStay.{event_leaves_settled}

pub none_kept : (book : Book) → AreKeptOf book []
none_kept book household = All-nil (IsAsOf book household)

pub last_is_as_of : (book : Book) (household : ℕ) (kept : KeptState) → LastIsAsOf book household kept
last_is_as_of book household kept is =
    let whole : part_to book household kept.sheet ≡ part_of book.accounts household (replay book) =
    ap (part_to book household) is.sheet ∙ ap (part_of book.accounts household) (at-last book) in
    record {
      published = omega (arith, is.sheet);
      own = is.own;
      register = is.register ∙ sym (ap (λ (day : Day). day.register) whole);
      counted = is.counted ∙ sym (ap (λ (day : Day). length day.trades) whole);
      begun = is.begun;
      settled = is.settled;
    }

-- ---- What leaves a kept state.

-- a household's part behind its sheet is the same in another book, and the sheet is one of it
same-part : (before after : Book) (household : ℕ) (kept : KeptState) → kept.sheet ≤ length after.table.sheets → length before.orders ≤ length after.orders → part_to after household kept.sheet ≡ part_to before household kept.sheet → LeavesSettled before after household kept → IsAsOf before household kept → IsAsOf after household kept
same-part before after household kept within more same settles is = record {
  published = within;
  own = is.own;
  register = is.register ∙ sym (ap (λ (day : Day). day.register) same);
  counted = is.counted ∙ sym (ap (λ (day : Day). length day.trades) same);
  begun = omega (arith, is.begun, more);
  settled = settles is.settled;
}

pub left_is_as_of : (before after : Book) (household : ℕ) (kept : KeptState) → LeftIsAsOf before after household kept
left_is_as_of before after household kept like leaves settles is =
    same-part before after household kept (omega (arith, like.sheets, is.published)) like.orders
    (ap (λ accounts. part_of accounts household (replay_to after kept.sheet)) like.accounts ∙ leaves.up_to kept.sheet) settles is

pub price_leaves : (journal : Journal) (event : Event) (form : FixPriceForm) (fixed household : ℕ) (kept : KeptState) → PriceLeavesKept journal event form fixed household kept
price_leaves journal event form fixed household kept reach like kind listed earlier settles is =
    let before = book_behind journal in
    let after = book_behind (with_event journal event) in
    same-part before after household kept (omega (arith, like.sheets, is.published)) like.orders
    (ap (λ accounts. part_of accounts household (replay_to after kept.sheet)) like.accounts
    ∙ ap (part_of before.accounts household) (reach.price_numbered form kind fixed listed kept.sheet earlier)) settles is

-- no event takes an order out
pub no_fewer : (place : ℕ) (rows : List OrderRow) (kind : EventKind) → length rows ≤ length (orders_after place rows kind)
no_fewer place rows (EventKind.Order placed) = let more = length-append rows (row_as_sent place placed.receipt placed.order ∷ []) in omega (arith, more)
no_fewer place rows (EventKind.Enter form) = let more = length-append rows (row_as_sent place form.receipt form.order ∷ []) in omega (arith, more)
no_fewer place rows (EventKind.Cancel form) = let many = length-map rows (struck_by (form.account, form.target)) in omega (arith, many)
no_fewer place rows (EventKind.Void form) = let many = length-map rows (struck_by (form.account, form.ref_no)) in omega (arith, many)
no_fewer place rows (EventKind.Replace form) = let many = length-map rows (replaced_by form) in omega (arith, many)
no_fewer place rows _ = omega arith

-- ---- What an event that is no correction leaves.

module _ (journal : Journal) (event : Event) (lawful : IsLawful (with_event journal event)) (plain : is_correction event.kind ≡ false) (household : ℕ) (kept : KeptState) (is : IsAsOf (book_behind journal) household kept) where
  -- no order goes
  more-orders : length (book_behind journal).orders ≤ length (book_behind (with_event journal event)).orders
  more-orders = subst (λ (book : Book). length (book_behind journal).orders ≤ length book.orders) (sym (book_goes_on journal event lawful)) (no_fewer (length journal) (book_behind journal).orders event.kind)

  -- where the replay up to its sheet stays, the state does: an account that is opened is of nobody's part yet
  stays : kept.sheet ≤ length (book_behind (with_event journal event)).table.sheets → replay_to (book_behind (with_event journal event)) kept.sheet ≡ replay_to (book_behind journal) kept.sheet → IsAsOf (book_behind (with_event journal event)) household kept
  stays within same =
      same-part (book_behind journal) (book_behind (with_event journal event)) household kept within more-orders
      (ap (part_of (accounts_of (with_event journal event)) household) same
      ∙ same_parts journal event (last-brought journal event lawful).0 (take kept.sheet (book_behind journal).table.sheets) household)
      (event_leaves_settled journal event household kept.orders kept.sheet lawful plain is.begun) is

  behind-sheet : (form : SheetForm) → event.kind ≡ EventKind.Sheet form → IsAsOf (book_behind (with_event journal event)) household kept
  behind-sheet form kind =
      let adds = adds_sheet journal event lawful form kind in
      let more = ap length adds.sheets ∙ length-append (book_behind journal).table.sheets (sheet_behind journal form ∷ []) in
      stays (omega (arith, more, is.published)) (adds.up_to kept.sheet is.published)

  behind-other : is_sheet event.kind ≡ false → IsAsOf (book_behind (with_event journal event)) household kept
  behind-other other =
      let many = ap length (sheets-kept journal event lawful event.kind refl plain other) in
      stays (omega (arith, many, is.published)) (sym ((leaves_replay journal event lawful plain other).0.up_to kept.sheet))

  behind-event : IsAsOf (book_behind (with_event journal event)) household kept
  behind-event = by event.kind refl
    where
      by : (kind : EventKind) → event.kind ≡ kind → IsAsOf (book_behind (with_event journal event)) household kept
      by (EventKind.Sheet form) same = behind-sheet form same
      by kind same = behind-other (subst (λ k. is_sheet k ≡ false) (sym same) refl)

pub lawful_leaves : (journal : Journal) (event : Event) (rows : List (ℕ × List KeptState)) → LawfulLeavesKept journal event rows
lawful_leaves journal event rows lawful plain are household =
    All-weaker (IsAsOf (book_behind journal) household) (IsAsOf (book_behind (with_event journal event)) household)
    (λ kept is. behind-event journal event lawful plain household kept is) (states_in rows household) (are household)
