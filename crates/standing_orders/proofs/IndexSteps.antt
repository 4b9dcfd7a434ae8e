-- The index of a journal's orders, event by event.
use Rattle.std.proofs.Common.{All, Bool, List, None, Option, Some, [], ap, append-nil, arith, cond, false, filter, get_or, inl, inr, length, map, option_map, option_to_list, refl, slice_get, subst, suc, sym, true, zero, ℕ, ◌&&◌, ◌++◌, ◌<◌, ◌==◌, ◌||◌, ◌∙◌, ◌∷◌, ◌≡◌, ◌≢◌, ◌≤◌, ◌⊎◌}
use Rattle.std.proofs.lemmas.Bool.{and_from, and_parts, eqb-true, true≢false}
use Rattle.std.proofs.lemmas.List.{length-append, length-map}
use Rattle.std.proofs.lemmas.List.Elements.{All-head, All-tail}
use Rattle.std.proofs.lemmas.List.Sums.{fold-append}
use Rattle.std.specs.Option.{option_map_or}
use Rattle.std.specs.Prelude.{find, is_none}
use Rattle.agent_events.specs.Events.{Event}
use Rattle.agent_events.specs.declared.event.EventKind.{EventKind}
use Rattle.agent_events.specs.declared.event.Placed.{Placed}
use Rattle.agent_events.specs.declared.order.OrderRow.{OrderRow}
use Rattle.agent_events.specs.declared.request.AccountForm.{AccountForm}
use Rattle.agent_events.specs.declared.request.EntryForm.{EntryForm}
use Rattle.agent_events.specs.declared.request.FixPriceForm.{FixPriceForm}
use Rattle.agent_events.specs.declared.request.SheetForm.{SheetForm}
use Rattle.register_laws.proofs.FirstBroken.{within-list}
use Rattle.register_laws.proofs.OrdersWait.{order_waits}
use Rattle.register_laws.specs.EventReplays.{sheet_behind}
use Rattle.forward_price.specs.Choices.{best_so_far, found_or_better}
use Rattle.forward_price.specs.PriceTables.{Table, is_earlier, next_sheet, prices_order}
use Rattle.forward_price.specs.declared.price_sheet.Sheet.{Sheet}
use Rattle.register_laws.proofs.Comparisons.{eq-no, eq-yes}
use Rattle.register_laws.proofs.CorrectionReach.{price-orders}
use Rattle.register_laws.proofs.NothingBefore.{begins_anew, last-brought}
use Rattle.register_laws.proofs.OneEventMore.{gathers-on}
use Rattle.register_laws.proofs.OneTradeAnOrder.{one-named}
use Rattle.register_laws.proofs.PricesAnew.{prices_anew}
use Rattle.register_laws.proofs.TablesAreOrderly.{numbered}
use Rattle.register_laws.specs.OneEventMore.{corrected_table, corrected_table_by, orders_after, replaced_by, struck_by}
use Rattle.register_machine.specs.journal.Journals.{Journal, with_event}
use Rattle.register_machine.specs.journal.Kinds.{account_in, accounts_of, household_of}
use Rattle.register_machine.specs.journal.Lawful.{IsLawful}
use Rattle.register_machine.specs.pricing.CorrectedOrders.{is_named, orders_of, replaces, row_as_sent, stands}
use Rattle.register_machine.specs.pricing.CorrectedPrices.{sheet_as_corrected}
use Rattle.register_machine.specs.pricing.OrderClasses.{classes_in}
use Rattle.register_machine.specs.replay.Replay.{Priced}
use Rattle.standing_orders.proofs.OwnOrders.{account-replaced}
use Rattle.standing_orders.proofs.PricedLast.{all_left_wait, all_settled_wait, last_leaves}
use Rattle.standing_orders.proofs.RisingPlaces.{rises-behind, rises-filter, rises-with}
use Rattle.standing_orders.proofs.WaitingKept.{among-others, another_waits, one_is_settled, one_more_owned, one_more_waits, others_leave, owned_when_changed, owned_with_account, still_waits}
use Rattle.standing_orders.specs.Places.{RisesWithin, is_among, is_other_or_passes, passes_at, with_place}
use Rattle.standing_orders.specs.Rows.{AreOwners, HasEach, sheet_number, stays, waits}
use Rattle.standing_orders.specs.WaitingLaws.{AllOthersWait, AllWait, IsNumbered}
use Rattle.standing_orders.specs.IndexOfJournals.{IsIndexOf, LawfulBeginsOrder, LawfulEntersOrder, LawfulLeavesIndex, LawfulReplacesOrder, LawfulSheetTakes, leaves_index, settled_waiting, sheets_of}

-- the index over plain lists
pub record Keeps (accounts : List AccountForm) (sheets : List Sheet) (rows : List OrderRow) (owners waiting : List ℕ) : Type 0 where
  pub owned : AreOwners accounts rows owners
  pub enough : HasEach (waits sheets) rows waiting
  pub all_wait : AllWait sheets rows waiting

none-some : {X : Type 0} {x : X} → None ≡ Some x → ⊥
none-some e = cc

pub some-same : {X : Type 0} {x y : X} → Some x ≡ Some y → x ≡ y
some-same e = cc

-- ---- an event behind a lawful journal

module _ (journal : Journal) (event : Event) (lawful : IsLawful (with_event journal event)) where
  rows-behind : (kind : EventKind) → event.kind ≡ kind → orders_of (with_event journal event) ≡ orders_after (length journal) (orders_of journal) kind
  rows-behind kind is = (begins_anew journal event lawful).orders ∙ ap (orders_after (length journal) (orders_of journal)) is

  sheets-behind : (kind : EventKind) → event.kind ≡ kind → sheets_of (with_event journal event) ≡ (corrected_table_by (corrected_table journal) event.moment kind).sheets
  sheets-behind kind is = ap (λ (t : Table). t.sheets) ((prices_anew journal event lawful).table ∙ ap (corrected_table_by (corrected_table journal) event.moment) is)

  accounts-behind : (kind : EventKind) → event.kind ≡ kind → accounts_of (with_event journal event) ≡ accounts_of journal ++ option_to_list (account_in kind)
  accounts-behind kind is = gathers-on account_in journal event ∙ ap (λ k. accounts_of journal ++ option_to_list (account_in k)) is

  pub index-behind : (kind : EventKind) → event.kind ≡ kind → (owners waiting : List ℕ) → RisesWithin 0 (length owners) waiting → Keeps (accounts_of journal ++ option_to_list (account_in kind)) (corrected_table_by (corrected_table journal) event.moment kind).sheets (orders_after (length journal) (orders_of journal) kind) owners waiting → IsIndexOf (with_event journal event) owners waiting
  index-behind kind is owners waiting within keeps =
      let rows = sym (rows-behind kind is) in
      let sheets = sym (sheets-behind kind is) in
      record {
        owned = subst (λ accounts. AreOwners accounts (orders_of (with_event journal event)) owners) (sym (accounts-behind kind is)) (subst (λ r. AreOwners (accounts_of journal ++ option_to_list (account_in kind)) r owners) rows keeps.owned);
        within = within;
        enough = subst (λ s. HasEach (waits s) (orders_of (with_event journal event)) waiting) sheets (subst (λ r. HasEach (waits (corrected_table_by (corrected_table journal) event.moment kind).sheets) r waiting) rows keeps.enough);
        all_wait = subst (λ s. AllWait s (orders_of (with_event journal event)) waiting) sheets (subst (λ r. AllWait (corrected_table_by (corrected_table journal) event.moment kind).sheets r waiting) rows keeps.all_wait);
      }

-- ---- orders that are struck, and prices that are corrected

pub got-under : (f : OrderRow → OrderRow) (rows : List OrderRow) (k : ℕ) → slice_get (map f rows) k ≡ option_map f (slice_get rows k)
got-under f [] k = refl
got-under f (row ∷ rows) zero = refl
got-under f (row ∷ rows) (suc k) = got-under f rows k

-- a row that stands behind a strike was there before it
stood-before : (named : ℕ × ℕ) (rows : List OrderRow) (k : ℕ) (row : OrderRow) → slice_get (map (struck_by named) rows) k ≡ Some row → stands row ≡ true → slice_get rows k ≡ Some row
stood-before named rows k row there on = by (slice_get rows k) (sym (got-under (struck_by named) rows k) ∙ there)
  where
    by_name : (old : OrderRow) (b : Bool) → cond b (record { place = old.place; receipt = old.receipt; struck = true; order = old.order }) old ≡ row → Some old ≡ Some row
    by_name old true is = absurd (true≢false (sym (ap stands is ∙ on)))
    by_name old false is = ap Some is

    by : (found : Option OrderRow) → option_map (struck_by named) found ≡ Some row → found ≡ Some row
    by None is = is
    by (Some old) is = by_name old (is_named named.0 named.1 old.order) (some-same is)

struck-keeps : (named : ℕ × ℕ) (accounts : List AccountForm) (sheets : List Sheet) (rows : List OrderRow) (owners waiting : List ℕ) → Keeps accounts sheets rows owners waiting → Keeps accounts sheets (map (struck_by named) rows) owners waiting
struck-keeps named accounts sheets rows owners waiting is = record {
  owned = owned_when_changed accounts rows owners (struck_by named) same is.owned;
  enough = still_waits (waits sheets) (waits sheets) rows (map (struck_by named) rows) waiting
      (λ place row there on. (row, stood-before named rows place row there (and_parts (stands row) (is_none (sheet_number sheets row)) on).0, on)) is.enough;
  all_wait = λ place row there among on. is.all_wait place row (stood-before named rows place row there on) among on;
}
  where
    same : (row : OrderRow) → (struck_by named row).order.account ≡ row.order.account
    same row = by (is_named named.0 named.1 row.order)
      where
        by : (b : Bool) → (cond b (record { place = row.place; receipt = row.receipt; struck = true; order = row.order }) row).order.account ≡ row.order.account
        by true = refl
        by false = refl

-- a corrected price moves no order to another sheet
pub number-fixed : (form : FixPriceForm) (table : Table) (row : OrderRow) → sheet_number (map (sheet_as_corrected (form ∷ [])) table.sheets) row ≡ sheet_number table.sheets row
number-fixed form table row =
    ap (λ priced. option_map_or (λ (p : Priced). p.sheet) (slice_get priced 0) None)
    (price-orders form (record { table = table; classes = []; accounts = []; orders = record { place = row.place; receipt = row.receipt; struck = false; order = row.order } ∷ []; rates = record { declared = []; fixed = [] } }))

fixed-keeps : (form : FixPriceForm) (table : Table) (accounts : List AccountForm) (rows : List OrderRow) (owners waiting : List ℕ) → Keeps accounts table.sheets rows owners waiting → Keeps accounts (map (sheet_as_corrected (form ∷ [])) table.sheets) rows owners waiting
fixed-keeps form table accounts rows owners waiting is = record {
  owned = is.owned;
  enough = λ place row there on. is.enough place row there (sym (same row) ∙ on);
  all_wait = λ place row there among on. same row ∙ is.all_wait place row there among on;
}
  where
    same : (row : OrderRow) → waits (map (sheet_as_corrected (form ∷ [])) table.sheets) row ≡ waits table.sheets row
    same row = ap (λ number. stands row && is_none number) (number-fixed form table row)

-- an event that places, enters and replaces no order, and is no sheet
pub keeps-plain : (journal : Journal) (event : Event) (owners waiting : List ℕ) → IsIndexOf journal owners waiting → (kind : EventKind) → leaves_index kind ≡ true → Keeps (accounts_of journal ++ option_to_list (account_in kind)) (corrected_table_by (corrected_table journal) event.moment kind).sheets (orders_after (length journal) (orders_of journal) kind) owners waiting
keeps-plain journal event owners waiting is = by
  where
    keeps : Keeps (accounts_of journal) (sheets_of journal) (orders_of journal) owners waiting
    keeps = record { owned = is.owned; enough = is.enough; all_wait = is.all_wait }

    same : Keeps (accounts_of journal ++ []) (sheets_of journal) (orders_of journal) owners waiting
    same = subst (λ accounts. Keeps accounts (sheets_of journal) (orders_of journal) owners waiting) (sym (append-nil (accounts_of journal))) keeps

    by : (kind : EventKind) → leaves_index kind ≡ true → Keeps (accounts_of journal ++ option_to_list (account_in kind)) (corrected_table_by (corrected_table journal) event.moment kind).sheets (orders_after (length journal) (orders_of journal) kind) owners waiting
    by (EventKind.Account form) plain = record { owned = owned_with_account (accounts_of journal) (orders_of journal) owners form is.owned; enough = is.enough; all_wait = is.all_wait }
    by (EventKind.Cancel form) plain = struck-keeps (form.account, form.target) (accounts_of journal ++ []) (sheets_of journal) (orders_of journal) owners waiting same
    by (EventKind.Void form) plain = struck-keeps (form.account, form.ref_no) (accounts_of journal ++ []) (sheets_of journal) (orders_of journal) owners waiting same
    by (EventKind.FixPrice form) plain = fixed-keeps form (corrected_table journal) (accounts_of journal ++ []) (orders_of journal) owners waiting same
    by (EventKind.Order placed) plain = absurd (true≢false (sym plain))
    by (EventKind.Enter form) plain = absurd (true≢false (sym plain))
    by (EventKind.Replace form) plain = absurd (true≢false (sym plain))
    by (EventKind.Sheet form) plain = absurd (true≢false (sym plain))
    by (EventKind.Calendar form) plain = same
    by (EventKind.Close form) plain = same
    by (EventKind.Class form) plain = same
    by (EventKind.Dealer form) plain = same
    by (EventKind.Household form) plain = same
    by (EventKind.Dividend form) plain = same
    by (EventKind.FixRate form) plain = same

pub leaves_the_index : (journal : Journal) (event : Event) (owners waiting : List ℕ) → LawfulLeavesIndex journal event owners waiting
leaves_the_index journal event owners waiting lawful plain is =
    index-behind journal event lawful event.kind refl owners waiting is.within (keeps-plain journal event owners waiting is event.kind plain)

-- ---- what an index is, once those that don't wait have left

-- those of some places that wait in a journal
abbrev left_waiting : Journal → List ℕ → List ℕ
left_waiting journal waiting = filter (passes_at (waits (sheets_of journal)) (orders_of journal)) waiting

left-index : (journal : Journal) (owners waiting : List ℕ) → AreOwners (accounts_of journal) (orders_of journal) owners → RisesWithin 0 (length owners) waiting → HasEach (waits (sheets_of journal)) (orders_of journal) waiting → IsIndexOf journal owners (left_waiting journal waiting)
left-index journal owners waiting owned within enough = record {
  owned = owned;
  within = rises-filter (passes_at (waits (sheets_of journal)) (orders_of journal)) 0 (length owners) waiting within;
  enough = others_leave (waits (sheets_of journal)) (orders_of journal) waiting enough;
  all_wait = all_left_wait (sheets_of journal) (orders_of journal) waiting;
}

-- behind an event of a kind
pub left-behind : (journal : Journal) (event : Event) (lawful : IsLawful (with_event journal event)) (kind : EventKind) → event.kind ≡ kind → (owners waiting : List ℕ) → AreOwners (accounts_of journal ++ option_to_list (account_in kind)) (orders_after (length journal) (orders_of journal) kind) owners → RisesWithin 0 (length owners) waiting → HasEach (waits (corrected_table_by (corrected_table journal) event.moment kind).sheets) (orders_after (length journal) (orders_of journal) kind) waiting → IsIndexOf (with_event journal event) owners (left_waiting (with_event journal event) waiting)
left-behind journal event lawful kind is owners waiting owned within enough =
    let rows = sym (rows-behind journal event lawful kind is) in
    left-index (with_event journal event) owners waiting
    (subst (λ accounts. AreOwners accounts (orders_of (with_event journal event)) owners) (sym (accounts-behind journal event lawful kind is))
    (subst (λ r. AreOwners (accounts_of journal ++ option_to_list (account_in kind)) r owners) rows owned))
    within
    (subst (λ s. HasEach (waits s) (orders_of (with_event journal event)) waiting) (sym (sheets-behind journal event lawful kind is))
    (subst (λ r. HasEach (waits (corrected_table_by (corrected_table journal) event.moment kind).sheets) r waiting) rows enough))

-- ---- and once one order is settled, where all others wait

settled-index : (journal : Journal) (place : ℕ) (owners waiting : List ℕ) → AreOwners (accounts_of journal) (orders_of journal) owners → RisesWithin 0 (length owners) waiting → HasEach (waits (sheets_of journal)) (orders_of journal) waiting → AllOthersWait (sheets_of journal) (orders_of journal) place waiting → IsIndexOf journal owners (settled_waiting journal place waiting)
settled-index journal place owners waiting owned within enough others = record {
  owned = owned;
  within = rises-filter (is_other_or_passes (waits (sheets_of journal)) (orders_of journal) place) 0 (length owners) waiting within;
  enough = one_is_settled (waits (sheets_of journal)) (orders_of journal) waiting place enough;
  all_wait = all_settled_wait (sheets_of journal) (orders_of journal) place waiting others;
}

-- behind an event of a kind
settled-behind : (journal : Journal) (event : Event) (lawful : IsLawful (with_event journal event)) (kind : EventKind) → event.kind ≡ kind → (place : ℕ) (owners waiting : List ℕ) → AreOwners (accounts_of journal ++ option_to_list (account_in kind)) (orders_after (length journal) (orders_of journal) kind) owners → RisesWithin 0 (length owners) waiting → HasEach (waits (corrected_table_by (corrected_table journal) event.moment kind).sheets) (orders_after (length journal) (orders_of journal) kind) waiting → AllOthersWait (corrected_table_by (corrected_table journal) event.moment kind).sheets (orders_after (length journal) (orders_of journal) kind) place waiting → IsIndexOf (with_event journal event) owners (settled_waiting (with_event journal event) place waiting)
settled-behind journal event lawful kind is place owners waiting owned within enough others =
    let rows = sym (rows-behind journal event lawful kind is) in
    let sheets = sym (sheets-behind journal event lawful kind is) in
    settled-index (with_event journal event) place owners waiting
    (subst (λ accounts. AreOwners accounts (orders_of (with_event journal event)) owners) (sym (accounts-behind journal event lawful kind is))
    (subst (λ r. AreOwners (accounts_of journal ++ option_to_list (account_in kind)) r owners) rows owned))
    within
    (subst (λ s. HasEach (waits s) (orders_of (with_event journal event)) waiting) sheets
    (subst (λ r. HasEach (waits (corrected_table_by (corrected_table journal) event.moment kind).sheets) r waiting) rows enough))
    (subst (λ s. AllOthersWait s (orders_of (with_event journal event)) place waiting) sheets
    (subst (λ r. AllOthersWait (corrected_table_by (corrected_table journal) event.moment kind).sheets r place waiting) rows others))

-- where no account is opened
pub owned-still : (accounts : List AccountForm) (rows : List OrderRow) (owners : List ℕ) → AreOwners accounts rows owners → AreOwners (accounts ++ []) rows owners
owned-still accounts rows owners = subst (λ some. AreOwners some rows owners) (sym (append-nil accounts))

-- ---- an order more

pub as-many : (accounts : List AccountForm) (rows : List OrderRow) (owners : List ℕ) → AreOwners accounts rows owners → length rows ≡ length owners
as-many accounts rows owners are =
    sym (length-map rows (λ (row : OrderRow). household_of accounts row.order.account)) ∙ (ap length are ∙ length-map owners Some)

pub got-more : {X : Type 0} (xs : List X) (x found : X) (k : ℕ) → slice_get (xs ++ x ∷ []) k ≡ Some found → (slice_get xs k ≡ Some found) ⊎ ((k ≡ length xs) × (x ≡ found))
got-more [] x found zero is = inr (refl, some-same is)
got-more [] x found (suc k) is = absurd (none-some is)
got-more (y ∷ xs) x found zero is = inl is
got-more (y ∷ xs) x found (suc k) is = elim (got-more xs x found k is) [
  | inl h ↦ inl h
  | inr e ↦ inr (ap suc e.0, e.1)
]

among-before : (places : List ℕ) (last k : ℕ) → k < last → is_among (places ++ last ∷ []) k ≡ true → is_among places k ≡ true
among-before [] last k less is = absurd (true≢false (sym is ∙ ap (λ b. b || false) (eq-no k last (λ same. omega (arith, less, same)))))
among-before (place ∷ places) last k less is = by (k == place) is (among-before places last k less)
  where
    by : (b : Bool) → (b || is_among (places ++ last ∷ []) k) ≡ true → (is_among (places ++ last ∷ []) k ≡ true → is_among places k ≡ true) → (b || is_among places k) ≡ true
    by true is later = refl
    by false is later = later is

pub rises-more : (owners waiting : List ℕ) (household : ℕ) → RisesWithin 0 (length owners) waiting → RisesWithin 0 (length (owners ++ household ∷ [])) (waiting ++ length owners ∷ [])
rises-more owners waiting household within =
    subst (λ n. RisesWithin 0 n (waiting ++ length owners ∷ [])) (let more = length-append owners (household ∷ []) in omega (arith, more))
    (rises-behind 0 (length owners) waiting (omega arith) within)

pub more-enough : (sheets : List Sheet) (rows : List OrderRow) (owners waiting : List ℕ) (row : OrderRow) → length rows ≡ length owners → HasEach (waits sheets) rows waiting → HasEach (waits sheets) (rows ++ row ∷ []) (waiting ++ length owners ∷ [])
more-enough sheets rows owners waiting row many enough =
    subst (λ n. HasEach (waits sheets) (rows ++ row ∷ []) (waiting ++ n ∷ [])) many (one_more_waits (waits sheets) rows waiting row enough)

-- those that waited wait on
wait-on : (sheets : List Sheet) (rows : List OrderRow) (owners waiting : List ℕ) → length rows ≡ length owners → AllWait sheets rows waiting → (k : ℕ) (found : OrderRow) → slice_get rows k ≡ Some found → is_among (waiting ++ length owners ∷ []) k ≡ true → stands found ≡ true → waits sheets found ≡ true
wait-on sheets rows owners waiting many all k found there among on =
    let less = within-list rows k found there in
    all k found there (among-before waiting (length owners) k (omega (arith, less, many)) among) on

-- one that is placed waits
pub keeps-placed : (journal : Journal) (event : Event) (placed : Placed) (household : ℕ) (owners waiting : List ℕ) → IsLawful (with_event journal event) → event.kind ≡ EventKind.Order placed → household_of (accounts_of journal) placed.order.account ≡ Some household → IsIndexOf journal owners waiting → Keeps (accounts_of journal ++ []) (sheets_of journal) (orders_of journal ++ row_as_sent (length journal) placed.receipt placed.order ∷ []) (owners ++ household ∷ []) (waiting ++ length owners ∷ [])
keeps-placed journal event placed household owners waiting lawful kind own is = record {
  owned = owned-still (accounts_of journal) (rows ++ row ∷ []) (owners ++ household ∷ []) (one_more_owned (accounts_of journal) rows owners row household own is.owned);
  enough = more-enough (sheets_of journal) rows owners waiting row many is.enough;
  all_wait = all;
}
  where
    rows : List OrderRow
    rows = orders_of journal

    row : OrderRow
    row = row_as_sent (length journal) placed.receipt placed.order

    many : length rows ≡ length owners
    many = as-many (accounts_of journal) rows owners is.owned

    new-waits : waits (sheets_of journal) row ≡ true
    new-waits = ap (λ found. is_none (option_map (λ (s : Sheet). s.number) found)) (order_waits journal event lawful placed kind)

    all : AllWait (sheets_of journal) (rows ++ row ∷ []) (waiting ++ length owners ∷ [])
    all place found there among on = elim (got-more rows row found place there) [
      | inl before ↦ wait-on (sheets_of journal) rows owners waiting many is.all_wait place found before among on
      | inr last ↦ subst (λ r. waits (sheets_of journal) r ≡ true) last.1 new-waits
    ]

pub begins_order : (journal : Journal) (event : Event) (placed : Placed) (household : ℕ) (owners waiting : List ℕ) → LawfulBeginsOrder journal event placed household owners waiting
begins_order journal event placed household owners waiting lawful kind own is =
    index-behind journal event lawful (EventKind.Order placed) kind (owners ++ household ∷ []) (waiting ++ length owners ∷ [])
    (rises-more owners waiting household is.within)
    (keeps-placed journal event placed household owners waiting lawful kind own is)

pub enters_order : (journal : Journal) (event : Event) (form : EntryForm) (household : ℕ) (owners waiting : List ℕ) → LawfulEntersOrder journal event form household owners waiting
enters_order journal event form household owners waiting lawful kind own is =
    settled-behind journal event lawful (EventKind.Enter form) kind (length owners) now (waiting ++ length owners ∷ [])
    (owned-still (accounts_of journal) (rows ++ row ∷ []) now (one_more_owned (accounts_of journal) rows owners row household own is.owned))
    (rises-more owners waiting household is.within)
    (more-enough (sheets_of journal) rows owners waiting row many is.enough)
    others
  where
    rows : List OrderRow
    rows = orders_of journal

    row : OrderRow
    row = row_as_sent (length journal) form.receipt form.order

    now : List ℕ
    now = owners ++ household ∷ []

    many : length rows ≡ length owners
    many = as-many (accounts_of journal) rows owners is.owned

    others : AllOthersWait (sheets_of journal) (rows ++ row ∷ []) (length owners) (waiting ++ length owners ∷ [])
    others k found apart there among on = elim (got-more rows row found k there) [
      | inl before ↦ wait-on (sheets_of journal) rows owners waiting many is.all_wait k found before among on
      | inr last ↦ absurd (apart (last.0 ∙ many))
    ]

-- ---- an order that is replaced

none-left : {X : Type 0} (p : X → Bool) (xs : List X) (k : ℕ) (x : X) → length (filter p xs) ≤ 0 → slice_get xs k ≡ Some x → p x ≡ true → ⊥
none-left p [] k x few there on = none-some there
none-left {X = X} p (y ∷ ys) zero x few there on = by (p y) (ap p (some-same there) ∙ on) few
  where
    by : (b : Bool) → b ≡ true → length (cond b (y ∷ filter p ys) (filter p ys)) ≤ 0 → ⊥
    by true is few = omega (arith, few)
    by false is few = true≢false (sym is)
none-left {X = X} p (y ∷ ys) (suc k) x few there on = by (p y) few (none-left p ys k x)
  where
    by : (b : Bool) → length (cond b (y ∷ filter p ys) (filter p ys)) ≤ 0 → (length (filter p ys) ≤ 0 → slice_get ys k ≡ Some x → p x ≡ true → ⊥) → ⊥
    by true few later = omega (arith, few)
    by false few later = later few there on

one-place : {X : Type 0} (p : X → Bool) (xs : List X) (i j : ℕ) (x y : X) → length (filter p xs) ≤ 1 → slice_get xs i ≡ Some x → p x ≡ true → slice_get xs j ≡ Some y → p y ≡ true → i ≡ j
one-place p [] i j x y few here on there also = absurd (none-some here)
one-place p (z ∷ zs) zero zero x y few here on there also = refl
one-place {X = X} p (z ∷ zs) zero (suc j) x y few here on there also = by (p z) (ap p (some-same here) ∙ on) few
  where
    by : (b : Bool) → b ≡ true → length (cond b (z ∷ filter p zs) (filter p zs)) ≤ 1 → zero ≡ suc j
    by true is few = absurd (none-left p zs j y (omega (arith, few)) there also)
    by false is few = absurd (true≢false (sym is))
one-place {X = X} p (z ∷ zs) (suc i) zero x y few here on there also = by (p z) (ap p (some-same there) ∙ also) few
  where
    by : (b : Bool) → b ≡ true → length (cond b (z ∷ filter p zs) (filter p zs)) ≤ 1 → suc i ≡ zero
    by true is few = absurd (none-left p zs i x (omega (arith, few)) here on)
    by false is few = absurd (true≢false (sym is))
one-place {X = X} p (z ∷ zs) (suc i) (suc j) x y few here on there also = ap suc (one-place p zs i j x y (by (p z) few) here on there also)
  where
    by : (b : Bool) → length (cond b (z ∷ filter p zs) (filter p zs)) ≤ 1 → length (filter p zs) ≤ 1
    by true few = omega (arith, few)
    by false few = few

-- a replacement has the name of its order
named-alike : (row : OrderRow) (form : EntryForm) → replaces row.order form ≡ true → is_named form.order.account form.order.ref_no row.order ≡ true
named-alike row form e =
    let both = and_parts (form.order.account == row.order.account) (form.order.ref_no == row.order.ref_no) e in
    and_from (row.order.account == form.order.account) (row.order.ref_no == form.order.ref_no)
    (eq-yes row.order.account form.order.account (sym (eqb-true form.order.account row.order.account both.0)))
    (eq-yes row.order.ref_no form.order.ref_no (sym (eqb-true form.order.ref_no row.order.ref_no both.1)))

-- and leaves every other order
pub others-stay : (journal : Journal) (event : Event) (form : EntryForm) (place : ℕ) → IsLawful (with_event journal event) → (row : OrderRow) → slice_get (orders_of journal) place ≡ Some row → replaces row.order form ≡ true → (k : ℕ) → k ≢ place → slice_get (map (replaced_by form) (orders_of journal)) k ≡ slice_get (orders_of journal) k
others-stay journal event form place lawful row there named k apart = got-under (replaced_by form) rows k ∙ by (slice_get rows k) refl
  where
    rows : List OrderRow
    rows = orders_of journal

    by_name : (old : OrderRow) → slice_get rows k ≡ Some old → (b : Bool) → replaces old.order form ≡ b → Some (cond b (record { place = old.place; receipt = form.receipt; struck = old.struck; order = form.order }) old) ≡ Some old
    by_name old at true e =
        absurd (apart (one-place (λ (r : OrderRow). is_named form.order.account form.order.ref_no r.order) rows k place old row (one-named journal (last-brought journal event lawful).0 form.order.account form.order.ref_no) at (named-alike old form e) there (named-alike row form named)))
    by_name old at false e = refl

    by : (found : Option OrderRow) → slice_get rows k ≡ found → option_map (replaced_by form) found ≡ found
    by None at = refl
    by (Some old) at = by_name old at (replaces old.order form) refl

pub replaces_order : (journal : Journal) (event : Event) (form : EntryForm) (place : ℕ) (owners waiting : List ℕ) → LawfulReplacesOrder journal event form place owners waiting
replaces_order journal event form place owners waiting lawful kind row there named is =
    let rows = orders_of journal in
    let less = within-list rows place row there in
    let many = as-many (accounts_of journal) rows owners is.owned in
    let stay = others-stay journal event form place lawful row there named in
    settled-behind journal event lawful (EventKind.Replace form) kind place owners (with_place place waiting)
    (owned-still (accounts_of journal) (map (replaced_by form) rows) owners (owned_when_changed (accounts_of journal) rows owners (replaced_by form) (account-replaced form) is.owned))
    (rises-with place 0 (length owners) waiting (omega arith) (omega (arith, less, many)) is.within)
    (another_waits (waits (sheets_of journal)) rows (map (replaced_by form) rows) waiting place stay is.enough)
    (λ k found apart got among on. is.all_wait k found (sym (stay k apart) ∙ got) (among-others place k waiting apart among) on)

-- ---- a sheet

-- what no sheet prices with one more, none priced before
none-before : (sheets : List Sheet) (new : Sheet) (row : OrderRow) → is_none (sheet_number (sheets ++ new ∷ []) row) ≡ true → is_none (sheet_number sheets row) ≡ true
none-before sheets new row is =
    by (prices_order asked receipt new) (next_sheet sheets asked receipt)
    (sym (ap (λ found. is_none (option_map (λ (s : Sheet). s.number) found)) (fold-append (best_so_far (prices_order asked receipt) is_earlier) None sheets (new ∷ []))) ∙ is)
  where
    asked : List ℕ
    asked = classes_in row.order.body

    receipt : ℕ
    receipt = row.receipt

    never : (b : Bool) (y : Sheet) → is_none (option_map (λ (s : Sheet). s.number) (cond b (Some new) (Some y))) ≡ true → ⊥
    never true y e = true≢false (sym e)
    never false y e = true≢false (sym e)

    by : (b : Bool) (found : Option Sheet) → is_none (option_map (λ (s : Sheet). s.number) (cond b (found_or_better is_earlier found new) found)) ≡ true → is_none (option_map (λ (s : Sheet). s.number) found) ≡ true
    by true None e = refl
    by true (Some y) e = absurd (never (is_earlier new y) y e)
    by false found e = e

pub waited-before : (sheets : List Sheet) (new : Sheet) (row : OrderRow) → waits (sheets ++ new ∷ []) row ≡ true → waits sheets row ≡ true
waited-before sheets new row is =
    let both = and_parts (stands row) (is_none (sheet_number (sheets ++ new ∷ []) row)) is in
    and_from (stands row) (is_none (sheet_number sheets row)) both.0 (none-before sheets new row both.1)

-- a sheet behind the others is found by its number
pub last-found : (p : Sheet → Bool) (sheets : List Sheet) (new : Sheet) → All (λ (s : Sheet). p s ≡ false) sheets → p new ≡ true → find p (sheets ++ new ∷ []) ≡ Some new
last-found p [] new all on = ap (λ b. cond b (Some new) None) on
last-found p (s ∷ ss) new all on =
    ap (λ b. cond b (Some s) (find p (ss ++ new ∷ []))) (All-head (λ (t : Sheet). p t ≡ false) s ss all)
    ∙ last-found p ss new (All-tail (λ (t : Sheet). p t ≡ false) s ss all) on

-- what it takes are those that wait no more
pub taken-left : (journal : Journal) (event : Event) (form : SheetForm) (waiting : List ℕ) → IsLawful (with_event journal event) → event.kind ≡ EventKind.Sheet form → AllWait (sheets_of journal) (orders_of journal) waiting → filter (passes_at (stays (sheet_behind journal form).number (sheets_of (with_event journal event))) (orders_of (with_event journal event))) waiting ≡ left_waiting (with_event journal event) waiting
taken-left journal event form waiting lawful kind all =
    ap (λ s. filter (passes_at (stays new.number s) (orders_of (with_event journal event))) waiting) sheets-more
    ∙ (ap (λ r. filter (passes_at (stays new.number (sheets ++ new ∷ [])) r) waiting) rows-same
    ∙ (last_leaves rows sheets new waiting last-number all
    ∙ (ap (λ r. filter (passes_at (waits (sheets ++ new ∷ [])) r) waiting) (sym rows-same)
    ∙ ap (λ s. filter (passes_at (waits s) (orders_of (with_event journal event))) waiting) (sym sheets-more))))
  where
    rows : List OrderRow
    rows = orders_of journal

    sheets : List Sheet
    sheets = sheets_of journal

    new : Sheet
    new = sheet_behind journal form

    rows-same : orders_of (with_event journal event) ≡ rows
    rows-same = rows-behind journal event lawful (EventKind.Sheet form) kind

    sheets-more : sheets_of (with_event journal event) ≡ sheets ++ new ∷ []
    sheets-more = sheets-behind journal event lawful (EventKind.Sheet form) kind

    last-number : IsNumbered sheets new
    last-number =
        last-found (λ (s : Sheet). s.number == new.number) sheets new
        (λ k d short. eq-no (get_or sheets k d).number new.number (λ alike. let is = (numbered journal (last-brought journal event lawful).0).corrected.each k d short in omega (arith, is, alike, short)))
        (eq-yes new.number new.number refl)

pub sheet_takes : (journal : Journal) (event : Event) (form : SheetForm) (owners waiting : List ℕ) → LawfulSheetTakes journal event form owners waiting
sheet_takes journal event form owners waiting lawful kind is =
    let rows = orders_of journal in
    let new = sheet_behind journal form in
    let more = sheets_of journal ++ new ∷ [] in
    subst (IsIndexOf (with_event journal event) owners) (sym (taken-left journal event form waiting lawful kind is.all_wait))
    (left-behind journal event lawful (EventKind.Sheet form) kind owners waiting
    (owned-still (accounts_of journal) rows owners is.owned)
    is.within
    (still_waits (waits (sheets_of journal)) (waits more) rows rows waiting (λ place row there now. (row, there, waited-before (sheets_of journal) new row now)) is.enough))
