-- The orders of a sheet stand in turn: by receipt, and at equal receipts by place in the journal.
use Rattle.std.proofs.Common.{All, Bool, List, None, Option, Some, [], ap, arith, cond, false, filter, find, fold, get_or, inl, inr, length, map, nat_le, nat_lt, not, option_map, option_to_list, refl, slice_get, subst, suc, sym, take, true, ℕ, ◌&&◌, ◌+◌, ◌<◌, ◌∙◌, ◌∷◌, ◌≡◌, ◌≤◌}
use Rattle.std.proofs.lemmas.Bool.{cases_lt, ltb-true, true≢false}
use Rattle.std.proofs.lemmas.Bool.Decides.{leb_tells}
use Rattle.std.proofs.lemmas.List.{get_or-map, length-map}
use Rattle.std.proofs.lemmas.List.Elements.{All-append, All-cons, All-filter, All-nil, filter_passes}
use Rattle.std.proofs.lemmas.List.Kept.{AllPairs-cons, AllPairs-filter}
use Rattle.std.specs.Prelude.{AllPairs}
use Rattle.agent_events.specs.Events.{Event}
use Rattle.agent_events.specs.declared.event.EventKind.{EventKind}
use Rattle.agent_events.specs.declared.order.Bearer.{Bearer}
use Rattle.agent_events.specs.declared.order.OrderRow.{OrderRow}
use Rattle.agent_events.specs.declared.reply.Refusal.{Refusal}
use Rattle.forward_price.specs.PriceTables.{Table}
use Rattle.forward_price.specs.declared.price_sheet.Sheet.{Sheet}
use Rattle.share_lots.proofs.LotLemmas.{All-head, All-tail, AllPairs-head, AllPairs-tail}
use Rattle.register_laws.proofs.Choosing.{none_some}
use Rattle.register_laws.proofs.ListParts.{pairs-append}
use Rattle.register_laws.proofs.OneTradeAnOrder.{is_bare, no_bare}
use Rattle.register_laws.specs.Lawful.{book_behind}
use Rattle.register_machine.specs.pricing.PublishedTable.{table_of}
use Rattle.register_laws.specs.Priced.{BreaksFirst, GoesBefore, IsFirstBroken, IsOfAnOrder, is_order_kind, ExecutesInTurn}
use Rattle.register_machine.specs.corrections.Payments.{bearer_in}
use Rattle.register_machine.specs.journal.Journals.{Journal, with_event}
use Rattle.register_machine.specs.journal.Kinds.{each_in, replacement_in}
use Rattle.register_machine.specs.pricing.CorrectedBook.{Book, book_of}
use Rattle.register_machine.specs.pricing.CorrectedOrders.{order_begun, orders_begun, orders_of, row_as_corrected, row_as_sent, stands, struck_in}
use Rattle.register_machine.specs.replay.Replay.{Priced, all_in_turn, in_turn, is_priced_on, orders_on, priced_in, priced_orders, replay}
use Rattle.agent_events.specs.declared.trade.Trade.{Trade}
use Rattle.register_machine.specs.rules.Breaks.{breaks_by, is_broken, is_filled, order_corrected}
use Rattle.register_machine.specs.rules.Situations.{Situation}

pub pairs-none : {X : Type 0} (R : X → X → Type 0) → AllPairs R []
pairs-none R i j d lt short = absurd (omega (arith, short))

-- ---- a row goes into its turn

abbrev stands_by : ℕ → OrderRow → Bool
stands_by receipt other = nat_le other.receipt receipt

abbrev stands_behind : ℕ → OrderRow → Bool
stands_behind receipt other = nat_lt receipt other.receipt

by-fact : (receipt : ℕ) (other : OrderRow) → stands_by receipt other ≡ true → other.receipt ≤ receipt
by-fact receipt other e = elim (leb_tells other.receipt receipt) [
  | inl (t, le) ↦ le
  | inr (t, gt) ↦ absurd (true≢false (sym e ∙ t))
]

turn-order : (row : OrderRow) (rows : List OrderRow) → AllPairs GoesBefore rows → All (λ (other : OrderRow). other.place < row.place) rows → AllPairs GoesBefore (in_turn row rows)
turn-order row rows ordered places =
    pairs-append GoesBefore before (row ∷ behind) (AllPairs-filter GoesBefore (stands_by row.receipt) rows ordered)
    (AllPairs-cons GoesBefore row behind
    (λ k d short. inl (ltb-true row.receipt (get_or behind k d).receipt (filter_passes (stands_behind row.receipt) rows k d short)))
    (AllPairs-filter GoesBefore (stands_behind row.receipt) rows ordered))
    (λ k d short.
    let x = get_or before k d in
    let le = by-fact row.receipt x (filter_passes (stands_by row.receipt) rows k d short) in
    let place = All-filter (stands_by row.receipt) (λ (other : OrderRow). other.place < row.place) rows places k d short in
    All-cons (GoesBefore x) row behind (first x le place)
    (λ i e within. inl (let lt = ltb-true row.receipt (get_or behind i e).receipt (filter_passes (stands_behind row.receipt) rows i e within) in omega (arith, le, lt))))
  where
    before : List OrderRow
    before = filter (stands_by row.receipt) rows

    behind : List OrderRow
    behind = filter (stands_behind row.receipt) rows

    first : (x : OrderRow) → x.receipt ≤ row.receipt → x.place < row.place → GoesBefore x row
    first x le place = elim (cases_lt x.receipt row.receipt) [
      | inl lt ↦ inl lt
      | inr ge ↦ inr (omega (arith, le, ge), place)
    ]

-- each of these has a smaller place than each of those
abbrev ArePlacedBefore : List OrderRow → List OrderRow → Type 0
ArePlacedBefore rows later = All (λ (row : OrderRow). All (λ (other : OrderRow). row.place < other.place) later) rows

turns-order : (ordered rows : List OrderRow) → AllPairs GoesBefore ordered → AllPairs (λ (row other : OrderRow). row.place < other.place) rows → ArePlacedBefore ordered rows → AllPairs GoesBefore (fold (λ ordered row. in_turn row ordered) ordered rows)
turns-order ordered [] turns rise before = turns
turns-order ordered (row ∷ rows) turns rise before =
    let smaller = λ (k : ℕ) (d : OrderRow) (short : k < length ordered). All-head (λ (other : OrderRow). (get_or ordered k d).place < other.place) row rows (before k d short) in
    let later : ArePlacedBefore ordered rows = λ k d short. All-tail (λ (other : OrderRow). (get_or ordered k d).place < other.place) row rows (before k d short) in
    turns-order (in_turn row ordered) rows (turn-order row ordered turns smaller)
    (AllPairs-tail (λ (row other : OrderRow). row.place < other.place) row rows rise)
    (All-append (λ (x : OrderRow). All (λ (other : OrderRow). x.place < other.place) rows) (filter (stands_by row.receipt) ordered) (row ∷ filter (stands_behind row.receipt) ordered)
    (All-filter (stands_by row.receipt) (λ (x : OrderRow). All (λ (other : OrderRow). x.place < other.place) rows) ordered later)
    (All-cons (λ (x : OrderRow). All (λ (other : OrderRow). x.place < other.place) rows) row (filter (stands_behind row.receipt) ordered)
    (AllPairs-head (λ (row other : OrderRow). row.place < other.place) row rows rise)
    (All-filter (stands_behind row.receipt) (λ (x : OrderRow). All (λ (other : OrderRow). x.place < other.place) rows) ordered later)))

-- ---- the orders of a journal rise by place

one-rises : (place : ℕ) (kind : EventKind) → AllPairs (λ (row other : OrderRow). row.place < other.place) (option_to_list (order_begun place kind)) × All (λ (row : OrderRow). row.place ≡ place) (option_to_list (order_begun place kind))
one-rises place kind = by_begun (order_begun place kind) refl
  where
    placed-there : (kind : EventKind) (row : OrderRow) → order_begun place kind ≡ Some row → row.place ≡ place
    placed-there (EventKind.Order placed) row is =
        let same : row_as_sent place placed.receipt placed.order ≡ row = cc in ap (λ (r : OrderRow). r.place) (sym same)
    placed-there (EventKind.Enter form) row is =
        let same : row_as_sent place form.receipt form.order ≡ row = cc in ap (λ (r : OrderRow). r.place) (sym same)
    placed-there kind row is = absurd (none_some is)

    by_begun : (found : Option OrderRow) → order_begun place kind ≡ found → AllPairs (λ (row other : OrderRow). row.place < other.place) (option_to_list found) × All (λ (row : OrderRow). row.place ≡ place) (option_to_list found)
    by_begun None is = (pairs-none (λ (row other : OrderRow). row.place < other.place), All-nil (λ (row : OrderRow). row.place ≡ place))
    by_begun (Some row) is = (
      AllPairs-cons (λ (row other : OrderRow). row.place < other.place) row [] (All-nil (λ (other : OrderRow). row.place < other.place)) (pairs-none (λ (row other : OrderRow). row.place < other.place)),
      All-cons (λ (r : OrderRow). r.place ≡ place) row [] (placed-there kind row is) (All-nil (λ (r : OrderRow). r.place ≡ place)),
    )

begun-rise : (place : ℕ) (journal : Journal) → AllPairs (λ (row other : OrderRow). row.place < other.place) (orders_begun place journal) × All (λ (row : OrderRow). place ≤ row.place) (orders_begun place journal)
begun-rise place [] = (pairs-none (λ (row other : OrderRow). row.place < other.place), All-nil (λ (row : OrderRow). place ≤ row.place))
begun-rise place (event ∷ later) =
    let one = one-rises place event.kind in
    let rest = begun-rise (place + 1) later in (
      pairs-append (λ (row other : OrderRow). row.place < other.place) (option_to_list (order_begun place event.kind)) (orders_begun (place + 1) later) one.0 rest.0
          (λ k d short i e within. let here = one.1 k d short in let there = rest.1 i e within in omega (arith, here, there)),
      All-append (λ (row : OrderRow). place ≤ row.place) (option_to_list (order_begun place event.kind)) (orders_begun (place + 1) later)
          (λ k d short. let here = one.1 k d short in omega (arith, here))
          (λ k d short. let there = rest.1 k d short in omega (arith, there)),
    )

orders-rise : (journal : Journal) → AllPairs (λ (row other : OrderRow). row.place < other.place) (orders_of journal)
orders-rise journal i j d lt short =
    let long : j < length begun = subst (λ n. j < n) (length-map begun row) short in
    subst (λ (r : OrderRow). r.place < (get_or (map row begun) j d).place) (sym (get_or-map row begun i d d (omega (arith, lt, long))))
    (subst (λ (r : OrderRow). (get_or begun i d).place < r.place) (sym (get_or-map row begun j d d long)) ((begun-rise 0 journal).0 i j d lt long))
  where
    begun : List OrderRow
    begun = orders_begun 0 journal

    row : OrderRow → OrderRow
    row = row_as_corrected (each_in struck_in journal) (each_in replacement_in journal)

-- ---- so a sheet's orders stand in turn

chosen-rows : (sheets : List Sheet) (number : ℕ) (rows : List OrderRow) → map (λ (order : Priced). order.row) (filter (is_priced_on number) (map (priced_in sheets) rows)) ≡ filter (λ row. is_priced_on number (priced_in sheets row)) rows
chosen-rows sheets number [] = refl
chosen-rows sheets number (row ∷ rows) = by_sheet (is_priced_on number (priced_in sheets row)) (chosen-rows sheets number rows)
  where
    by_sheet : (b : Bool) → map (λ (order : Priced). order.row) (filter (is_priced_on number) (map (priced_in sheets) rows)) ≡ filter (λ row. is_priced_on number (priced_in sheets row)) rows → map (λ (order : Priced). order.row) (cond b (priced_in sheets row ∷ filter (is_priced_on number) (map (priced_in sheets) rows)) (filter (is_priced_on number) (map (priced_in sheets) rows))) ≡ cond b (row ∷ filter (λ row. is_priced_on number (priced_in sheets row)) rows) (filter (λ row. is_priced_on number (priced_in sheets row)) rows)
    by_sheet true rest = ap (λ later. row ∷ later) rest
    by_sheet false rest = rest

orders-turned : (table : Table) (journal : Journal) (sheet : Sheet) → AllPairs GoesBefore (orders_on (priced_orders (book_of table journal)) sheet)
orders-turned table journal sheet =
    subst (λ rows. AllPairs GoesBefore (all_in_turn rows)) (sym (chosen-rows sheets sheet.number standing))
    (turns-order [] (filter there standing) (pairs-none GoesBefore)
    (AllPairs-filter (λ (row other : OrderRow). row.place < other.place) there standing
    (AllPairs-filter (λ (row other : OrderRow). row.place < other.place) stands (orders_of journal) (orders-rise journal)))
    (All-nil (λ (row : OrderRow). All (λ (other : OrderRow). row.place < other.place) (filter there standing))))
  where
    sheets : List Sheet
    sheets = (book_of table journal).table.sheets

    standing : List OrderRow
    standing = filter stands (orders_of journal)

    there : OrderRow → Bool
    there row = is_priced_on sheet.number (priced_in (book_of table journal).table.sheets row)

pub orders_in_turn : (journal : Journal) → ExecutesInTurn (book_behind journal)
orders_in_turn journal = record { each = orders-turned (table_of journal) journal }

-- ---- the first broken trade

found-first : {X : Type 0} (p : X → Bool) (xs : List X) (x : X) → find p xs ≡ Some x → (place : ℕ) × (slice_get xs place ≡ Some x) × (p x ≡ true) × All (λ y. p y ≡ false) (take place xs)
found-first p [] x e = absurd (none_some e)
found-first {X = X} p (y ∷ ys) x e = by_first (p y) refl e (λ h. found-first p ys x h)
  where
    some_same : Some y ≡ Some x → y ≡ x
    some_same h = cc

    by_first : (b : Bool) → p y ≡ b → cond b (Some y) (find p ys) ≡ Some x → (find p ys ≡ Some x → (place : ℕ) × (slice_get ys place ≡ Some x) × (p x ≡ true) × All (λ z. p z ≡ false) (take place ys)) → (place : ℕ) × (slice_get (y ∷ ys) place ≡ Some x) × (p x ≡ true) × All (λ z. p z ≡ false) (take place (y ∷ ys))
    by_first true is h rest = (0, h, subst (λ z. p z ≡ true) (some_same h) is, All-nil (λ z. p z ≡ false))
    by_first false is h rest = let later = rest h in (suc later.0, later.1, later.2, All-cons (λ z. p z ≡ false) y (take later.0 ys) is later.3)

pub first_broken : (situation : Situation) (event : Event) (account ref_no : ℕ) → BreaksFirst situation event account ref_no
first_broken situation event account ref_no e = by_bearer (bearer_in event.kind) e
  where
    before : List Trade
    before = (replay situation.book).trades

    after : List Trade
    after = (replay (book_of situation.book.table (with_event situation.journal event))).trades

    by_trade : (found : Option Trade) → find (is_broken (order_corrected event.kind) before) after ≡ found → option_map (λ (trade : Trade). Refusal.Breaks trade.account trade.ref_no) found ≡ Some (Refusal.Breaks account ref_no) → IsFirstBroken (order_corrected event.kind) before after account ref_no
    by_trade None is h = absurd (none_some h)
    by_trade (Some trade) is h =
        let same : Refusal.Breaks trade.account trade.ref_no ≡ Refusal.Breaks account ref_no = cc in
        let first = found-first (is_broken (order_corrected event.kind) before) after trade is in
        record {
          place = first.0;
          trade = trade;
          there = first.1;
          account_is = account_same trade same;
          ref_no_is = ref_no_same trade same;
          broken = first.2;
          first = first.3;
        }
      where
        account_same : (trade : Trade) → Refusal.Breaks trade.account trade.ref_no ≡ Refusal.Breaks account ref_no → trade.account ≡ account
        account_same trade h = cc

        ref_no_same : (trade : Trade) → Refusal.Breaks trade.account trade.ref_no ≡ Refusal.Breaks account ref_no → trade.ref_no ≡ ref_no
        ref_no_same trade h = cc

    by_bearer : (bearer : Option Bearer) → breaks_by bearer situation event ≡ Some (Refusal.Breaks account ref_no) → IsFirstBroken (order_corrected event.kind) before after account ref_no
    by_bearer None h = absurd (none_some h)
    by_bearer (Some bearer) h = by_trade (find (is_broken (order_corrected event.kind) before) after) refl h

-- an unfilled trade is an order's, since no other is ever unfilled
pub unfilled_are_orders : (book : Book) → All IsOfAnOrder (replay book).trades
unfilled_are_orders book k d short unfilled = by_kind (is_order_kind trade.kind) refl
  where
    trade : Trade
    trade = get_or (replay book).trades k d

    by_kind : (b : Bool) → is_order_kind (get_or (replay book).trades k d).kind ≡ b → b ≡ true
    by_kind true e = refl
    by_kind false e = absurd (true≢false (sym (bare e) ∙ no_bare book k d short))
      where
        bare : is_order_kind (get_or (replay book).trades k d).kind ≡ false → is_bare (get_or (replay book).trades k d) ≡ true
        bare h = ap (λ b. not b && not (is_filled (get_or (replay book).trades k d).outcome)) h ∙ ap not unfilled
