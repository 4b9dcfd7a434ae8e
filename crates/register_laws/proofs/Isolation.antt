-- What a holder asks is answered from the household's view alone.
use Rattle.std.proofs.Common.{All, Bool, List, None, Option, Some, [], ap, cond, false, filter, find, inl, inr, is_some, length, map, nat_le, nat_lt, not, option_and_then, option_map, position, refl, slice_get, subst, sym, take, true, unwrap_or, ℕ, ◌&&◌, ◌++◌, ◌+◌, ◌<◌, ◌==◌, ◌||◌, ◌∙◌, ◌∷◌, ◌≡◌, ◌⊎◌}
use Rattle.std.proofs.lemmas.Bool.{and_parts, eqb-true, lt-leb, lt-ltb, true≢false}
use Rattle.std.proofs.lemmas.List.Elements.{All-head, All-tail}
use Rattle.std.proofs.lemmas.List.Folds.{find_at}
use Rattle.std.proofs.lemmas.Option.{slice_get_cases}
use Rattle.std.specs.List.{list_any, position_or_len}
use Rattle.std.specs.Option.{option_map_or}
use Rattle.std.specs.Prelude.{codes, drop, flat_map}
use Rattle.fund_calendar.proofs.LookUpLemmas.{find_passes}
use Rattle.register_machine.specs.pricing.PublishedTable.{table_of}
use Rattle.agent_events.specs.Contents.{same_request}
use Rattle.agent_events.specs.Events.{Event, request_of}
use Rattle.agent_events.specs.declared.event.EventKind.{EventKind}
use Rattle.agent_events.specs.declared.order.Body.{Body}
use Rattle.agent_events.specs.declared.order.Order.{Order}
use Rattle.agent_events.specs.declared.order.OrderRow.{OrderRow}
use Rattle.agent_events.specs.declared.reply.Refusal.{Refusal}
use Rattle.agent_events.specs.declared.reply.Reply.{Reply}
use Rattle.agent_events.specs.declared.reply.OrderState.{OrderState}
use Rattle.agent_events.specs.declared.request.AccountForm.{AccountForm}
use Rattle.agent_events.specs.declared.request.CancelForm.{CancelForm}
use Rattle.agent_events.specs.declared.request.ClassForm.{ClassForm}
use Rattle.agent_events.specs.declared.request.DealerForm.{DealerForm}
use Rattle.agent_events.specs.declared.request.LineForm.{LineForm}
use Rattle.agent_events.specs.declared.request.Request.{Request}
use Rattle.agent_events.specs.declared.request.StatementForm.{StatementForm}
use Rattle.agent_events.specs.declared.request.TraceForm.{TraceForm}
use Rattle.agent_events.specs.declared.trade.Trade.{Trade}
use Rattle.agent_events.specs.declared.verdict.Caller.{Caller}
use Rattle.forward_price.specs.PriceTables.{Table}
use Rattle.register_laws.proofs.Choosing.{none_some, some_none}
use Rattle.register_laws.proofs.ListParts.{map-agree}
use Rattle.register_laws.proofs.PlacesLeftOut.{unplaced}
use Rattle.register_laws.proofs.RefusedByFirst.{found-there}
use Rattle.register_laws.proofs.SeenAlike.{Parts, SeenAlike, buys}
use Rattle.register_laws.specs.Isolation.{account_asked}
use Rattle.register_machine.specs.journal.Choices.{first_some, when}
use Rattle.register_machine.specs.journal.Journals.{Journal}
use Rattle.register_machine.specs.journal.Kinds.{class_numbered, dealer_numbered}
use Rattle.register_machine.specs.pricing.CorrectedBook.{Book, due_at, due_moment}
use Rattle.register_machine.specs.pricing.CorrectedOrders.{is_named, order_named, row_as_sent, stands}
use Rattle.register_machine.specs.pricing.DividendRates.{Rates}
use Rattle.register_machine.specs.pricing.OrderClasses.{class_of}
use Rattle.register_machine.specs.queries.Show.{position_text, positions_of}
use Rattle.register_machine.specs.queries.Statement.{account_name, heading, holding_line, is_in_period, line_text, statement_reply, trade_line}
use Rattle.register_machine.specs.queries.Trace.{bare_trace, trace_by, trace_of_row}
use Rattle.register_machine.specs.replay.Positions.{Position}
use Rattle.register_machine.specs.replay.Replay.{replay}
use Rattle.register_machine.specs.rules.Breaks.{is_trade_of}
use Rattle.register_machine.specs.rules.Callers.{may, owns, serves}
use Rattle.register_machine.specs.rules.InOrder.{Rule, broken_by, broken_rule, first_rules, rules_in_order}
use Rattle.register_machine.specs.rules.Limits.{most_orders}
use Rattle.register_machine.specs.rules.NamedThings.{has_account, has_order, named_in_order}
use Rattle.register_machine.specs.rules.Orders.{below_minimum_in, buys_class, is_published_at, late_by, late_cancel_of, ordered_before, window_of}
use Rattle.register_machine.specs.rules.Situations.{Situation}
use Rattle.register_machine.specs.run.Answers.{answer, answer_by, query_reply, refuses, repeat_answer, says}
use Rattle.register_machine.specs.run.Replies.{first_reply, reply_by}
use Rattle.register_machine.specs.run.Verdicts.{repeats, verdict_by_place, verdict_by_right, verdict_by_rule}

-- what everybody sees, the moment and the caller, and the parts of it that belong to some
pub record Base : Type 0 where
  pub table : Table
  pub classes : List ClassForm
  pub rates : Rates
  pub now : ℕ
  pub caller : Caller

abbrev pub book_at : Base → Parts → Book
book_at base parts = record {
  table = base.table;
  classes = base.classes;
  accounts = parts.accounts;
  orders = parts.orders;
  rates = base.rates;
}

abbrev pub sit : Base → Parts → Situation
sit base parts = record { journal = parts.journal; book = book_at base parts; now = base.now; caller = base.caller }

-- ---- orders that are found, but for their places

pub some-map : {X Y : Type 0} (f : X → Y) (found : Option X) → is_some (option_map f found) ≡ is_some found
some-map f None = refl
some-map f (Some x) = refl

then-unplaced : {X : Type 0} (f : OrderRow → Option X) → ((row : OrderRow) → f (unplaced row) ≡ f row) → (a b : Option OrderRow) → option_map unplaced a ≡ option_map unplaced b → option_and_then f a ≡ option_and_then f b
then-unplaced f same a b is = one a ∙ (ap (option_and_then f) is ∙ sym (one b))
  where
    one : (c : Option OrderRow) → option_and_then f c ≡ option_and_then f (option_map unplaced c)
    one None = refl
    one (Some row) = sym (same row)

or-unplaced : {X : Type 0} (f : OrderRow → X) (d : X) → ((row : OrderRow) → f (unplaced row) ≡ f row) → (a b : Option OrderRow) → option_map unplaced a ≡ option_map unplaced b → option_map_or f a d ≡ option_map_or f b d
or-unplaced f d same a b is = one a ∙ (ap (λ c. option_map_or f c d) is ∙ sym (one b))
  where
    one : (c : Option OrderRow) → option_map_or f c d ≡ option_map_or f (option_map unplaced c) d
    one None = refl
    one (Some row) = sym (same row)

place-free : (row : OrderRow) (class : ℕ) (rows : List OrderRow) → All (λ (other : OrderRow). other.place < row.place) rows → list_any (ordered_before row class) rows ≡ list_any (buys row.order.account class) rows
place-free row class [] all = refl
place-free row class (x ∷ xs) all =
    ap (λ b. (x.order.account == row.order.account && (b && (stands x && buys_class class x.order.body))) || list_any (ordered_before row class) xs) (lt-ltb x.place row.place (All-head (λ (other : OrderRow). other.place < row.place) x xs all))
    ∙ ap (λ b. buys row.order.account class x || b) (place-free row class xs (All-tail (λ (other : OrderRow). other.place < row.place) x xs all))

full-same : (one other : Parts) (account : ℕ) → SeenAlike one other account → nat_le 100000000 (length one.journal) ≡ nat_le 100000000 (length other.journal)
full-same one other account seen = lt-leb 100000000 (length one.journal) seen.short ∙ sym (lt-leb 100000000 (length other.journal) seen.short_too)

abbrev none_such_by : List (ℕ × Bool) → Option Refusal
none_such_by fields = option_map (λ field. Refusal.NoSuch field.0) (find (λ field. not field.1) fields)

-- ---- the rules, one by one

has-order-same : (base : Base) (one other : Parts) (account ref_no : ℕ) → SeenAlike one other account → has_order (sit base one) account ref_no ≡ has_order (sit base other) account ref_no
has-order-same base one other account ref_no seen =
    sym (some-map unplaced (order_named one.orders account ref_no)) ∙ (ap is_some (seen.named ref_no) ∙ some-map unplaced (order_named other.orders account ref_no))

below-same : (base : Base) (one other : Parts) (order : Order) (receipt : ℕ) → SeenAlike one other order.account → (body : Body) → below_minimum_in (book_at base one) (row_as_sent (length one.journal) receipt order) body ≡ below_minimum_in (book_at base other) (row_as_sent (length other.journal) receipt order) body
below-same base one other order receipt seen (Body.Buy class gross) =
    ap (λ b. let least = option_map_or (λ (terms : ClassForm). cond b terms.later_min terms.first_min) (class_numbered base.classes class) 0 in when (nat_lt gross least) (Refusal.BelowMinimum least))
    (place-free (row_as_sent (length one.journal) receipt order) class one.orders seen.places
    ∙ (seen.bought class ∙ sym (place-free (row_as_sent (length other.journal) receipt order) class other.orders seen.places_too)))
below-same base one other order receipt seen body = refl

window-same : (base : Base) (one other : Parts) (account : ℕ) → SeenAlike one other account → (caller : Caller) → window_of (sit base one) caller ≡ window_of (sit base other) caller
window-same base one other account seen (Caller.Dealer dealer) =
    ap (λ forms. option_map_or (λ (form : DealerForm). form.window) (dealer_numbered forms dealer) 0) seen.dealers
window-same base one other account seen caller = refl

late-same : (base : Base) (one other : Parts) (line : LineForm) → SeenAlike one other line.order.account → (due : Option ℕ) → late_by (sit base one) line due ≡ late_by (sit base other) line due
late-same base one other line seen None = refl
late-same base one other line seen (Some due) =
    ap (λ window. when (is_published_at (book_at base one) (class_of line.order.body) due || nat_lt (due + window) base.now) (Refusal.LateForDealer due))
    (window-same base one other line.order.account seen base.caller)

rule-order : (base : Base) (one other : Parts) (order : Order) → SeenAlike one other order.account → (rule : Rule) → broken_by (sit base one) (Request.Order order) None rule ≡ broken_by (sit base other) (Request.Order order) None rule
rule-order base one other order seen Rule.NoSuch =
    ap (λ form. none_such_by ((1, is_some form) ∷ drop 1 (named_in_order (sit base one) 1 order))) seen.form
rule-order base one other order seen Rule.RefUsed = ap (λ b. when (b || false) Refusal.RefUsed) (seen.references order.ref_no)
rule-order base one other order seen Rule.BelowMinimum = below-same base one other order base.now seen order.body
rule-order base one other order seen Rule.OrdersFull = ap (λ n. when (nat_le most_orders n) (Refusal.OrdersFull most_orders)) seen.counted
rule-order base one other order seen Rule.JournalFull = ap (λ b. when b Refusal.JournalFull) (full-same one other order.account seen)
rule-order base one other order seen rule = refl

rule-line : (base : Base) (one other : Parts) (line : LineForm) → SeenAlike one other line.order.account → (rule : Rule) → broken_by (sit base one) (Request.Line line) None rule ≡ broken_by (sit base other) (Request.Line line) None rule
rule-line base one other line seen Rule.NoSuch =
    ap (λ form. none_such_by ((3, is_some form) ∷ drop 1 (named_in_order (sit base one) 3 line.order))) seen.form
rule-line base one other line seen Rule.RefUsed = ap (λ b. when (b || false) Refusal.RefUsed) (seen.references line.order.ref_no)
rule-line base one other line seen Rule.BelowMinimum = below-same base one other line.order line.receipt seen line.order.body
rule-line base one other line seen Rule.LateForDealer = late-same base one other line seen (due_at (book_at base one) line.order.body line.receipt)
rule-line base one other line seen Rule.OrdersFull = ap (λ n. when (nat_le most_orders n) (Refusal.OrdersFull most_orders)) seen.counted
rule-line base one other line seen Rule.JournalFull = ap (λ b. when b Refusal.JournalFull) (full-same one other line.order.account seen)
rule-line base one other line seen rule = refl

rule-cancel : (base : Base) (one other : Parts) (form : CancelForm) → SeenAlike one other form.account → (rule : Rule) → broken_by (sit base one) (Request.Cancel form) None rule ≡ broken_by (sit base other) (Request.Cancel form) None rule
rule-cancel base one other form seen Rule.NoSuch =
    ap (λ found. none_such_by ((1, is_some found) ∷ (3, has_order (sit base one) form.account form.target) ∷ [])) seen.form
    ∙ ap (λ b. none_such_by ((1, has_account (sit base other) form.account) ∷ (3, b) ∷ [])) (has-order-same base one other form.account form.target seen)
rule-cancel base one other form seen Rule.RefUsed = ap (λ b. when (b || false) Refusal.RefUsed) (seen.references form.ref_no)
rule-cancel base one other form seen Rule.CancelLate =
    then-unplaced (late_cancel_of (sit base one)) (λ row. refl) (order_named one.orders form.account form.target) (order_named other.orders form.account form.target) (seen.named form.target)
rule-cancel base one other form seen Rule.NotPending =
    ap (λ b. when b Refusal.NotPending) (or-unplaced (λ (row : OrderRow). row.struck) false (λ row. refl) (order_named one.orders form.account form.target) (order_named other.orders form.account form.target) (seen.named form.target))
rule-cancel base one other form seen Rule.OrdersFull = ap (λ n. when (nat_le most_orders n) (Refusal.OrdersFull most_orders)) seen.counted
rule-cancel base one other form seen Rule.JournalFull = ap (λ b. when b Refusal.JournalFull) (full-same one other form.account seen)
rule-cancel base one other form seen rule = refl

rule-show : (base : Base) (one other : Parts) (account : ℕ) → SeenAlike one other account → (rule : Rule) → broken_by (sit base one) (Request.Show account) None rule ≡ broken_by (sit base other) (Request.Show account) None rule
rule-show base one other account seen Rule.NoSuch = ap (λ found. none_such_by ((1, is_some found) ∷ [])) seen.form
rule-show base one other account seen rule = refl

rule-trace : (base : Base) (one other : Parts) (form : TraceForm) → SeenAlike one other form.account → (rule : Rule) → broken_by (sit base one) (Request.Trace form) None rule ≡ broken_by (sit base other) (Request.Trace form) None rule
rule-trace base one other form seen Rule.NoSuch =
    ap (λ found. none_such_by ((1, is_some found) ∷ (2, has_order (sit base one) form.account form.ref_no) ∷ [])) seen.form
    ∙ ap (λ b. none_such_by ((1, has_account (sit base other) form.account) ∷ (2, b) ∷ [])) (has-order-same base one other form.account form.ref_no seen)
rule-trace base one other form seen rule = refl

rule-statement : (base : Base) (one other : Parts) (form : StatementForm) → SeenAlike one other form.account → (rule : Rule) → broken_by (sit base one) (Request.Statement form) None rule ≡ broken_by (sit base other) (Request.Statement form) None rule
rule-statement base one other form seen Rule.NoSuch = ap (λ found. none_such_by ((1, is_some found) ∷ [])) seen.form
rule-statement base one other form seen rule = refl

-- the first rule that is broken
pub broken-same : (base : Base) (one other : Parts) (account : ℕ) → SeenAlike one other account → (request : Request) → account_asked request ≡ Some account → broken_rule (sit base one) request ≡ broken_rule (sit base other) request
broken-same base one other account seen (Request.Order order) asked =
    let is : account ≡ order.account = cc in
    ap first_some (map-agree (broken_by (sit base one) (Request.Order order) None) (broken_by (sit base other) (Request.Order order) None) (rule-order base one other order (subst (SeenAlike one other) is seen)) rules_in_order)
broken-same base one other account seen (Request.Line line) asked =
    let is : account ≡ line.order.account = cc in
    ap first_some (map-agree (broken_by (sit base one) (Request.Line line) None) (broken_by (sit base other) (Request.Line line) None) (rule-line base one other line (subst (SeenAlike one other) is seen)) rules_in_order)
broken-same base one other account seen (Request.Cancel form) asked =
    let is : account ≡ form.account = cc in
    ap first_some (map-agree (broken_by (sit base one) (Request.Cancel form) None) (broken_by (sit base other) (Request.Cancel form) None) (rule-cancel base one other form (subst (SeenAlike one other) is seen)) rules_in_order)
broken-same base one other account seen (Request.Show number) asked =
    let is : account ≡ number = cc in
    ap first_some (map-agree (broken_by (sit base one) (Request.Show number) None) (broken_by (sit base other) (Request.Show number) None) (rule-show base one other number (subst (SeenAlike one other) is seen)) rules_in_order)
broken-same base one other account seen (Request.Trace form) asked =
    let is : account ≡ form.account = cc in
    ap first_some (map-agree (broken_by (sit base one) (Request.Trace form) None) (broken_by (sit base other) (Request.Trace form) None) (rule-trace base one other form (subst (SeenAlike one other) is seen)) rules_in_order)
broken-same base one other account seen (Request.Statement form) asked =
    let is : account ≡ form.account = cc in
    ap first_some (map-agree (broken_by (sit base one) (Request.Statement form) None) (broken_by (sit base other) (Request.Statement form) None) (rule-statement base one other form (subst (SeenAlike one other) is seen)) rules_in_order)
broken-same base one other account seen request asked = absurd (none_some asked)

-- ---- the right to ask

may-same : (one other : Parts) (account : ℕ) → SeenAlike one other account → (caller : Caller) (request : Request) → account_asked request ≡ Some account → may one.accounts caller request ≡ may other.accounts caller request
may-same one other account seen Caller.Operator request asked = refl
may-same one other account seen Caller.Stranger request asked = refl
may-same one other account seen (Caller.Household household) (Request.Order order) asked = let is : account ≡ order.account = cc in subst (λ a. owns one.accounts household a ≡ owns other.accounts household a) is (seen.owned household)
may-same one other account seen (Caller.Household household) (Request.Cancel form) asked = let is : account ≡ form.account = cc in subst (λ a. owns one.accounts household a ≡ owns other.accounts household a) is (seen.owned household)
may-same one other account seen (Caller.Household household) (Request.Show number) asked = let is : account ≡ number = cc in subst (λ a. owns one.accounts household a ≡ owns other.accounts household a) is (seen.owned household)
may-same one other account seen (Caller.Household household) (Request.Trace form) asked = let is : account ≡ form.account = cc in subst (λ a. owns one.accounts household a ≡ owns other.accounts household a) is (seen.owned household)
may-same one other account seen (Caller.Household household) (Request.Statement form) asked = let is : account ≡ form.account = cc in subst (λ a. owns one.accounts household a ≡ owns other.accounts household a) is (seen.owned household)
may-same one other account seen (Caller.Household household) request asked = refl
may-same one other account seen (Caller.Dealer dealer) (Request.Line line) asked = let is : account ≡ line.order.account = cc in subst (λ a. serves one.accounts dealer a ≡ serves other.accounts dealer a) is (seen.served dealer)
may-same one other account seen (Caller.Dealer dealer) (Request.Cancel form) asked = let is : account ≡ form.account = cc in subst (λ a. serves one.accounts dealer a ≡ serves other.accounts dealer a) is (seen.served dealer)
may-same one other account seen (Caller.Dealer dealer) (Request.Show number) asked = let is : account ≡ number = cc in subst (λ a. serves one.accounts dealer a ≡ serves other.accounts dealer a) is (seen.served dealer)
may-same one other account seen (Caller.Dealer dealer) (Request.Trace form) asked = let is : account ≡ form.account = cc in subst (λ a. serves one.accounts dealer a ≡ serves other.accounts dealer a) is (seen.served dealer)
may-same one other account seen (Caller.Dealer dealer) (Request.Statement form) asked = let is : account ≡ form.account = cc in subst (λ a. serves one.accounts dealer a ≡ serves other.accounts dealer a) is (seen.served dealer)
may-same one other account seen (Caller.Dealer dealer) request asked = refl

-- the first rules of such a request are that on the right alone
abbrev right_only : Bool → Option Refusal
right_only allowed = first_some (when (not allowed) Refusal.NoRight ∷ None ∷ [])

first-is : (situation : Situation) (account : ℕ) (request : Request) → account_asked request ≡ Some account → first_some (first_rules situation request) ≡ right_only (may situation.book.accounts situation.caller request)
first-is situation account (Request.Order order) asked = refl
first-is situation account (Request.Line line) asked = refl
first-is situation account (Request.Cancel form) asked = refl
first-is situation account (Request.Show number) asked = refl
first-is situation account (Request.Trace form) asked = refl
first-is situation account (Request.Statement form) asked = refl
first-is situation account request asked = absurd (none_some asked)

-- ---- a repeat

-- the first event of this content, or none
abbrev FoundOrNot : {X : Type 0} → (X → Bool) → List X → Type 0
FoundOrNot {X} p xs =
    ((position p xs ≡ None) × (find p xs ≡ None))
    ⊎ ((k : ℕ) × (x : X) × (position p xs ≡ Some k) × (slice_get xs k ≡ Some x) × (find p xs ≡ Some x) × (p x ≡ true))

found-or-not : {X : Type 0} (p : X → Bool) (xs : List X) → FoundOrNot p xs
found-or-not {X = X} p xs = by (position p xs) refl
  where
    pick : (b : Bool) (n k : ℕ) → cond b (Some n) None ≡ Some k → n ≡ k
    pick true n k e = let is : n ≡ k = cc in is
    pick false n k e = absurd (none_some e)

    none : position p xs ≡ None → find p xs ≡ None
    none e = elim (slice_get_cases xs (position_or_len p xs)).1 [
      | inl there ↦ absurd (some_none (sym (ap (λ b. cond b (Some (position_or_len p xs)) None) (lt-ltb (position_or_len p xs) (length xs) there.1)) ∙ e))
      | inr past ↦ find_at p xs ∙ past.1
    ]

    by : (found : Option ℕ) → position p xs ≡ found → FoundOrNot p xs
    by None e = inl (e, none e)
    by (Some k) e =
        let there = found-there p xs k e in
        inr (k, there.0, e, there.1, find_at p xs ∙ (ap (slice_get xs) (pick (nat_lt (position_or_len p xs) (length xs)) (position_or_len p xs) k e) ∙ there.1), there.2)

-- the first reply to an order or a cancel depends on nothing before
says-same : (kind : EventKind) (request : Request) (account : ℕ) → account_asked request ≡ Some account → same_request (request_of kind) request ≡ true → (table table_too : Table) (before before_too : Journal) (event event_too : Event) → reply_by table before event kind ≡ reply_by table_too before_too event_too kind
says-same (EventKind.Order placed) request account asked e table table_too before before_too event event_too = refl
says-same (EventKind.Cancel form) request account asked e table table_too before before_too event event_too = refl
says-same kind (Request.Order order) account asked e table table_too before before_too event event_too = absurd (true≢false (sym e))
says-same kind (Request.Line line) account asked e table table_too before before_too event event_too = absurd (true≢false (sym e))
says-same kind (Request.Cancel form) account asked e table table_too before before_too event event_too = absurd (true≢false (sym e))
says-same kind (Request.Show number) account asked e table table_too before before_too event event_too = absurd (true≢false (sym e))
says-same kind (Request.Trace form) account asked e table table_too before before_too event event_too = absurd (true≢false (sym e))
says-same kind (Request.Statement form) account asked e table table_too before before_too event event_too = absurd (true≢false (sym e))
says-same kind request account asked e table table_too before before_too event event_too = absurd (none_some asked)

repeat-said : (journal : Journal) (k : ℕ) (event : Event) → slice_get journal k ≡ Some event → repeat_answer journal k ≡ says (first_reply (take k journal) event)
repeat-said journal k event there =
    ap (λ found. option_map_or (λ e. says (first_reply (take k journal) e)) found (refuses (Refusal.BadForm 0))) there

-- ---- looks at an account

-- what a look reads of a replay: the positions and trades of the account
pub record ReplaysAlike (book other : Book) (account : ℕ) : Type 0 where
  pub shown : positions_of (replay book).register account ≡ positions_of (replay other).register account
  pub traded : (ref_no : ℕ) → find (is_trade_of account ref_no) (replay book).trades ≡ find (is_trade_of account ref_no) (replay other).trades
  pub in_period : (form : StatementForm) → form.account ≡ account → filter (is_in_period form) (replay book).trades ≡ filter (is_in_period form) (replay other).trades

trace-row : (base : Base) (one other : Parts) (account : ℕ) → ReplaysAlike (book_at base one) (book_at base other) account → (row : OrderRow) → row.order.account ≡ account → trace_of_row (book_at base one) row ≡ trace_of_row (book_at base other) row
trace-row base one other account alike row by =
    ap (λ found. cond row.struck (bare_trace row OrderState.Struck (unwrap_or (due_moment (book_at base one) row) 0)) (trace_by (book_at base one) row found))
    (subst (λ a. find (is_trade_of a row.order.ref_no) (replay (book_at base one)).trades ≡ find (is_trade_of a row.order.ref_no) (replay (book_at base other)).trades) (sym by) (alike.traded row.order.ref_no))

trace-same : (base : Base) (one other : Parts) (account ref_no : ℕ) → ReplaysAlike (book_at base one) (book_at base other) account → (a b : Option OrderRow) → order_named one.orders account ref_no ≡ a → option_map unplaced a ≡ option_map unplaced b → option_map_or (λ row. Reply.Trace (trace_of_row (book_at base one) row)) a (Reply.Refused (Refusal.NoSuch 2)) ≡ option_map_or (λ row. Reply.Trace (trace_of_row (book_at base other) row)) b (Reply.Refused (Refusal.NoSuch 2))
trace-same base one other account ref_no alike None None is e = refl
trace-same base one other account ref_no alike None (Some y) is e = absurd (none_some e)
trace-same base one other account ref_no alike (Some x) None is e = absurd (some_none e)
trace-same base one other account ref_no alike (Some x) (Some y) is e =
    let same = ap (λ (o : Option OrderRow). unwrap_or o (unplaced x)) e in
    let named = find_passes (λ row. is_named account ref_no row.order) one.orders x is in
    ap Reply.Trace (trace-row base one other account alike x (eqb-true x.order.account account (and_parts (x.order.account == account) (x.order.ref_no == ref_no) named).0))
    ∙ ap (λ row. Reply.Trace (trace_of_row (book_at base other) row)) same

statement-same : (base : Base) (one other : Parts) (form : StatementForm) → SeenAlike one other form.account → ReplaysAlike (book_at base one) (book_at base other) form.account → statement_reply (sit base one) form ≡ statement_reply (sit base other) form
statement-same base one other form seen alike =
    let text = λ (name : List ℕ) (trades : List Trade) (positions : List Position). Reply.Statement form.account
    (heading form name ++ flat_map trade_line trades ++ line_text (codes "HOLDINGS" ∷ []) ++ flat_map (holding_line (book_at base one)) positions ++ line_text (codes "END" ∷ [])) in
    let name_one = account_name (book_at base one) form.account in
    let name_other = account_name (book_at base other) form.account in
    let names : name_one ≡ name_other = ap (λ found. option_map_or (λ (f : AccountForm). f.name) found []) seen.form in
    ap (λ name. text name (filter (is_in_period form) (replay (book_at base one)).trades) (positions_of (replay (book_at base one)).register form.account)) names
    ∙ (ap (λ trades. text name_other trades (positions_of (replay (book_at base one)).register form.account)) (alike.in_period form refl)
    ∙ ap (λ positions. text name_other (filter (is_in_period form) (replay (book_at base other)).trades) positions) alike.shown)

query-same : (base : Base) (one other : Parts) (account : ℕ) → SeenAlike one other account → ReplaysAlike (book_at base one) (book_at base other) account → (request : Request) → account_asked request ≡ Some account → query_reply (sit base one) request ≡ query_reply (sit base other) request
query-same base one other account seen alike (Request.Show number) asked =
    let is : account ≡ number = cc in
    ap (λ positions. Reply.Show number (map position_text positions)) (subst (λ a. positions_of (replay (book_at base one)).register a ≡ positions_of (replay (book_at base other)).register a) is alike.shown)
query-same base one other account seen alike (Request.Trace form) asked =
    let is : account ≡ form.account = cc in
    trace-same base one other form.account form.ref_no (subst (ReplaysAlike (book_at base one) (book_at base other)) is alike)
    (order_named one.orders form.account form.ref_no) (order_named other.orders form.account form.ref_no) refl
    ((subst (SeenAlike one other) is seen).named form.ref_no)
query-same base one other account seen alike (Request.Statement form) asked =
    let is : account ≡ form.account = cc in
    statement-same base one other form (subst (SeenAlike one other) is seen) (subst (ReplaysAlike (book_at base one) (book_at base other)) is alike)
query-same base one other account seen alike (Request.Order order) asked = refl
query-same base one other account seen alike (Request.Line line) asked = refl
query-same base one other account seen alike (Request.Cancel form) asked = refl
query-same base one other account seen alike request asked = absurd (none_some asked)

-- ---- the answer

new-same : (base : Base) (one other : Parts) (account : ℕ) → SeenAlike one other account → ReplaysAlike (book_at base one) (book_at base other) account → (request : Request) → account_asked request ≡ Some account → (broken : Option Refusal) → answer_by (sit base one) request (verdict_by_rule (sit base one) request broken) ≡ answer_by (sit base other) request (verdict_by_rule (sit base other) request broken)
new-same base one other account seen alike request asked (Some why) = refl
new-same base one other account seen alike (Request.Order order) asked None = refl
new-same base one other account seen alike (Request.Line line) asked None = refl
new-same base one other account seen alike (Request.Cancel form) asked None = refl
new-same base one other account seen alike (Request.Show number) asked None = ap says (query-same base one other account seen alike (Request.Show number) asked)
new-same base one other account seen alike (Request.Trace form) asked None = ap says (query-same base one other account seen alike (Request.Trace form) asked)
new-same base one other account seen alike (Request.Statement form) asked None = ap says (query-same base one other account seen alike (Request.Statement form) asked)
new-same base one other account seen alike request asked None = absurd (none_some asked)

place-same : (base : Base) (one other : Parts) (account : ℕ) → SeenAlike one other account → ReplaysAlike (book_at base one) (book_at base other) account → (request : Request) → account_asked request ≡ Some account → FoundOrNot (repeats request) one.journal → FoundOrNot (repeats request) other.journal → answer_by (sit base one) request (verdict_by_place (sit base one) request (position (repeats request) one.journal)) ≡ answer_by (sit base other) request (verdict_by_place (sit base other) request (position (repeats request) other.journal))
place-same base one other account seen alike request asked (inl new) (inl new_too) =
    ap (λ place. answer_by (sit base one) request (verdict_by_place (sit base one) request place)) new.0
    ∙ (ap (λ broken. answer_by (sit base one) request (verdict_by_rule (sit base one) request broken)) (broken-same base one other account seen request asked)
    ∙ (new-same base one other account seen alike request asked (broken_rule (sit base other) request)
    ∙ sym (ap (λ place. answer_by (sit base other) request (verdict_by_place (sit base other) request place)) new_too.0)))
place-same base one other account seen alike request asked (inl new) (inr known) =
    absurd (none_some (sym new.1 ∙ (seen.repeated request asked ∙ known.4)))
place-same base one other account seen alike request asked (inr known) (inl new) =
    absurd (some_none (sym known.4 ∙ (seen.repeated request asked ∙ new.1)))
place-same base one other account seen alike request asked (inr known) (inr known_too) =
    let same : known.1 ≡ known_too.1 = ap (λ (o : Option Event). unwrap_or o known.1) (sym known.4 ∙ (seen.repeated request asked ∙ known_too.4)) in
    ap (λ place. answer_by (sit base one) request (verdict_by_place (sit base one) request place)) known.2
    ∙ (repeat-said one.journal known.0 known.1 known.3
    ∙ (ap says (says-same known.1.kind request account asked known.5 (table_of (take known.0 one.journal)) (table_of (take known_too.0 other.journal)) (take known.0 one.journal) (take known_too.0 other.journal) known.1 known.1)
    ∙ (ap (λ event. says (first_reply (take known_too.0 other.journal) event)) same
    ∙ (sym (repeat-said other.journal known_too.0 known_too.1 known_too.3)
    ∙ sym (ap (λ place. answer_by (sit base other) request (verdict_by_place (sit base other) request place)) known_too.2)))))

pub answer-same : (base : Base) (one other : Parts) (account : ℕ) → SeenAlike one other account → ReplaysAlike (book_at base one) (book_at base other) account → (request : Request) → account_asked request ≡ Some account → answer (sit base one) request ≡ answer (sit base other) request
answer-same base one other account seen alike request asked =
    let firsts = first-is (sit base one) account request asked ∙ (ap right_only (may-same one other account seen base.caller request asked) ∙ sym (first-is (sit base other) account request asked)) in
    ap (λ first. answer_by (sit base one) request (verdict_by_right (sit base one) request first)) firsts
    ∙ by (first_some (first_rules (sit base other) request))
  where
    by : (first : Option Refusal) → answer_by (sit base one) request (verdict_by_right (sit base one) request first) ≡ answer_by (sit base other) request (verdict_by_right (sit base other) request first)
    by (Some why) = refl
    by None = place-same base one other account seen alike request asked (found-or-not (repeats request) one.journal) (found-or-not (repeats request) other.journal)

-- a caller without the right is told so, whatever the journal
pub refused-right : (situation : Situation) (account : ℕ) (request : Request) → account_asked request ≡ Some account → may situation.book.accounts situation.caller request ≡ false → answer situation request ≡ refuses Refusal.NoRight
refused-right situation account request asked off =
    ap (λ first. answer_by situation request (verdict_by_right situation request first)) (first-is situation account request asked ∙ ap right_only off)
