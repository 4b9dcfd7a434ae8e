-- The first rule that a line breaks behind the orders of earlier lines.
use Rattle.std.proofs.Common.{Bool, List, None, Option, Some, [], ap, arith, cond, count_by, false, find, fold, is_none, length, length-append, map, nat_le, nat_lt, not, option_map, option_to_list, refl, subst, sym, true, ℕ, ◌&&◌, ◌++◌, ◌+◌, ◌-◌, ◌<◌, ◌==◌, ◌∙◌, ◌∷◌, ◌≡◌, ◌≤◌, ◌||◌}
use Rattle.std.proofs.lemmas.List.Folds.{list_any-append}
use Rattle.std.proofs.lemmas.List.{length-map}
use Rattle.std.proofs.lemmas.List.Sums.{sum_by-append}
use Rattle.std.specs.List.{list_all, list_any}
use Rattle.std.specs.Option.{option_map_or, option_or}
use Rattle.agent_events.specs.Events.{Event, order_request}
use Rattle.agent_events.specs.declared.event.Placed.{Placed}
use Rattle.agent_events.specs.declared.event.Source.{Source}
use Rattle.agent_events.specs.declared.order.Body.{Body}
use Rattle.agent_events.specs.declared.order.Order.{Order}
use Rattle.agent_events.specs.declared.order.OrderRow.{OrderRow}
use Rattle.agent_events.specs.declared.reply.Refusal.{Refusal}
use Rattle.agent_events.specs.declared.request.ClassForm.{ClassForm}
use Rattle.agent_events.specs.declared.request.DealerForm.{DealerForm}
use Rattle.agent_events.specs.declared.request.LineForm.{LineForm}
use Rattle.agent_events.specs.declared.request.Request.{Request}
use Rattle.agent_events.specs.declared.verdict.Caller.{Caller}
use Rattle.dealer_lines.proofs.FirstOfTwo.{InPlaces, IsAt, Said, below, both, first_of_both}
use Rattle.dealer_lines.proofs.JournalBehind.{book-behind, dealers-behind, with_orders}
use Rattle.dealer_lines.specs.Lines.{line_event, line_events, rows_from}
use Rattle.dealer_lines.specs.RulesBehind.{are_orders_full, below_minimum_of, buys_for, earlier_rule, has_bought, has_name, is_for, is_journal_full, row_behind, rule_place, rules_of_earlier, sale_of, without_minimum}
use Rattle.forward_price.specs.Turns.{due_of}
use Rattle.register_laws.specs.Lawful.{book_behind, own_at}
use Rattle.register_machine.specs.journal.Choices.{first_some, when}
use Rattle.register_machine.specs.journal.Journals.{Journal}
use Rattle.register_machine.specs.journal.Kinds.{class_numbered, dealer_numbered}
use Rattle.register_machine.specs.journal.Lawful.{IsLawful}
use Rattle.register_machine.specs.pricing.CorrectedBook.{Book, calendar_of}
use Rattle.register_machine.specs.pricing.CorrectedOrders.{row_as_sent}
use Rattle.register_machine.specs.pricing.OrderClasses.{class_of, classes_in, target_of}
use Rattle.register_machine.specs.rules.Identities.{brings_reference, ref_used, reference_of}
use Rattle.register_machine.specs.rules.InOrder.{broken_rule}
use Rattle.register_machine.specs.rules.Limits.{is_of_account, journal_full, orders_full}
use Rattle.register_machine.specs.rules.NamedThings.{has_account, has_class, named_in_order, none_such}
use Rattle.register_machine.specs.rules.Orders.{below_minimum, below_minimum_in, buys_class, calendar_ended, is_late, is_of_calendar, is_offered, is_published_at, late_by, late_for_dealer, not_offered, ordered_before, receipt_ahead, refused_order, window_of}
use Rattle.register_machine.specs.rules.Situations.{Situation}
use Rattle.request_rules.specs.VerbRules.{rules_of}

-- ---- a sale in place of a purchase

class-of-sale : (body : Body) → class_of (sale_of body) ≡ class_of body
class-of-sale (Body.Buy class gross) = refl
class-of-sale (Body.Sell class mils) = refl
class-of-sale (Body.SellCash class amount) = refl
class-of-sale (Body.SellAll class) = refl
class-of-sale (Body.Exchange class to mils) = refl
class-of-sale (Body.ExchangeAll class to) = refl
class-of-sale (Body.Letter class amount) = refl
class-of-sale (Body.Elect class in_cash) = refl

target-of-sale : (body : Body) → target_of (sale_of body) ≡ target_of body
target-of-sale (Body.Buy class gross) = refl
target-of-sale (Body.Sell class mils) = refl
target-of-sale (Body.SellCash class amount) = refl
target-of-sale (Body.SellAll class) = refl
target-of-sale (Body.Exchange class to mils) = refl
target-of-sale (Body.ExchangeAll class to) = refl
target-of-sale (Body.Letter class amount) = refl
target-of-sale (Body.Elect class in_cash) = refl

classes-of-sale : (body : Body) → classes_in (sale_of body) ≡ classes_in body
classes-of-sale (Body.Buy class gross) = refl
classes-of-sale (Body.Sell class mils) = refl
classes-of-sale (Body.SellCash class amount) = refl
classes-of-sale (Body.SellAll class) = refl
classes-of-sale (Body.Exchange class to mils) = refl
classes-of-sale (Body.ExchangeAll class to) = refl
classes-of-sale (Body.Letter class amount) = refl
classes-of-sale (Body.Elect class in_cash) = refl

offered-of-sale : (book : Book) (body : Body) → is_offered book (sale_of body) ≡ is_offered book body
offered-of-sale book (Body.Buy class gross) = refl
offered-of-sale book (Body.Sell class mils) = refl
offered-of-sale book (Body.SellCash class amount) = refl
offered-of-sale book (Body.SellAll class) = refl
offered-of-sale book (Body.Exchange class to mils) = refl
offered-of-sale book (Body.ExchangeAll class to) = refl
offered-of-sale book (Body.Letter class amount) = refl
offered-of-sale book (Body.Elect class in_cash) = refl

no-minimum : (book : Book) (row : OrderRow) (body : Body) → below_minimum_in book row (sale_of body) ≡ None
no-minimum book row (Body.Buy class gross) = refl
no-minimum book row (Body.Sell class mils) = refl
no-minimum book row (Body.SellCash class amount) = refl
no-minimum book row (Body.SellAll class) = refl
no-minimum book row (Body.Exchange class to mils) = refl
no-minimum book row (Body.ExchangeAll class to) = refl
no-minimum book row (Body.Letter class amount) = refl
no-minimum book row (Body.Elect class in_cash) = refl

-- ---- each refusal is one of its rule's place

at-when : (holds : Bool) (refusal : Refusal) (place : ℕ) → rule_place refusal ≡ place → IsAt place (when holds refusal)
at-when true refusal place is = is
at-when false refusal place is = tt

at-absent : (found : Option (ℕ × Bool)) → IsAt 1 (option_map (λ (field : ℕ × Bool). Refusal.NoSuch field.0) found)
at-absent None = tt
at-absent (Some field) = refl

at-late : (situation : Situation) (line : LineForm) (due : Option ℕ) → IsAt 6 (late_by situation line due)
at-late situation line None = tt
at-late situation line (Some due) = at-when (is_late situation line due) (Refusal.LateForDealer due) 6 refl

at-minimum : (journal : Journal) (earlier : List Placed) (line : LineForm) (body : Body) → IsAt 4 (below_minimum_of journal earlier line body)
at-minimum journal earlier line (Body.Buy class gross) =
    at-when (nat_lt gross (option_map_or (λ (terms : ClassForm). cond (has_bought journal earlier line class) terms.later_min terms.first_min) (class_numbered (book_behind journal).classes class) 0))
    (Refusal.BelowMinimum (option_map_or (λ (terms : ClassForm). cond (has_bought journal earlier line class) terms.later_min terms.first_min) (class_numbered (book_behind journal).classes class) 0)) 4 refl
at-minimum journal earlier line (Body.Sell class mils) = tt
at-minimum journal earlier line (Body.SellCash class amount) = tt
at-minimum journal earlier line (Body.SellAll class) = tt
at-minimum journal earlier line (Body.Exchange class to mils) = tt
at-minimum journal earlier line (Body.ExchangeAll class to) = tt
at-minimum journal earlier line (Body.Letter class amount) = tt
at-minimum journal earlier line (Body.Elect class in_cash) = tt

-- ---- what the events of the earlier orders bring

or-none : {X : Type 0} (found : Option X) → found ≡ option_or found None
or-none None = refl
or-none (Some x) = refl

names-by : (order : Order) (placed : Placed) (from : Source) → option_map_or (λ (other : ℕ × ℕ). other.0 == order.account && other.1 == order.ref_no) (reference_of (order_request from placed.receipt placed.order)) false ≡ has_name order placed
names-by order placed Source.Direct = refl
names-by order placed Source.Dealer = refl

names-any : (now : ℕ) (order : Order) (earlier : List Placed) → list_any (brings_reference (order.account, order.ref_no)) (line_events now earlier) ≡ list_any (has_name order) earlier
names-any now order [] = refl
names-any now order (placed ∷ later) =
    ap (λ b. b || list_any (brings_reference (order.account, order.ref_no)) (line_events now later)) (names-by order placed placed.source)
    ∙ ap (λ b. has_name order placed || b) (names-any now order later)

counts-by : (account : ℕ) (placed : Placed) (from : Source) → option_map_or (λ (named : ℕ × ℕ). named.0 == account) (reference_of (order_request from placed.receipt placed.order)) false ≡ is_for account placed
counts-by account placed Source.Direct = refl
counts-by account placed Source.Dealer = refl

counts-from : (now account so_far : ℕ) (earlier : List Placed) → fold (λ n event. n + cond (is_of_account account event) 1 0) so_far (line_events now earlier) ≡ fold (λ n placed. n + cond (is_for account placed) 1 0) so_far earlier
counts-from now account so_far [] = refl
counts-from now account so_far (placed ∷ later) =
    ap (λ b. fold (λ n event. n + cond (is_of_account account event) 1 0) (so_far + cond b 1 0) (line_events now later)) (counts-by account placed placed.source)
    ∙ counts-from now account (so_far + cond (is_for account placed) 1 0) later

counts-all : (now account : ℕ) (earlier : List Placed) → count_by (is_of_account account) (line_events now earlier) ≡ count_by (is_for account) earlier
counts-all now account earlier = counts-from now account 0 earlier

events-many : (now : ℕ) (earlier : List Placed) → length (line_events now earlier) ≡ length earlier
events-many now earlier = length-map earlier (line_event now)

-- the rows of the earlier orders are behind none but those of the line itself
ordered-by : (receipt account ref_no class place at : ℕ) (body : Body) (placed : Placed) → at < place → ordered_before (row_as_sent place receipt (record { account = account; ref_no = ref_no; body = body })) class (row_as_sent at placed.receipt placed.order) ≡ buys_for account class placed
ordered-by receipt account ref_no class place at body placed before =
    ap (λ b. placed.order.account == account && (b && (true && buys_class class placed.order.body))) (below at place before)

ordered-any : (line : LineForm) (class place at : ℕ) (earlier : List Placed) → at + length earlier ≤ place → list_any (ordered_before (row_as_sent place line.receipt line.order) class) (rows_from at earlier) ≡ list_any (buys_for line.order.account class) earlier
ordered-any line class place at [] within = refl
ordered-any line class place at (placed ∷ later) within =
    ap (λ b. b || list_any (ordered_before (row_as_sent place line.receipt line.order) class) (rows_from (at + 1) later))
    (ordered-by line.receipt line.order.account line.order.ref_no class place at line.order.body placed (omega (arith, within)))
    ∙ ap (λ b. buys_for line.order.account class placed || b) (ordered-any line class place (at + 1) later (omega (arith, within)))

-- ---- each rule behind them, as two lists say it

when-either : {X : Type 0} (a b : Bool) (x : X) → when (a || b) x ≡ option_or (when a x) (when b x)
when-either true b x = refl
when-either false b x = refl

-- a count reaches its limit with more in it, where it did before
when-more : {X : Type 0} (limit count more : ℕ) (x : X) → when (nat_le limit (count + more)) x ≡ option_or (when (nat_le limit count) x) (when (nat_le (limit - count) more) x)
when-more limit count more x =
    ap (λ b. when b x) (reached limit count more)
    ∙ when-either (nat_le limit count) (nat_le (limit - count) more) x
  where
    reached : (limit count more : ℕ) → nat_le limit (count + more) ≡ (nat_le limit count || nat_le (limit - count) more)
    reached limit count more = grind arith

module _ (journal : Journal) (earlier : List Placed) (now : ℕ) (caller : Caller) (line : LineForm) where
  abbrev at_journal : Situation
  at_journal = own_at journal now caller

  abbrev rows : List OrderRow
  rows = rows_from (length journal) earlier

  abbrev behind : Situation
  behind = record {
    journal = journal ++ line_events now earlier;
    book = with_orders (book_behind journal) rows;
    now = now;
    caller = caller;
  }

  abbrev asked : Request
  asked = Request.Line line

  abbrev sale : Request
  sale = Request.Line (without_minimum line)

  abbrev body : Body
  body = line.order.body

  abbrev absent : ℕ → Option ℕ → Option Refusal
  absent class to =
      option_map (λ (field : ℕ × Bool). Refusal.NoSuch field.0)
      (find (λ (field : ℕ × Bool). not field.1)
      ((3, has_account at_journal line.order.account) ∷ (5, has_class at_journal class)
      ∷ map (λ (other : ℕ). (6, has_class at_journal other)) (option_to_list to)))

  named : none_such behind asked ≡ none_such at_journal sale
  named =
      sym (ap (λ class. absent class (target_of (sale_of body))) (class-of-sale body) ∙ ap (λ to. absent (class_of body) to) (target-of-sale body))

  abbrev in_journal : Bool
  in_journal = list_any (brings_reference (line.order.account, line.order.ref_no)) journal

  abbrev in_earlier : Bool
  in_earlier = list_any (has_name line.order) earlier

  used : ref_used behind asked ≡ option_or (ref_used at_journal sale) (when in_earlier Refusal.RefUsed)
  used =
      ap (λ b. when (b || false) Refusal.RefUsed)
      (list_any-append (brings_reference (line.order.account, line.order.ref_no)) journal (line_events now earlier)
      ∙ ap (λ b. in_journal || b) (names-any now line.order earlier))
      ∙ by_bools in_journal in_earlier
    where
      by_bools : (a b : Bool) → when ((a || b) || false) Refusal.RefUsed ≡ option_or (when (a || false) Refusal.RefUsed) (when b Refusal.RefUsed)
      by_bools true b = refl
      by_bools false true = refl
      by_bools false false = refl

  abbrev ended-by : ℕ → List ℕ → Option Refusal
  ended-by class classes =
      when
      (list_all (is_of_calendar (book_behind journal) (calendar_of (book_behind journal) class)) classes
      && is_none (due_of (book_behind journal).table classes line.receipt))
      Refusal.CalendarEnded

  ended : refused_order calendar_ended behind asked ≡ refused_order calendar_ended at_journal sale
  ended =
      sym (ap (λ class. ended-by class (classes_in (sale_of body))) (class-of-sale body) ∙ ap (λ classes. ended-by (class_of body) classes) (classes-of-sale body))

  offered : refused_order not_offered behind asked ≡ refused_order not_offered at_journal sale
  offered = sym (ap (λ b. when (not b) Refusal.NotOffered) (offered-of-sale (book_behind journal) body))

  abbrev late-with : ℕ → ℕ → Option ℕ → Option Refusal
  late-with class window None = None
  late-with class window (Some due) =
      when (is_published_at (book_behind journal) class due || nat_lt (due + window) now) (Refusal.LateForDealer due)

  abbrev due-by : List ℕ → Option ℕ
  due-by classes = due_of (book_behind journal).table classes line.receipt

  window-same : (by : Caller) → window_of behind by ≡ window_of at_journal by
  window-same (Caller.Dealer dealer) =
      ap (λ (dealers : List DealerForm). option_map_or (λ (form : DealerForm). form.window) (dealer_numbered dealers dealer) 0) (dealers-behind journal now earlier)
  window-same Caller.Operator = refl
  window-same (Caller.Household household) = refl
  window-same Caller.Stranger = refl

  late-behind : (due : Option ℕ) → late_by behind line due ≡ late-with (class_of body) (window_of behind caller) due
  late-behind None = refl
  late-behind (Some due) = refl

  late-at : (due : Option ℕ) → late_by at_journal (without_minimum line) due ≡ late-with (class_of (sale_of body)) (window_of at_journal caller) due
  late-at None = refl
  late-at (Some due) = refl

  late : late_for_dealer behind asked ≡ late_for_dealer at_journal sale
  late =
      late-behind (due-by (classes_in body))
      ∙ (ap (λ window. late-with (class_of body) window (due-by (classes_in body))) (window-same caller)
      ∙ (sym (ap (λ class. late-with class (window_of at_journal caller) (due-by (classes_in (sale_of body)))) (class-of-sale body)
      ∙ ap (λ classes. late-with (class_of body) (window_of at_journal caller) (due-by classes)) (classes-of-sale body))
      ∙ sym (late-at (due-by (classes_in (sale_of body))))))

  abbrev minimum-by : ℕ → ℕ → Bool → Option Refusal
  minimum-by class gross has =
      when (nat_lt gross (option_map_or (λ (terms : ClassForm). cond has terms.later_min terms.first_min) (class_numbered (book_behind journal).classes class) 0))
      (Refusal.BelowMinimum (option_map_or (λ (terms : ClassForm). cond has terms.later_min terms.first_min) (class_numbered (book_behind journal).classes class) 0))

  has-bought : (class : ℕ) → list_any (ordered_before (row_as_sent (length (journal ++ line_events now earlier)) line.receipt line.order) class) ((book_behind journal).orders ++ rows) ≡ has_bought journal earlier line class
  has-bought class =
      ap (λ place. list_any (ordered_before (row_as_sent place line.receipt line.order) class) ((book_behind journal).orders ++ rows))
      (length-append journal (line_events now earlier) ∙ ap (λ n. length journal + n) (events-many now earlier))
      ∙ (list_any-append (ordered_before (row_behind journal earlier line) class) (book_behind journal).orders rows
      ∙ ap (λ b. list_any (ordered_before (row_behind journal earlier line) class) (book_behind journal).orders || b)
      (ordered-any line class (length journal + length earlier) (length journal) earlier (omega arith)))

  minimum : (some : Body) → below_minimum_in behind.book (row_as_sent (length (journal ++ line_events now earlier)) line.receipt line.order) some ≡ below_minimum_of journal earlier line some
  minimum (Body.Buy class gross) = ap (λ b. minimum-by class gross b) (has-bought class)
  minimum (Body.Sell class mils) = refl
  minimum (Body.SellCash class amount) = refl
  minimum (Body.SellAll class) = refl
  minimum (Body.Exchange class to mils) = refl
  minimum (Body.ExchangeAll class to) = refl
  minimum (Body.Letter class amount) = refl
  minimum (Body.Elect class in_cash) = refl

  below-min : refused_order below_minimum behind asked ≡ option_or (refused_order below_minimum at_journal sale) (below_minimum_of journal earlier line body)
  below-min =
      minimum body
      ∙ sym (ap (λ (none : Option Refusal). option_or none (below_minimum_of journal earlier line body))
      (no-minimum (book_behind journal) (row_as_sent (length journal) line.receipt (without_minimum line).order) body))

  full : orders_full behind asked ≡ option_or (orders_full at_journal sale) (when (are_orders_full journal earlier line.order.account) (Refusal.OrdersFull 4096))
  full =
      ap (λ n. when (nat_le 4096 n) (Refusal.OrdersFull 4096))
      (sum_by-append (λ (event : Event). cond (is_of_account line.order.account event) 1 0) journal (line_events now earlier)
      ∙ ap (λ n. count_by (is_of_account line.order.account) journal + n) (counts-all now line.order.account earlier))
      ∙ when-more 4096 (count_by (is_of_account line.order.account) journal) (count_by (is_for line.order.account) earlier) (Refusal.OrdersFull 4096)

  closed : journal_full behind asked ≡ option_or (journal_full at_journal sale) (when (is_journal_full journal earlier) Refusal.JournalFull)
  closed =
      ap (λ n. when (nat_le 100000000 n) Refusal.JournalFull)
      (length-append journal (line_events now earlier) ∙ ap (λ n. length journal + n) (events-many now earlier))
      ∙ when-more 100000000 (length journal) (length earlier) Refusal.JournalFull

  -- ---- all of them

  abbrev all_said : List Said
  all_said =
      (none_such at_journal sale, None)
      ∷ (ref_used at_journal sale, when in_earlier Refusal.RefUsed)
      ∷ (refused_order calendar_ended at_journal sale, None)
      ∷ (refused_order below_minimum at_journal sale, below_minimum_of journal earlier line body)
      ∷ (refused_order not_offered at_journal sale, None)
      ∷ (late_for_dealer at_journal sale, None)
      ∷ (receipt_ahead at_journal sale, None)
      ∷ (orders_full at_journal sale, when (are_orders_full journal earlier line.order.account) (Refusal.OrdersFull 4096))
      ∷ (journal_full at_journal sale, when (is_journal_full journal earlier) Refusal.JournalFull) ∷ []

  same-rules : rules_of behind asked ≡ both all_said
  same-rules =
      cons-same (named ∙ or-none (none_such at_journal sale))
      (cons-same used
      (cons-same (ended ∙ or-none (refused_order calendar_ended at_journal sale))
      (cons-same below-min
      (cons-same (offered ∙ or-none (refused_order not_offered at_journal sale))
      (cons-same (late ∙ or-none (late_for_dealer at_journal sale))
      (cons-same (or-none (receipt_ahead at_journal sale))
      (cons-same full (cons-same closed refl))))))))
    where
      cons-same : {x y : Option Refusal} {xs ys : List (Option Refusal)} → x ≡ y → xs ≡ ys → x ∷ xs ≡ y ∷ ys
      cons-same {x = x} {y = y} {xs = xs} {ys = ys} e h = ap (λ (o : Option Refusal). o ∷ xs) e ∙ ap (λ (os : List (Option Refusal)). y ∷ os) h

  at-below : IsAt 4 (refused_order below_minimum at_journal sale)
  at-below =
      subst (IsAt 4) (sym (no-minimum (book_behind journal) (row_as_sent (length journal) line.receipt (without_minimum line).order) body)) tt

  in-places : InPlaces 1 all_said
  in-places = (
    at-absent (find (λ (field : ℕ × Bool). not field.1) (named_in_order at_journal 3 (without_minimum line).order)),
    tt,
    (
      at-when (in_journal || false) Refusal.RefUsed 2 refl,
      at-when in_earlier Refusal.RefUsed 2 refl,
      (
        at-ended,
        tt,
        (
          at-below,
          at-minimum journal earlier line body,
          (
            at-when (not (is_offered (book_behind journal) (sale_of body))) Refusal.NotOffered 5 refl,
            tt,
            (
              at-late at_journal (without_minimum line) (due-by (classes_in (sale_of body))),
              tt,
              (
                at-when (nat_lt now line.receipt) (Refusal.ReceiptAhead now) 7 refl,
                tt,
                (
                  at-when (nat_le 4096 (count_by (is_of_account line.order.account) journal)) (Refusal.OrdersFull 4096) 8 refl,
                  at-when (are_orders_full journal earlier line.order.account) (Refusal.OrdersFull 4096) 8 refl,
                  (
                    at-when (nat_le 100000000 (length journal)) Refusal.JournalFull 9 refl,
                    at-when (is_journal_full journal earlier) Refusal.JournalFull 9 refl,
                    tt,
                  ),
                ),
              ),
            ),
          ),
        ),
      ),
    ),
  )
    where
      at-ended : IsAt 3 (refused_order calendar_ended at_journal sale)
      at-ended =
          at-when
          (list_all (is_of_calendar (book_behind journal) (calendar_of (book_behind journal) (class_of (sale_of body)))) (classes_in (sale_of body))
          && is_none (due-by (classes_in (sale_of body)))) Refusal.CalendarEnded 3 refl

  first-broken : first_some (rules_of behind asked) ≡ earlier_rule (first_some (rules_of at_journal sale)) (first_some (rules_of_earlier journal earlier line))
  first-broken = ap first_some same-rules ∙ first_of_both 1 all_said in-places

  pub broken_behind : IsLawful (journal ++ line_events now earlier) → broken_rule (own_at (journal ++ line_events now earlier) now caller) asked ≡ earlier_rule (broken_rule at_journal sale) (first_some (rules_of_earlier journal earlier line))
  broken_behind lawful =
      ap (λ (book : Book). broken_rule (record { journal = journal ++ line_events now earlier; book = book; now = now; caller = caller }) asked)
      (book-behind journal now earlier lawful)
      ∙ first-broken
