-- The figures of the books sum to zero in every lawful journal: what is booked is between parties that the books list once.
use Rattle.std.proofs.Common.{All, Bool, List, None, Option, Some, [], ap, append_assoc, cond, false, filter, find, flat_map, fold, get_or, is_some, map, nat_lt, negsuc, not, option_map, option_to_list, pos, position, refl, slice_get, subst, suc, sym, take, true, ℕ, ℤ, ◌&&◌, ◌++◌, ◌+◌, ◌-ℤ◌, ◌==◌, ◌∙◌, ◌∷◌, ◌≡◌}
use Rattle.std.proofs.lemmas.Bool.{eq-eqb, not-false, or_left, or_parts, or_right}
use Rattle.std.proofs.lemmas.List.Elements.{All-append, All-cons, All-filter, All-map, All-nil, All-push, filter_map-append}
use Rattle.std.proofs.lemmas.List.Folds.{list_any-append}
use Rattle.std.specs.List.{cons_option, filter_map, list_any}
use Rattle.std.specs.Option.{option_map_or}
use Rattle.agent_events.specs.Events.{Event, order_request, request_of}
use Rattle.agent_events.specs.declared.event.EventKind.{EventKind}
use Rattle.agent_events.specs.declared.event.Source.{Source}
use Rattle.agent_events.specs.declared.order.Bearer.{Bearer}
use Rattle.agent_events.specs.declared.order.Order.{Order}
use Rattle.agent_events.specs.declared.order.OrderRow.{OrderRow}
use Rattle.agent_events.specs.declared.order.Party.{Party}
use Rattle.agent_events.specs.declared.reply.BooksReply.{BooksReply}
use Rattle.agent_events.specs.declared.reply.Refusal.{Refusal}
use Rattle.agent_events.specs.declared.reply.Reply.{Reply}
use Rattle.agent_events.specs.declared.reply_lists.ClassGain.{ClassGain}
use Rattle.agent_events.specs.declared.request.ClassForm.{ClassForm}
use Rattle.agent_events.specs.declared.request.Request.{Request}
use Rattle.forward_price.specs.PriceTables.{Table}
use Rattle.forward_price.specs.declared.price_sheet.Sheet.{Sheet}
use Rattle.fund_calendar.proofs.LookUpLemmas.{list_any-find}
use Rattle.letter_of_intent.specs.Purchases.{after}
use Rattle.money_units.specs.Texts.{number}
use Rattle.share_lots.proofs.LotLemmas.{All-head, All-tail}
use Rattle.share_lots.specs.Lots.{lots_with}
use Rattle.register_laws.proofs.BookOrders.{SaidAs, SaysAs, order_said, orders-as}
use Rattle.register_laws.proofs.CashBalances.{balances_to_zero}
use Rattle.register_laws.proofs.Choosing.{some_none}
use Rattle.register_laws.proofs.TradeParties.{KnownMovement, KnownOrder, KnownTarget, one-moved, replay-moves}
use Rattle.register_laws.proofs.LawfulJournals.{brought, lawful-keeps}
use Rattle.register_laws.proofs.PartyFacts.{Known, booked_parties, figures-total, stands-once}
use Rattle.register_laws.proofs.RulesByName.{not_broken}
use Rattle.register_laws.specs.CashBooks.{IsBetween, books_total, total_balance}
use Rattle.register_laws.specs.Identities.{NoAccountTwice, has_number, is_class, is_dealer}
use Rattle.register_laws.specs.Lawful.{IsBrought, own_at}
use Rattle.register_machine.specs.corrections.Cash.{Movement, balance, movements_of, outstanding}
use Rattle.register_machine.specs.corrections.Gains.{class_numbers_of, dealer_numbers_of, gain_by, gain_of, gain_unless_same, gains_at, in_its_place, is_nothing, latest_nav}
use Rattle.register_machine.specs.corrections.Payments.{bearer_in, booked_movements, loss_payment, loss_payments, payer, payments_for, payments_from, payments_of}
use Rattle.register_machine.specs.journal.Choices.{first_some}
use Rattle.register_machine.specs.journal.Journals.{Journal, with_event}
use Rattle.register_machine.specs.journal.Kinds.{account_in, accounts_of, class_in, classes_of, dealer_in, dealers_of, each_in}
use Rattle.register_machine.specs.journal.Lawful.{IsLawful}
use Rattle.register_machine.specs.pricing.CorrectedBook.{Book, book_of}
use Rattle.register_machine.specs.pricing.CorrectedOrders.{orders_of, stands}
use Rattle.register_machine.specs.pricing.OrderClasses.{class_of, target_of}
use Rattle.register_machine.specs.pricing.PublishedTable.{empty_table, table_after, table_of}
use Rattle.register_machine.specs.queries.Books.{books_by, books_reply}
use Rattle.register_machine.specs.replay.Replay.{replay}
use Rattle.register_machine.specs.replay.Trades.{Day}
use Rattle.agent_events.specs.declared.verdict.Caller.{Caller}
use Rattle.register_machine.specs.rules.InOrder.{Rule, broken_rule, first_rules}
use Rattle.register_machine.specs.rules.NamedThings.{has_account, has_bearer, has_class, named_in_order, none_such, things_named}
use Rattle.register_machine.specs.rules.Situations.{Situation}
use Rattle.register_machine.specs.run.Answers.{answer, answer_by, refuses, says}
use Rattle.register_machine.specs.run.Replies.{first_reply, reply_by}
use Rattle.register_machine.specs.run.Verdicts.{repeats, verdict_by_place, verdict_by_right, verdict_by_rule}

-- ---- what an event says of parties

abbrev KnownPayer : (Party → Type 0) → Option Party → Type 0
KnownPayer K None = Unit {0}
KnownPayer K (Some party) = K party

abbrev KnownBearer : (Party → Type 0) → Option Bearer → Type 0
KnownBearer K None = Unit {0}
KnownBearer K (Some bearer) = KnownPayer K (payer bearer)

record KnownEvent (K : Party → Type 0) (event : Event) : Type 0 where
  pub order : SaidAs (KnownOrder K) (order_said event.kind)
  pub bearer : KnownBearer K (bearer_in event.kind)

-- ---- what is known stays known

target-more : (K L : Party → Type 0) → ((party : Party) → K party → L party) → (found : Option ℕ) → KnownTarget K found → KnownTarget L found
target-more K L more None known = tt
target-more K L more (Some to) known = more (Party.Class to) known

said-more : (K L : Party → Type 0) → ((party : Party) → K party → L party) → (found : Option Order) → SaidAs (KnownOrder K) found → SaidAs (KnownOrder L) found
said-more K L more None known = tt
said-more K L more (Some order) known = record {
  account = more (Party.Holder order.account) known.account;
  class = more (Party.Class (class_of order.body)) known.class;
  target = target-more K L more (target_of order.body) known.target;
}

payer-more : (K L : Party → Type 0) → ((party : Party) → K party → L party) → (found : Option Party) → KnownPayer K found → KnownPayer L found
payer-more K L more None known = tt
payer-more K L more (Some party) known = more party known

bearer-more : (K L : Party → Type 0) → ((party : Party) → K party → L party) → (found : Option Bearer) → KnownBearer K found → KnownBearer L found
bearer-more K L more None known = tt
bearer-more K L more (Some bearer) known = payer-more K L more (payer bearer) known

event-more : (K L : Party → Type 0) → ((party : Party) → K party → L party) → (event : Event) → KnownEvent K event → KnownEvent L event
event-more K L more event known = record {
  order = said-more K L more (order_said event.kind) known.order;
  bearer = bearer-more K L more (bearer_in event.kind) known.bearer;
}

each-more : {X : Type 0} (chosen : EventKind → Option X) (test : X → Bool) (journal later : Journal) → list_any test (each_in chosen journal) ≡ true → list_any test (each_in chosen (journal ++ later)) ≡ true
each-more chosen test journal later known =
    ap (list_any test) (filter_map-append (λ (event : Event). chosen event.kind) journal later)
    ∙ (list_any-append test (each_in chosen journal) (each_in chosen later)
    ∙ or_left (list_any test (each_in chosen journal)) (list_any test (each_in chosen later)) known)

known-more : (journal later : Journal) (party : Party) → Known journal party → Known (journal ++ later) party
known-more journal later (Party.Holder account) known = each-more account_in (has_number account) journal later known
known-more journal later (Party.Class class) known = each-more class_in (is_class class) journal later known
known-more journal later (Party.Dealer dealer) known = each-more dealer_in (is_dealer dealer) journal later known
known-more journal later Party.Underwriter known = tt
known-more journal later Party.Agent known = tt

-- ---- what an event names is there

abbrev AllThere : List (ℕ × Bool) → Type 0
AllThere [] = Unit {0}
AllThere (field ∷ fields) = (field.1 ≡ true) × AllThere fields

fields-there : (fields : List (ℕ × Bool)) → list_any (λ (field : ℕ × Bool). not field.1) fields ≡ false → AllThere fields
fields-there [] e = tt
fields-there (field ∷ fields) e =
    let parts = or_parts (not field.1) (list_any (λ (f : ℕ × Bool). not f.1) fields) e in
    (not-false field.1 parts.0, fields-there fields parts.1)

not_some : {X : Type 0} (found : Option X) (f : X → Refusal) → option_map f found ≡ None → is_some found ≡ false
not_some None f e = refl
not_some (Some x) f e = absurd (some_none e)

all-there : (situation : Situation) (request : Request) → none_such situation request ≡ None → AllThere (things_named situation request)
all-there situation request clear =
    fields-there (things_named situation request)
    (list_any-find (λ (field : ℕ × Bool). not field.1) (things_named situation request)
    ∙ not_some (find (λ (field : ℕ × Bool). not field.1) (things_named situation request)) (λ (field : ℕ × Bool). Refusal.NoSuch field.0) clear)

known-account : (journal : Journal) (now : ℕ) (caller : Caller) (number : ℕ) → has_account (own_at journal now caller) number ≡ true → Known journal (Party.Holder number)
known-account journal now caller number e = list_any-find (has_number number) (accounts_of journal) ∙ e

known-class : (journal : Journal) (now : ℕ) (caller : Caller) (number : ℕ) → has_class (own_at journal now caller) number ≡ true → Known journal (Party.Class number)
known-class journal now caller number e = list_any-find (is_class number) (classes_of journal) ∙ e

known-target : (journal : Journal) (now : ℕ) (caller : Caller) (place : ℕ) (found : Option ℕ) → AllThere (map (λ to. (place, has_class (own_at journal now caller) to)) (option_to_list found)) → KnownTarget (Known journal) found
known-target journal now caller place None there = tt
known-target journal now caller place (Some to) there = known-class journal now caller to there.0

known-order : (journal : Journal) (now : ℕ) (caller : Caller) (first : ℕ) (order : Order) → AllThere (named_in_order (own_at journal now caller) first order) → KnownOrder (Known journal) order
known-order journal now caller first order there = record {
  account = known-account journal now caller order.account there.0;
  class = known-class journal now caller (class_of order.body) there.1.0;
  target = known-target journal now caller (first + 3) (target_of order.body) there.1.1;
}

known-bearer : (journal : Journal) (now : ℕ) (caller : Caller) (bearer : Bearer) → has_bearer (own_at journal now caller) bearer ≡ true → KnownPayer (Known journal) (payer bearer)
known-bearer journal now caller Bearer.Fund e = tt
known-bearer journal now caller Bearer.Agent e = tt
known-bearer journal now caller (Bearer.Dealer dealer) e = list_any-find (is_dealer dealer) (dealers_of journal) ∙ e

placed-known : (journal : Journal) (now : ℕ) (caller : Caller) (from : Source) (receipt : ℕ) (order : Order) → AllThere (things_named (own_at journal now caller) (order_request from receipt order)) → KnownOrder (Known journal) order
placed-known journal now caller Source.Direct receipt order there = known-order journal now caller 1 order there
placed-known journal now caller Source.Dealer receipt order there = known-order journal now caller 3 order there

new-known : (journal : Journal) (now : ℕ) (caller : Caller) (moment : ℕ) (kind : EventKind) → AllThere (things_named (own_at journal now caller) (request_of kind)) → KnownEvent (Known journal) (record { moment = moment; kind = kind })
new-known journal now caller moment (EventKind.Order lots_with) there = record {
  order = placed-known journal now caller lots_with.source lots_with.receipt lots_with.order there;
  bearer = tt;
}
new-known journal now caller moment (EventKind.Enter form) there = record {
  order = known-order journal now caller 5 form.order there.1;
  bearer = known-bearer journal now caller form.bearer there.0;
}
new-known journal now caller moment (EventKind.Replace form) there = record {
  order = record {
    account = known-account journal now caller form.order.account there.1.0;
    class = known-class journal now caller (class_of form.order.body) there.1.1.1.0;
    target = known-target journal now caller 8 (target_of form.order.body) there.1.1.1.1;
  };
  bearer = known-bearer journal now caller form.bearer there.0;
}
new-known journal now caller moment (EventKind.Void form) there = record { order = tt; bearer = known-bearer journal now caller form.bearer there.0 }
new-known journal now caller moment (EventKind.FixPrice form) there = record { order = tt; bearer = known-bearer journal now caller form.bearer there.0 }
new-known journal now caller moment (EventKind.FixRate form) there = record { order = tt; bearer = known-bearer journal now caller form.bearer there.0 }
new-known journal now caller moment (EventKind.Calendar form) there = record { order = tt; bearer = tt }
new-known journal now caller moment (EventKind.Close form) there = record { order = tt; bearer = tt }
new-known journal now caller moment (EventKind.Class form) there = record { order = tt; bearer = tt }
new-known journal now caller moment (EventKind.Dealer form) there = record { order = tt; bearer = tt }
new-known journal now caller moment (EventKind.Household form) there = record { order = tt; bearer = tt }
new-known journal now caller moment (EventKind.Account form) there = record { order = tt; bearer = tt }
new-known journal now caller moment (EventKind.Cancel form) there = record { order = tt; bearer = tt }
new-known journal now caller moment (EventKind.Sheet form) there = record { order = tt; bearer = tt }
new-known journal now caller moment (EventKind.Dividend form) there = record { order = tt; bearer = tt }

pub AllKnown : Journal → Type 0
AllKnown journal = All (KnownEvent (Known journal)) journal

known-step : (journal : Journal) (event : Event) → IsLawful journal → IsBrought journal event → AllKnown journal → AllKnown (with_event journal event)
unfolding AllKnown
known-step journal event lawful brought all =
    let situation = own_at journal event.moment brought.caller in
    let longer = with_event journal event in
    let more = known-more journal (event ∷ []) in
    All-push (KnownEvent (Known longer)) journal event
    (λ k d short. event-more (Known journal) (Known longer) more (get_or journal k d) (all k d short))
    (event-more (Known journal) (Known longer) more event
    (new-known journal event.moment brought.caller event.moment event.kind
    (all-there situation (request_of event.kind) (not_broken situation (request_of event.kind) brought.clear Rule.NoSuch))))

pub all-known : (journal : Journal) → IsLawful journal → AllKnown journal
unfolding AllKnown
all-known journal lawful = lawful-keeps AllKnown known-step (All-nil (KnownEvent (Known []))) journal lawful

-- ---- the payments of corrections

-- the classes of a journal are known
own-classes : (classes : List ClassForm) → All (λ (form : ClassForm). list_any (is_class form.class) classes ≡ true) classes
own-classes [] = All-nil (λ (form : ClassForm). list_any (is_class form.class) [] ≡ true)
own-classes (first ∷ classes) =
    All-cons (λ (form : ClassForm). list_any (is_class form.class) (first ∷ classes) ≡ true) first classes
    (or_left (first.class == first.class) (list_any (is_class first.class) classes) (eq-eqb first.class first.class refl))
    (λ k d short.
    let form = get_or classes k d in
    or_right (first.class == form.class) (list_any (is_class form.class) classes) (own-classes classes k d short))

pub placed-all : (P : ℕ → Type 0) (n : ℕ) (ns : List ℕ) → P n → All P ns → All P (in_its_place n ns)
placed-all P n ns own all =
    All-append P (filter (λ other. nat_lt other n) ns) (n ∷ filter (λ other. nat_lt n other) ns)
    (All-filter (λ other. nat_lt other n) P ns all)
    (All-cons P n (filter (λ other. nat_lt n other) ns) own (All-filter (λ other. nat_lt n other) P ns all))

pub rising-all : (P : ℕ → Type 0) (ordered ns : List ℕ) → All P ordered → All P ns → All P (fold (λ lots_with n. in_its_place n lots_with) ordered ns)
rising-all P ordered [] done all = done
rising-all P ordered (n ∷ ns) done all =
    rising-all P (in_its_place n ordered) ns (placed-all P n ordered (All-head P n ns all) done) (All-tail P n ns all)

classes-known : (journal : Journal) → All (λ class. Known journal (Party.Class class)) (class_numbers_of journal)
classes-known journal =
    rising-all (λ class. Known journal (Party.Class class)) [] (map (λ form. form.class) (classes_of journal)) (All-nil (λ class. Known journal (Party.Class class)))
    (All-map (λ class. Known journal (Party.Class class)) (λ (form : ClassForm). form.class) (classes_of journal) (own-classes (classes_of journal)))

abbrev GainIn : (ℕ → Type 0) → ClassGain → Type 0
GainIn P gain = P gain.class

gain-in : (P : ℕ → Type 0) (class : ℕ) (cash mils : ℤ) (nav : ℕ) (rest : List ClassGain) → P class → All (GainIn P) rest → All (GainIn P) (cons_option (gain_unless_same class cash mils nav) rest)
gain-in P class cash mils nav rest own all =
    elim (is_nothing cash && is_nothing mils) as (λ b. All (GainIn P) (cons_option (cond b None (Some (record { class = class; cents = gain_by cash mils nav }))) rest)) [
      | true ↦ all
      | false ↦ All-cons (GainIn P) (record { class = class; cents = gain_by cash mils nav }) rest own all
    ]

gains-in : (P : ℕ → Type 0) (before after : Day) (moved_before moved_after : List Movement) (sheets : List Sheet) (classes : List ℕ) → All P classes → All (GainIn P) (filter_map (gain_of before after moved_before moved_after sheets) classes)
gains-in P before after moved_before moved_after sheets [] all = All-nil (GainIn P)
gains-in P before after moved_before moved_after sheets (class ∷ classes) all =
    gain-in P class (balance moved_after (Party.Class class) -ℤ balance moved_before (Party.Class class)) (pos (outstanding after.register class) -ℤ pos (outstanding before.register class)) (latest_nav sheets class)
    (filter_map (gain_of before after moved_before moved_after sheets) classes) (All-head P class classes all)
    (gains-in P before after moved_before moved_after sheets classes (All-tail P class classes all))

loss-moves : (K : Party → Type 0) (party : Party) (class : ℕ) (cents : ℤ) → K party → K (Party.Class class) → All (KnownMovement K) (loss_payment party class cents)
loss-moves K party class (pos cents) pays takes = All-nil (KnownMovement K)
loss-moves K party class (negsuc n) pays takes = one-moved K party (Party.Class class) (suc n) pays takes

losses-move : (K : Party → Type 0) (party : Party) (gains : List ClassGain) → K party → All (GainIn (λ class. K (Party.Class class))) gains → All (KnownMovement K) (flat_map (λ gain. loss_payment party gain.class gain.cents) gains)
losses-move K party [] pays all = All-nil (KnownMovement K)
losses-move K party (gain ∷ gains) pays all =
    All-append (KnownMovement K) (loss_payment party gain.class gain.cents) (flat_map (λ gain. loss_payment party gain.class gain.cents) gains)
    (loss-moves K party gain.class gain.cents pays (All-head (GainIn (λ class. K (Party.Class class))) gain gains all))
    (losses-move K party gains pays (All-tail (GainIn (λ class. K (Party.Class class))) gain gains all))

payer-moves : (K : Party → Type 0) (party : Option Party) (gains : List ClassGain) → KnownPayer K party → All (GainIn (λ class. K (Party.Class class))) gains → All (KnownMovement K) (loss_payments party gains)
payer-moves K None gains pays all = All-nil (KnownMovement K)
payer-moves K (Some party) gains pays all = losses-move K party gains pays all

paid-moves : (K : Party → Type 0) (bearer : Option Bearer) (table : Table) (journal : Journal) (event : Event) → KnownBearer K bearer → All (λ class. K (Party.Class class)) (class_numbers_of journal) → All (KnownMovement K) (payments_for bearer table journal event)
paid-moves K None table journal event known classes = All-nil (KnownMovement K)
paid-moves K (Some bearer) table journal event known classes =
    let before = replay (book_of table journal) in
    let corrected = book_of table (with_event journal event) in
    let after = replay corrected in
    payer-moves K (payer bearer) (gains_at table journal event) known
    (gains-in (λ class. K (Party.Class class)) before after (movements_of before.trades) (movements_of after.trades) corrected.table.sheets (class_numbers_of journal) classes)

payments-move : (whole : Journal) (table : Table) (journal later : Journal) → whole ≡ journal ++ later → All (KnownEvent (Known whole)) later → All (KnownMovement (Known whole)) (payments_from table journal later)
payments-move whole table journal [] e all = All-nil (KnownMovement (Known whole))
payments-move whole table journal (event ∷ later) e all =
    All-append (KnownMovement (Known whole)) (payments_for (bearer_in event.kind) table journal event) (payments_from (table_after table event) (with_event journal event) later)
    (paid-moves (Known whole) (bearer_in event.kind) table journal event (All-head (KnownEvent (Known whole)) event later all).bearer
    (λ k d short. subst (λ j. Known j (Party.Class (get_or (class_numbers_of journal) k d))) (sym e) (known-more journal (event ∷ later) (Party.Class (get_or (class_numbers_of journal) k d)) (classes-known journal k d short))))
    (payments-move whole (table_after table event) (with_event journal event) later (e ∙ sym (append_assoc journal (event ∷ []) later)) (All-tail (KnownEvent (Known whole)) event later all))

-- ---- what is booked

booked-moves : (table : Table) (journal : Journal) → AllKnown journal → All (KnownMovement (Known journal)) (booked_movements journal (replay (book_of table journal)))
unfolding AllKnown SaysAs
booked-moves table journal all =
    let book = book_of table journal in
    All-append (KnownMovement (Known journal)) (movements_of (replay book).trades) (payments_of journal)
    (replay-moves (Known journal) tt book
    (All-filter stands (λ (row : OrderRow). KnownOrder (Known journal) row.order) (orders_of journal)
    (orders-as (KnownOrder (Known journal)) journal (λ k d short. (all k d short).order))))
    (payments-move journal empty_table [] journal refl all)

pub booked-zero : (situation : Situation) → situation.book ≡ book_of (table_of situation.journal) situation.journal → AllKnown situation.journal → NoAccountTwice situation.journal → (books : BooksReply) → books_reply situation ≡ Reply.Books books → books_total books ≡ pos 0
booked-zero situation own all once books e =
    let day = replay situation.book in
    let journal = situation.journal in
    let movements = booked_movements journal day in
    let shown = books_by situation day.register movements in
    let same : shown ≡ books = cc in
    let accounts : situation.book.accounts ≡ accounts_of journal = ap (λ (b : Book). b.accounts) own in
    let parties = booked_parties (class_numbers_of journal) (dealer_numbers_of journal) (accounts_of journal) in
    let known = booked-moves (table_of situation.journal) journal all in
    let between : All (IsBetween parties) (booked_movements journal (replay (book_of (table_of situation.journal) journal))) = λ k d short. record {
      giver_once = stands-once journal once (get_or (booked_movements journal (replay (book_of (table_of situation.journal) journal))) k d).giver (known k d short).giver;
      taker_once = stands-once journal once (get_or (booked_movements journal (replay (book_of (table_of situation.journal) journal))) k d).taker (known k d short).taker;
    } in
    ap books_total (sym same)
    ∙ (figures-total situation day.register movements
    ∙ (ap (λ forms. total_balance movements (booked_parties (class_numbers_of journal) (dealer_numbers_of journal) forms)) accounts
    ∙ balances_to_zero parties movements (subst (λ b. All (IsBetween parties) (booked_movements journal (replay b))) (sym own) between)))

-- ---- the answer

no_books : (table : Table) (journal : Journal) (event : Event) (kind : EventKind) (books : BooksReply) → reply_by table journal event kind ≡ Reply.Books books → ⊥
no_books table journal event (EventKind.Calendar form) books e = cc
no_books table journal event (EventKind.Close form) books e = cc
no_books table journal event (EventKind.Class form) books e = cc
no_books table journal event (EventKind.Dealer form) books e = cc
no_books table journal event (EventKind.Household form) books e = cc
no_books table journal event (EventKind.Account form) books e = cc
no_books table journal event (EventKind.Order lots_with) books e = cc
no_books table journal event (EventKind.Cancel form) books e = cc
no_books table journal event (EventKind.Sheet form) books e = cc
no_books table journal event (EventKind.Dividend form) books e = cc
no_books table journal event (EventKind.FixPrice form) books e = cc
no_books table journal event (EventKind.FixRate form) books e = cc
no_books table journal event (EventKind.Enter form) books e = cc
no_books table journal event (EventKind.Replace form) books e = cc
no_books table journal event (EventKind.Void form) books e = cc

-- books that are answered are the books
pub answers-books : (situation : Situation) (books : BooksReply) → (answer situation Request.Books).reply ≡ Reply.Books books → books_reply situation ≡ Reply.Books books
answers-books situation books = by_right (first_some (first_rules situation Request.Books))
  where
    refused : (why : Refusal) → Reply.Refused why ≡ Reply.Books books → ⊥
    refused why e = cc

    by_event : (place : ℕ) (found : Option Event) → (option_map_or (λ event. says (first_reply (take place situation.journal) event)) found (refuses (Refusal.BadForm 0))).reply ≡ Reply.Books books → books_reply situation ≡ Reply.Books books
    by_event place None e = absurd (refused (Refusal.BadForm 0) e)
    by_event place (Some event) e =
        absurd (no_books (table_of (take place situation.journal)) (take place situation.journal) event event.kind books e)

    by_rule : (broken : Option Refusal) → (answer_by situation Request.Books (verdict_by_rule situation Request.Books broken)).reply ≡ Reply.Books books → books_reply situation ≡ Reply.Books books
    by_rule None e = e
    by_rule (Some why) e = absurd (refused why e)

    by_place : (place : Option ℕ) → (answer_by situation Request.Books (verdict_by_place situation Request.Books place)).reply ≡ Reply.Books books → books_reply situation ≡ Reply.Books books
    by_place None e = by_rule (broken_rule situation Request.Books) e
    by_place (Some place) e = by_event place (slice_get situation.journal place) e

    by_right : (broken : Option Refusal) → (answer_by situation Request.Books (verdict_by_right situation Request.Books broken)).reply ≡ Reply.Books books → books_reply situation ≡ Reply.Books books
    by_right None e = by_place (position (repeats Request.Books) situation.journal) e
    by_right (Some why) e = absurd (refused why e)
