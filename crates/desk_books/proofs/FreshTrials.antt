-- A correction that no rule before the last one refuses, on trial behind a lawful journal.
use Rattle.std.proofs.Common.{None, Option, Some, ap, is_none, is_some, position, refl, subst, sym, true, ℕ, ◌∙◌, ◌≡◌}
use Rattle.std.proofs.lemmas.Bool.{true≢false}
use Rattle.std.specs.List.{list_any}
use Rattle.agent_events.specs.Events.{Event, event_of, request_of}
use Rattle.agent_events.specs.declared.event.EventKind.{EventKind}
use Rattle.agent_events.specs.declared.order.Order.{Order}
use Rattle.agent_events.specs.declared.order.OrderRow.{OrderRow}
use Rattle.agent_events.specs.declared.reply.Refusal.{Refusal}
use Rattle.agent_events.specs.declared.request.EntryForm.{EntryForm}
use Rattle.agent_events.specs.declared.request.FixPriceForm.{FixPriceForm}
use Rattle.agent_events.specs.declared.request.Request.{Request}
use Rattle.agent_events.specs.declared.verdict.Caller.{Caller}
use Rattle.agent_events.specs.declared.verdict.Verdict.{Verdict}
use Rattle.desk_books.specs.BooksOfJournals.{AreBooksOf}
use Rattle.desk_books.specs.CorrectionTrials.{IsFresh}
use Rattle.desk_books.specs.Fresh.{FreshIsOnTrial, KnowsItsAccount}
use Rattle.desk_books.specs.declared.books.DeskBooks.{DeskBooks}
use Rattle.forward_price.specs.PriceTables.{Table}
use Rattle.register_laws.proofs.TriedCorrections.{tried_has_a_book}
use Rattle.register_laws.specs.EventReplays.{is_correction}
use Rattle.ledger_laws.proofs.TrialBooks.{trial_is_sound}
use Rattle.ledger_laws.proofs.HouseholdBooks.{owner-there}
use Rattle.order_book.proofs.BroughtFits.{fresh_fits}
use Rattle.order_book.specs.Books.{Fits, begins_new_name}
use Rattle.register_laws.proofs.AnswersByCases.{asks}
use Rattle.register_laws.proofs.NothingBefore.{all-named}
use Rattle.register_laws.proofs.OrderReach.{tried_event_reach}
use Rattle.register_laws.proofs.Choosing.{some_none}
use Rattle.register_laws.proofs.RulesByName.{not_broken}
use Rattle.register_laws.specs.Lawful.{own_at}
use Rattle.register_laws.specs.OneEventMore.{TouchesNothing, corrected_table, is_unfixed}
use Rattle.register_machine.specs.journal.Choices.{first_some}
use Rattle.register_machine.specs.journal.Journals.{Journal}
use Rattle.reference_tables.proofs.PricedSheets.{listed-patch}
use Rattle.reference_tables.specs.TablesOfJournals.{patch_on}
use Rattle.register_machine.specs.journal.Kinds.{account_numbered, accounts_of, household_of}
use Rattle.register_machine.specs.pricing.CorrectedOrders.{order_named, orders_of}
use Rattle.register_machine.specs.rules.InOrder.{Rule, broken_rule, first_rules}
use Rattle.register_machine.specs.rules.NamedThings.{lists_at, none_such, things_named}
use Rattle.register_machine.specs.rules.Situations.{Situation, event_at}
use Rattle.register_machine.specs.run.Verdicts.{due_now, repeats, verdict_by_event, verdict_by_place, verdict_by_right, verdict_by_rule}

-- what is brought anew breaks none of the rules before the last one
fresh-clear : (situation : Situation) (request : Request) (event : Event) → verdict_by_right situation request (first_some (first_rules situation request)) ≡ Verdict.Fresh event → broken_rule situation (request_of event.kind) ≡ None
fresh-clear situation request event = by_right (first_some (first_rules situation request))
  where
    by_event : broken_rule situation request ≡ None → (brought : Option EventKind) → event_of request situation.now (due_now situation request) ≡ brought → verdict_by_event situation brought ≡ Verdict.Fresh event → broken_rule situation (request_of event.kind) ≡ None
    by_event clear None brings fresh = cc
    by_event clear (Some kind) brings fresh =
        ap (λ (e : Event). broken_rule situation (request_of e.kind)) (sym (same fresh))
        ∙ (ap (broken_rule situation) (asks request situation.now (due_now situation request) kind brings) ∙ clear)
      where
        same : Verdict.Fresh (event_at situation kind) ≡ Verdict.Fresh event → event_at situation kind ≡ event
        same e = cc

    by_rule : (broken : Option Refusal) → broken_rule situation request ≡ broken → verdict_by_rule situation request broken ≡ Verdict.Fresh event → broken_rule situation (request_of event.kind) ≡ None
    by_rule (Some _) is fresh = cc
    by_rule None is fresh = by_event is (event_of request situation.now (due_now situation request)) refl fresh

    by_place : (place : Option ℕ) → verdict_by_place situation request place ≡ Verdict.Fresh event → broken_rule situation (request_of event.kind) ≡ None
    by_place (Some place) fresh = cc
    by_place None fresh = by_rule (broken_rule situation request) refl fresh

    by_right : (refused : Option Refusal) → verdict_by_right situation request refused ≡ Verdict.Fresh event → broken_rule situation (request_of event.kind) ≡ None
    by_right (Some _) fresh = cc
    by_right None fresh = by_place (position (repeats request) situation.journal) fresh

-- ---- the account of its order

knows-account : (journal : Journal) (now : ℕ) (caller : Caller) (kind : EventKind) → is_correction kind ≡ true → none_such (own_at journal now caller) (request_of kind) ≡ None → KnowsItsAccount journal kind
knows-account journal now caller (EventKind.Order placed) corrects known order is = absurd (true≢false (sym corrects))
knows-account journal now caller (EventKind.Enter form) corrects known order is =
    let each = all-named (things_named (own_at journal now caller) (Request.Enter form)) known in
    ap (λ (own : Order). is_some (household_of (accounts_of journal) own.account)) (sym (same is))
    ∙ owner-there (account_numbered (accounts_of journal) form.order.account) each.1.0
  where
    same : Some form.order ≡ Some order → form.order ≡ order
    same e = cc
knows-account journal now caller (EventKind.Replace form) corrects known order is =
    let each = all-named (things_named (own_at journal now caller) (Request.Replace form)) known in
    ap (λ (own : Order). is_some (household_of (accounts_of journal) own.account)) (sym (same is))
    ∙ owner-there (account_numbered (accounts_of journal) form.order.account) each.1.0
  where
    same : Some form.order ≡ Some order → form.order ≡ order
    same e = cc
knows-account journal now caller _ corrects known order is = none is
  where
    none : None ≡ Some order → is_some (household_of (accounts_of journal) order.account) ≡ true
    none e = cc

-- ---- what it touches

unfixed : (journal : Journal) (kind : EventKind) → is_correction kind ≡ true → is_unfixed journal kind ≡ true
unfixed journal (EventKind.Sheet form) corrects = absurd (true≢false (sym corrects))
unfixed journal _ corrects = refl

entered-new : (journal : Journal) (event : Event) → Fits journal event → (form : EntryForm) → event.kind ≡ EventKind.Enter form → order_named (orders_of journal) form.order.account form.order.ref_no ≡ None
entered-new journal event fits form is =
    by (order_named (orders_of journal) form.order.account form.order.ref_no) (ap (begins_new_name journal) (sym is) ∙ fits.new)
  where
    by : (found : Option OrderRow) → is_none found ≡ true → found ≡ None
    by None e = refl
    by (Some row) e = absurd (true≢false (sym e))

-- ---- the trial

pub fresh_is_on_trial : (journal : Journal) (event : Event) → FreshIsOnTrial journal event
fresh_is_on_trial journal event lawful corrects fresh =
    let situation = own_at journal event.moment fresh.caller in
    let clear = fresh-clear situation fresh.request event fresh.fresh in
    let fits = (fresh_fits journal event.moment fresh.caller fresh.request event lawful fresh.fresh).fits in
    let touches : TouchesNothing journal event = record { begins = fits.untouched; unfixed = unfixed journal event.kind corrects } in
    record {
      sound = trial_is_sound journal event fresh.caller lawful corrects clear;
      fits = fits;
      reach = tried_event_reach journal event lawful touches;
      orders = tried_has_a_book journal event lawful (record { correction = corrects; touches = touches; new = entered-new journal event fits });
      owned = knows-account journal event.moment fresh.caller event.kind corrects (not_broken situation (request_of event.kind) clear Rule.NoSuch);
    }

-- ---- the patch of a corrected price

-- a sheet lists its class at its moment
price-there : (journal : Journal) (event : Event) (form : FixPriceForm) → event.kind ≡ EventKind.FixPrice form → IsFresh journal event → list_any (lists_at form.class form.moment) (corrected_table journal).sheets ≡ true
price-there journal event form kind fresh =
    let situation = own_at journal event.moment fresh.caller in
    (all-named (things_named situation (Request.FixPrice form))
    (not_broken situation (Request.FixPrice form)
    (subst (λ (k : EventKind). broken_rule situation (request_of k) ≡ None) kind (fresh-clear situation fresh.request event fresh.fresh)) Rule.NoSuch)).1.1.0

pub price_patched : (books : DeskBooks) (event : Event) (form : FixPriceForm) → AreBooksOf books.book.journal books → event.kind ≡ EventKind.FixPrice form → IsFresh books.book.journal event → patch_on books.prices.table.sheets form ≡ None → ⊥
price_patched books event form are kind fresh none =
    let found = listed-patch books.book.journal form (price-there books.book.journal event form kind fresh) in
    some_none (sym found.1.patch ∙ (sym (ap (λ (table : Table). patch_on table.sheets form) are.prices) ∙ none))
