-- The book of a lawful journal is limited and has few things, where its events are in their forms.
use Rattle.std.proofs.Common.{All, Bool, List, None, Option, Some, [], arith, cond, false, find, fold, length-append, subst, true, ◌∷◌, ◌≤◌}
use Rattle.std.proofs.lemmas.List.{get_or_append_left}
use Rattle.std.proofs.lemmas.List.Elements.{All-cons, All-head, All-nil, All-tail, All-weaker}
use Rattle.std.proofs.lemmas.List.Sums.{count_by-le-length, length-filter}
use Rattle.std.specs.List.{cons_option}
use Rattle.std.specs.Option.{option_map_or}
use Rattle.agent_events.specs.declared.event.EventKind.{EventKind}
use Rattle.agent_events.specs.declared.request.DividendForm.{DividendForm}
use Rattle.agent_events.specs.declared.request.FixRateForm.{FixRateForm}
use Rattle.limit_laws.proofs.AllMoved.{counted_moves_little}
use Rattle.limit_laws.proofs.FewPositions.{orders-stand}
use Rattle.limit_laws.proofs.FewThings.{has_few_things}
use Rattle.limit_laws.specs.InForm.{AreInForm, IsInForm, SaysInForm, most_rate}
use Rattle.limit_laws.specs.Limited.{IsCounted, IsLimited, RatesInRange}
use Rattle.limit_laws.specs.Moved.{InFormStaysWithin}
use Rattle.limit_laws.specs.Posts.{HasMovedLittle}
use Rattle.register_laws.proofs.HouseholdCredit.{FoundAs, found-as}
use Rattle.register_laws.proofs.LawfulReplaysKept.{has_a_lawful_book}
use Rattle.register_laws.proofs.SharesByTrades.{shares_go_by_trades}
use Rattle.register_laws.specs.Lawful.{book_behind}
use Rattle.register_laws.specs.LawfulReplays.{EventInRange}
use Rattle.register_machine.specs.journal.Choices.{last_of}
use Rattle.register_machine.specs.journal.Journals.{Journal, with_event}
use Rattle.register_machine.specs.journal.Kinds.{dividend_in, each_in, rate_fix_in}
use Rattle.register_machine.specs.journal.Lawful.{IsLawful}
use Rattle.register_machine.specs.pricing.CorrectedOrders.{orders_of, stands}
use Rattle.register_machine.specs.pricing.DividendRates.{declares, fixes_rate, rate_declared, rates_of}
use Rattle.register_machine.specs.replay.Replay.{replay}
use Rattle.agent_events.specs.Events.{Event}

-- ---- rates

-- what is gathered from events in their forms
gathered : {X : Type 0} (P : X → Type 0) (chosen : EventKind → Option X) → ((kind : EventKind) → SaysInForm kind → FoundAs P (chosen kind)) → (journal : Journal) → AreInForm journal → All P (each_in chosen journal)
gathered P chosen each [] says = All-nil P
gathered {X = X} P chosen each (event ∷ events) says =
    by (chosen event.kind) (each event.kind (All-head IsInForm event events says).form) (gathered P chosen each events (All-tail IsInForm event events says))
  where
    by : (found : Option X) → FoundAs P found → All P (each_in chosen events) → All P (cons_option found (each_in chosen events))
    by None is rest = rest
    by (Some x) is rest = All-cons P x (each_in chosen events) is rest

abbrev LowDividend : DividendForm → Type 0
LowDividend form = form.rate ≤ most_rate

abbrev LowFix : FixRateForm → Type 0
LowFix form = form.rate ≤ most_rate

dividend-low : (kind : EventKind) → SaysInForm kind → FoundAs LowDividend (dividend_in kind)
dividend-low (EventKind.Dividend form) says = says
dividend-low kind says = tt

fix-low : (kind : EventKind) → SaysInForm kind → FoundAs LowFix (rate_fix_in kind)
fix-low (EventKind.FixRate form) says = says
fix-low kind says = tt

pub last-as : {X : Type 0} (P : X → Type 0) (test : X → Bool) (found : Option X) (xs : List X) → FoundAs P found → All P xs → FoundAs P (fold (λ found x. cond (test x) (Some x) found) found xs)
last-as P test found [] is all = is
last-as P test found (x ∷ xs) is all =
    last-as P test (cond (test x) (Some x) found) xs
    (elim (test x) as (λ b. FoundAs P (cond b (Some x) found)) [ true ↦ All-head P x xs all | false ↦ is ])
    (All-tail P x xs all)

pub rates-low : (journal : Journal) → AreInForm journal → RatesInRange (rates_of journal)
rates-low journal says class moment =
    fixed (last_of (fixes_rate class moment) (each_in rate_fix_in journal)) (last-as LowFix (fixes_rate class moment) None (each_in rate_fix_in journal) tt (gathered LowFix rate_fix_in fix-low journal says))
  where
    declared : (found : Option DividendForm) → FoundAs LowDividend found → option_map_or (λ (form : DividendForm). form.rate) found 0 ≤ most_rate
    declared None is = omega arith
    declared (Some form) is = is

    rate_low : rate_declared (rates_of journal) class moment ≤ most_rate
    rate_low = declared (find (declares class moment) (each_in dividend_in journal)) (found-as LowDividend (declares class moment) (each_in dividend_in journal) (gathered LowDividend dividend_in dividend-low journal says))

    fixed : (found : Option FixRateForm) → FoundAs LowFix found → option_map_or (λ (form : FixRateForm). form.rate) found (rate_declared (rates_of journal) class moment) ≤ most_rate
    fixed None is = rate_low
    fixed (Some form) is = is

-- ---- the laws

pub in_form_stays_within : (journal : Journal) → IsLawful journal → InFormStaysWithin journal
in_form_stays_within journal lawful says =
    let book = book_behind journal in
    let is = has_a_lawful_book journal lawful in
    let few = has_few_things journal lawful in
    let limited : IsLimited book = record {
      orderly = is.orderly;
      within = is.within;
      in_range = is.in_range (All-weaker IsInForm EventInRange (λ event form. form.range) journal says);
      rates = rates-low journal says;
      placed = orders-stand journal lawful;
    } in
    let counted : IsCounted book = record {
      accounts = few.accounts;
      orders = omega (arith, few.orders, length-filter stands (orders_of journal), count_by-le-length stands (orders_of journal));
      prices = few.prices says;
    } in
    record { limited = limited; counted = counted; moves = counted_moves_little book limited counted }

pub moved-little : (journal : Journal) → IsLawful journal → AreInForm journal → HasMovedLittle (replay (book_behind journal))
moved-little journal lawful says =
    let is = in_form_stays_within journal lawful says in
    record { moves = is.moves; shares = λ class. shares_go_by_trades (book_behind journal) class is.limited.orderly }

-- the events before the last one are in their forms too
pub before-form : (journal : Journal) (event : Event) → AreInForm (with_event journal event) → AreInForm journal
before-form journal event says k d short =
    subst IsInForm (get_or_append_left journal (event ∷ []) d k short) (says k d (omega (arith, short, length-append journal (event ∷ []))))
