-- Each identity is brought once at most, where none stands twice: the events that bring it are those of its kind that have it.
use Rattle.std.proofs.Common.{Bool, None, Option, Some, [], ap, cond, false, filter, length, arith, refl, suc, true, ℕ, ◌&&◌, ◌==◌, ◌||◌, ◌∙◌, ◌∷◌, ◌≡◌, ◌≤◌}
use Rattle.std.specs.List.{cons_option}
use Rattle.std.specs.Option.{option_map_or}
use Rattle.agent_events.specs.Events.{Event}
use Rattle.agent_events.specs.declared.event.EventKind.{EventKind}
use Rattle.order_book.specs.Brought.{brings}
use Rattle.order_book.specs.declared.identity.Identity.{Identity}
use Rattle.register_laws.specs.Identities.{HasNoIdentityTwice, closes, has_number, is_calendar, is_class, is_dealer, is_household, publishes}
use Rattle.register_machine.specs.journal.Journals.{Journal}
use Rattle.register_machine.specs.journal.Kinds.{account_in, calendar_in, class_in, closure_in, dealer_in, dividend_in, each_in, household_in, sheet_in}
use Rattle.register_machine.specs.pricing.DividendRates.{declares}
use Rattle.register_machine.specs.rules.Identities.{brings_fix, brings_reference}
use Rattle.request_rules.proofs.Named.{fix-brought, reference-brought}

late : (b : Bool) → (b || false) ≡ b
late true = refl
late false = refl

-- as many events pass as there are of a kind that pass
as-many : {X : Type 0} (chosen : EventKind → Option X) (test : X → Bool) (wide : Event → Bool) (journal : Journal) → ((event : Event) → wide event ≡ option_map_or test (chosen event.kind) false) → length (filter wide journal) ≡ length (filter test (each_in chosen journal))
as-many chosen test wide [] same = refl
as-many {X = X} chosen test wide (event ∷ journal) same =
    ap (λ b. length (cond b (event ∷ filter wide journal) (filter wide journal))) (same event)
    ∙ by_chosen (chosen event.kind) (as-many chosen test wide journal same)
  where
    by_test : (x : X) (b : Bool) → length (filter wide journal) ≡ length (filter test (each_in chosen journal)) → length (cond b (event ∷ filter wide journal) (filter wide journal)) ≡ length (cond b (x ∷ filter test (each_in chosen journal)) (filter test (each_in chosen journal)))
    by_test x true later = ap (λ n. suc n) later
    by_test x false later = later

    by_chosen : (found : Option X) → length (filter wide journal) ≡ length (filter test (each_in chosen journal)) → length (cond (option_map_or test found false) (event ∷ filter wide journal) (filter wide journal)) ≡ length (filter test (cons_option found (each_in chosen journal)))
    by_chosen None later = later
    by_chosen (Some x) later = by_test x (test x) later

calendar-brought : (n moment : ℕ) (kind : EventKind) → brings (Identity.Calendar n) (record { moment = moment; kind = kind }) ≡ option_map_or (is_calendar n) (calendar_in kind) false
calendar-brought n moment (EventKind.Calendar form) = late (form.calendar == n)
calendar-brought n moment _ = refl

closure-brought : (c d moment : ℕ) (kind : EventKind) → brings (Identity.Closure c d) (record { moment = moment; kind = kind }) ≡ option_map_or (closes c d) (closure_in kind) false
closure-brought c d moment (EventKind.Close form) = late (form.calendar == c && form.day == d)
closure-brought c d moment _ = refl

class-brought : (n moment : ℕ) (kind : EventKind) → brings (Identity.Class n) (record { moment = moment; kind = kind }) ≡ option_map_or (is_class n) (class_in kind) false
class-brought n moment (EventKind.Class form) = late (form.class == n)
class-brought n moment _ = refl

dealer-brought : (n moment : ℕ) (kind : EventKind) → brings (Identity.Dealer n) (record { moment = moment; kind = kind }) ≡ option_map_or (is_dealer n) (dealer_in kind) false
dealer-brought n moment (EventKind.Dealer form) = late (form.dealer == n)
dealer-brought n moment _ = refl

household-brought : (n moment : ℕ) (kind : EventKind) → brings (Identity.Household n) (record { moment = moment; kind = kind }) ≡ option_map_or (is_household n) (household_in kind) false
household-brought n moment (EventKind.Household form) = late (form.household == n)
household-brought n moment _ = refl

account-brought : (n moment : ℕ) (kind : EventKind) → brings (Identity.Account n) (record { moment = moment; kind = kind }) ≡ option_map_or (has_number n) (account_in kind) false
account-brought n moment (EventKind.Account form) = late (form.account == n)
account-brought n moment _ = refl

sheet-brought : (c m moment : ℕ) (kind : EventKind) → brings (Identity.Sheet c m) (record { moment = moment; kind = kind }) ≡ option_map_or (publishes c m) (sheet_in kind) false
sheet-brought c m moment (EventKind.Sheet form) = late (form.calendar == c && form.moment == m)
sheet-brought c m moment _ = refl

dividend-brought : (c m moment : ℕ) (kind : EventKind) → brings (Identity.Dividend c m) (record { moment = moment; kind = kind }) ≡ option_map_or (declares c m) (dividend_in kind) false
dividend-brought c m moment (EventKind.Dividend form) = late (form.class == c && form.moment == m)
dividend-brought c m moment _ = refl

as-same : (f g : Event → Bool) (journal : Journal) → ((event : Event) → f event ≡ g event) → length (filter f journal) ≡ length (filter g journal)
as-same f g [] same = refl
as-same f g (event ∷ journal) same =
    ap (λ b. length (cond b (event ∷ filter f journal) (filter f journal))) (same event)
    ∙ by_test (g event) (as-same f g journal same)
  where
    by_test : (b : Bool) → length (filter f journal) ≡ length (filter g journal) → length (cond b (event ∷ filter f journal) (filter f journal)) ≡ length (cond b (event ∷ filter g journal) (filter g journal))
    by_test true later = ap (λ n. suc n) later
    by_test false later = later

at-most : {m n : ℕ} → m ≡ n → n ≤ 1 → m ≤ 1
at-most e few = omega arith

pub brought_once : (journal : Journal) → HasNoIdentityTwice journal → (identity : Identity) → length (filter (brings identity) journal) ≤ 1
brought_once journal once (Identity.Reference account ref_no) =
    at-most (as-same (brings (Identity.Reference account ref_no)) (brings_reference (account, ref_no)) journal (λ event. reference-brought account ref_no event.moment event.kind)) (once.references (account, ref_no))
brought_once journal once (Identity.Fix fix) =
    at-most (as-same (brings (Identity.Fix fix)) (brings_fix fix) journal (λ event. fix-brought fix event.moment event.kind)) (once.fixes fix)
brought_once journal once (Identity.Calendar n) =
    at-most (as-many calendar_in (is_calendar n) (brings (Identity.Calendar n)) journal (λ event. calendar-brought n event.moment event.kind)) (once.calendars n)
brought_once journal once (Identity.Closure c d) =
    at-most (as-many closure_in (closes c d) (brings (Identity.Closure c d)) journal (λ event. closure-brought c d event.moment event.kind)) (once.closures c d)
brought_once journal once (Identity.Class n) =
    at-most (as-many class_in (is_class n) (brings (Identity.Class n)) journal (λ event. class-brought n event.moment event.kind)) (once.classes n)
brought_once journal once (Identity.Dealer n) =
    at-most (as-many dealer_in (is_dealer n) (brings (Identity.Dealer n)) journal (λ event. dealer-brought n event.moment event.kind)) (once.dealers n)
brought_once journal once (Identity.Household n) =
    at-most (as-many household_in (is_household n) (brings (Identity.Household n)) journal (λ event. household-brought n event.moment event.kind)) (once.households n)
brought_once journal once (Identity.Account n) =
    at-most (as-many account_in (has_number n) (brings (Identity.Account n)) journal (λ event. account-brought n event.moment event.kind)) (once.accounts n)
brought_once journal once (Identity.Sheet c m) =
    at-most (as-many sheet_in (publishes c m) (brings (Identity.Sheet c m)) journal (λ event. sheet-brought c m event.moment event.kind)) (once.sheets c m)
brought_once journal once (Identity.Dividend c m) =
    at-most (as-many dividend_in (declares c m) (brings (Identity.Dividend c m)) journal (λ event. dividend-brought c m event.moment event.kind)) (once.dividends c m)
