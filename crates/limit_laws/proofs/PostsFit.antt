-- Each event of a lawful journal fits a post, and what is booked behind the journal fits its type.
use Rattle.std.proofs.Common.{All, Bool, List, None, Option, Some, [], ap, append_assoc, arith, cond, count_by, false, filter, fold, length, length-append, refl, subst, sum_by, sym, true, ℕ, ◌*◌, ◌++◌, ◌+◌, ◌<◌, ◌==◌, ◌^◌, ◌∙◌, ◌∷◌, ◌≡◌, ◌≤◌}
use Rattle.std.proofs.lemmas.Bool.{eqb-true}
use Rattle.std.proofs.lemmas.List.{get_or_append_left}
use Rattle.std.proofs.lemmas.List.Sums.{sum_by-append, sum_by-cons, sum_by-le-sum_by}
use Rattle.std.specs.Option.{option_map_or}
use Rattle.std.specs.Prelude.{map, nat_lt}
use Rattle.agent_events.specs.Events.{Event}
use Rattle.agent_events.specs.declared.event.EventKind.{EventKind}
use Rattle.agent_events.specs.declared.order.Bearer.{Bearer}
use Rattle.agent_events.specs.declared.order.Party.{Party}
use Rattle.agent_events.specs.declared.request.ClassForm.{ClassForm}
use Rattle.forward_price.specs.PriceTables.{Table}
use Rattle.forward_price.specs.Sheets.{lists_class}
use Rattle.forward_price.specs.declared.price_sheet.Sheet.{Sheet}
use Rattle.gain_loss_book.proofs.PostedFacts.{paid-within}
use Rattle.gain_loss_book.specs.Booked.{correction_by}
use Rattle.gain_loss_book.specs.Posted.{cents_moved, most_gains, size_of_correction, size_of_gains}
use Rattle.limit_laws.proofs.ChangesFit.{cents-of_trades, differences_fit}
use Rattle.limit_laws.proofs.GainsFit.{gains-within}
use Rattle.limit_laws.proofs.LawfulWithin.{before-form, in_form_stays_within, last-as, moved-little}
use Rattle.limit_laws.proofs.SmallTurns.{nav-low}
use Rattle.limit_laws.specs.InForm.{AreInForm, IsInForm}
use Rattle.limit_laws.specs.Posts.{EventFitsPost, InFormBooksFit}
use Rattle.register_laws.proofs.Comparisons.{eq-yes, three}
use Rattle.register_laws.proofs.HouseholdCredit.{FoundAs}
use Rattle.register_laws.proofs.KeepsLimits.{keeps_its_limits}
use Rattle.register_laws.proofs.LawfulJournals.{all-follow}
use Rattle.register_laws.proofs.NothingBefore.{last-brought}
use Rattle.register_laws.proofs.Runs.{table-one}
use Rattle.register_laws.proofs.Sums.{sum-filtered, sum-plus}
use Rattle.register_laws.specs.Lawful.{book_behind}
use Rattle.register_laws.specs.ReplayKeeps.{SheetInRange, most_nav}
use Rattle.register_machine.specs.corrections.Cash.{Movement, cents_paid_in, cents_received_in, movements_of, same_party}
use Rattle.register_machine.specs.corrections.Gains.{class_numbers_of, gains_at, gains_between, in_its_place, latest_nav}
use Rattle.register_machine.specs.corrections.Payments.{bearer_in, booked_movements, payments_for, payments_from, payments_of}
use Rattle.register_machine.specs.journal.Choices.{last_of}
use Rattle.register_machine.specs.journal.Journals.{Journal, with_event}
use Rattle.register_machine.specs.journal.Kinds.{classes_of}
use Rattle.register_machine.specs.journal.Lawful.{AllFollow, IsLawful}
use Rattle.register_machine.specs.pricing.CorrectedBook.{book_of}
use Rattle.register_machine.specs.pricing.PublishedTable.{table_after, table_behind, table_by, table_of}
use Rattle.register_machine.specs.replay.Replay.{replay}
use Rattle.register_machine.specs.replay.Trades.{nav_of}

-- ---- numbers by rising size are there once

abbrev is_number : ℕ → ℕ → ℕ
is_number n x = cond (x == n) 1 0

one-side-each : (n m x : ℕ) → cond (nat_lt x m) (is_number n x) 0 + cond (nat_lt m x) (is_number n x) 0 ≤ cond (m == n) 0 (is_number n x)
one-side-each n m x = by (m == n) refl (x == n) refl (three x m (is_number n x))
  where
    by : (there : Bool) → (m == n) ≡ there → (here : Bool) → (x == n) ≡ here → cond (nat_lt x m) (is_number n x) 0 + (cond (x == m) (is_number n x) 0 + cond (nat_lt m x) (is_number n x) 0) ≡ is_number n x → cond (nat_lt x m) (is_number n x) 0 + cond (nat_lt m x) (is_number n x) 0 ≤ cond there 0 (is_number n x)
    by false e here i whole = omega (arith, whole)
    by true e false i whole = let none : ◌≡◌ {A = ℕ} (is_number n x) 0 = rw i refl in omega (arith, whole, none)
    by true e true i whole =
        let same : (x == m) ≡ true = eq-yes x m (eqb-true x n i ∙ sym (eqb-true m n e)) in
        let own : cond (x == m) (is_number n x) 0 ≡ is_number n x = rw same refl in
        omega (arith, whole, own)

zeros-or : (b : Bool) (f : ℕ → ℕ) (xs : List ℕ) → sum_by (λ x. cond b 0 (f x)) xs ≡ cond b 0 (sum_by f xs)
zeros-or false f xs = refl
zeros-or true f [] = refl
zeros-or true f (x ∷ xs) = omega (arith, zeros-or true f xs, sum_by-cons (λ (y : ℕ). 0) x xs)

placed-once : (n m : ℕ) (ns : List ℕ) → count_by (λ x. x == n) ns ≤ 1 → count_by (λ x. x == n) (in_its_place m ns) ≤ 1
placed-once n m ns once =
    let below = filter (λ x. nat_lt x m) ns in
    let above = filter (λ x. nat_lt m x) ns in
    let whole = sum_by-append (is_number n) below (m ∷ above) in
    let last = sum_by-cons (is_number n) m above in
    let both = sum-plus (λ x. cond (nat_lt x m) (is_number n x) 0) (λ x. cond (nat_lt m x) (is_number n x) 0) (λ x. cond (nat_lt x m) (is_number n x) 0 + cond (nat_lt m x) (is_number n x) 0) (λ x. refl) ns in
    let each = sum_by-le-sum_by (λ x. cond (nat_lt x m) (is_number n x) 0 + cond (nat_lt m x) (is_number n x) 0) (λ x. cond (m == n) 0 (is_number n x)) ns (one-side-each n m) in
    let sides : sum_by (is_number n) below + sum_by (is_number n) above ≤ cond (m == n) 0 (sum_by (is_number n) ns) = omega (arith, sum-filtered (is_number n) (λ x. nat_lt x m) ns, sum-filtered (is_number n) (λ x. nat_lt m x) ns, both, each, zeros-or (m == n) (is_number n) ns) in
    by (m == n) sides whole last
  where
    by : (same : Bool) → sum_by (is_number n) (filter (λ x. nat_lt x m) ns) + sum_by (is_number n) (filter (λ x. nat_lt m x) ns) ≤ cond same 0 (sum_by (is_number n) ns) → count_by (λ x. x == n) (in_its_place m ns) ≡ sum_by (is_number n) (filter (λ x. nat_lt x m) ns) + sum_by (is_number n) (m ∷ filter (λ x. nat_lt m x) ns) → sum_by (is_number n) (m ∷ filter (λ x. nat_lt m x) ns) ≡ cond same 1 0 + sum_by (is_number n) (filter (λ x. nat_lt m x) ns) → count_by (λ x. x == n) (in_its_place m ns) ≤ 1
    by true sides whole last = omega (arith, sides, whole, last)
    by false sides whole last = omega (arith, sides, whole, last, once)

numbers-once : (n : ℕ) (ordered ns : List ℕ) → count_by (λ x. x == n) ordered ≤ 1 → count_by (λ x. x == n) (fold (λ ordered m. in_its_place m ordered) ordered ns) ≤ 1
numbers-once n ordered [] once = once
numbers-once n ordered (m ∷ ns) once = numbers-once n (in_its_place m ordered) ns (placed-once n m ordered once)

-- ---- the gains of a correction

latest-low : (sheets : List Sheet) (class : ℕ) → All SheetInRange sheets → latest_nav sheets class ≤ most_nav
latest-low sheets class low =
    by (last_of (λ (sheet : Sheet). lists_class sheet.prices class) sheets) (last-as SheetInRange (λ (sheet : Sheet). lists_class sheet.prices class) None sheets tt low)
  where
    by : (found : Option Sheet) → FoundAs SheetInRange found → option_map_or (λ (sheet : Sheet). nav_of sheet class) found 0 ≤ most_nav
    by None is = omega arith
    by (Some sheet) is = nav-low sheet class is

none_some : {X : Type 0} {x : X} → (None ≡ Some x) → ⊥
none_some h = cc

-- a correction leaves the published table
table-same : (table : Table) (moment : ℕ) (kind : EventKind) (bearer : Bearer) → bearer_in kind ≡ Some bearer → table_by table moment kind ≡ table
table-same table moment (EventKind.FixPrice form) bearer is = refl
table-same table moment (EventKind.FixRate form) bearer is = refl
table-same table moment (EventKind.Enter form) bearer is = refl
table-same table moment (EventKind.Replace form) bearer is = refl
table-same table moment (EventKind.Void form) bearer is = refl
table-same table moment kind bearer is = absurd (none_some is)

gains-fit : (journal : Journal) (event : Event) (bearer : Bearer) → bearer_in event.kind ≡ Some bearer → IsLawful (with_event journal event) → AreInForm (with_event journal event) → size_of_gains (gains_at (table_of journal) journal event) ≤ most_gains
gains-fit journal event bearer is lawful says =
    let corrected = with_event journal event in
    let within = in_form_stays_within corrected lawful says in
    let same : table_of corrected ≡ table_of journal = table-one journal event ∙ table-same (table_of journal) event.moment event.kind bearer is in
    let few = gains-within (class_numbers_of journal) (replay (book_behind journal)) (replay (book_behind corrected)) (book_behind corrected).table.sheets
    (λ number. numbers-once number [] (map (λ (form : ClassForm). form.class) (classes_of journal)) (omega arith))
    (λ class. latest-low (book_behind corrected).table.sheets class within.limited.in_range.prices)
    (moved-little journal (last-brought journal event lawful).0 (before-form journal event says)) (moved-little corrected lawful says) in
    subst (λ (table : Table). size_of_gains (gains_between (class_numbers_of journal) (replay (book_behind journal)) (replay (book_of table corrected)) (book_of table corrected).table.sheets) ≤ most_gains) same few

pub event_fits_post : (journal : Journal) (event : Event) → IsLawful (with_event journal event) → EventFitsPost journal event
unfolding table_behind
event_fits_post journal event lawful says = record {
  changes = λ changes.
      differences_fit changes (replay (book_behind journal)) (replay (book_behind (with_event journal event)))
      (moved-little journal (last-brought journal event lawful).0 (before-form journal event says))
      (moved-little (with_event journal event) lawful says);
  gains = by (bearer_in event.kind) refl;
}
  where
    by : (found : Option Bearer) → bearer_in event.kind ≡ found → size_of_correction (correction_by found journal event) ≤ most_gains
    by None is = omega arith
    by (Some bearer) is = gains-fit journal event bearer is lawful says

-- ---- what is booked

event-payments : (journal : Journal) (event : Event) → IsLawful (with_event journal event) → AreInForm (with_event journal event) → (found : Option Bearer) → bearer_in event.kind ≡ found → cents_moved (payments_for found (table_of journal) journal event) ≤ most_gains
event-payments journal event lawful says None is = omega arith
event-payments journal event lawful says (Some bearer) is =
    omega (arith, gains-fit journal event bearer is lawful says, paid-within (Some (record { bearer = bearer; gains = gains_at (table_of journal) journal event })))

paid-from : (before later : Journal) → IsLawful before → AllFollow before later → AreInForm (before ++ later) → cents_moved (payments_from (table_of before) before later) ≤ length later * most_gains
paid-from before [] lawful all says = omega arith
paid-from before (event ∷ later) lawful all says =
    let still = all-follow [] before event lawful all.0 in
    let whole : AreInForm (with_event before event ++ later) = subst AreInForm (sym (append_assoc before (event ∷ []) later)) says in
    let own : AreInForm (with_event before event) = λ k d short. subst IsInForm (get_or_append_left (with_event before event) later d k short) (whole k d (omega (arith, short, length-append (with_event before event) later))) in
    let rest = paid-from (with_event before event) later still all.1 whole in
    let here = event-payments before event still own (bearer_in event.kind) refl in
    let table = table-one before event in
    let same : payments_from (table_of (with_event before event)) (with_event before event) later ≡ payments_from (table_after (table_of before) event) (with_event before event) later = ap (λ (t : Table). payments_from t (with_event before event) later) table in
    omega (arith, here, rest, ap cents_moved same, sum_by-append (λ (m : Movement). m.cents) (payments_for (bearer_in event.kind) (table_of before) before event) (payments_from (table_after (table_of before) event) (with_event before event) later))

payments-low : (journal : Journal) → IsLawful journal → AreInForm journal → cents_moved (payments_of journal) ≤ length journal * most_gains
unfolding table_behind
payments-low journal lawful says = paid-from [] journal tt lawful says

booked-low : (journal : Journal) → IsLawful journal → AreInForm journal → cents_moved (booked_movements journal (replay (book_behind journal))) < 2 ^ 127
booked-low journal lawful says =
    let trades = (replay (book_behind journal)).trades in
    omega (arith, sum_by-append (λ (m : Movement). m.cents) (movements_of trades) (payments_of journal), payments-low journal lawful says, (keeps_its_limits journal lawful).events, cents-of_trades trades, (in_form_stays_within journal lawful says).moves.cents)

pub in_form_books_fit : (journal : Journal) → IsLawful journal → InFormBooksFit journal
in_form_books_fit journal lawful says =
    let movements = booked_movements journal (replay (book_behind journal)) in
    let low = booked-low journal lawful says in
    record {
      received = λ party. omega (arith, low, sum_by-le-sum_by (cents_received_in party) (λ (m : Movement). m.cents) movements (received-one party));
      paid = λ party. omega (arith, low, sum_by-le-sum_by (cents_paid_in party) (λ (m : Movement). m.cents) movements (paid-one party));
    }
  where
    received-one : (party : Party) (m : Movement) → cents_received_in party m ≤ m.cents
    received-one party m = elim (same_party m.taker party) as (λ b. cond b m.cents 0 ≤ m.cents) [ true ↦ omega arith | false ↦ omega arith ]

    paid-one : (party : Party) (m : Movement) → cents_paid_in party m ≤ m.cents
    paid-one party m = elim (same_party m.giver party) as (λ b. cond b m.cents 0 ≤ m.cents) [ true ↦ omega arith | false ↦ omega arith ]
