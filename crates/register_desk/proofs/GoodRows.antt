-- Rows of events in form are those of one journal alone, so no row of a lawful journal is a bad one.
use Rattle.std.proofs.Common.{List, Some, [], ap, drop, option_map, slice_get, subst, sym, take, ℕ, ◌++◌, ◌+◌, ◌<◌, ◌∙◌, ◌∷◌, ◌≡◌, refl}
use Rattle.std.specs.Prelude.{All}
use Rattle.std.proofs.lemmas.List.{length-map, take-append-drop, take-map}
use Rattle.std.proofs.lemmas.List.Elements.{All-head, All-tail, All-take}
use Rattle.std.proofs.lemmas.Option.{slice_get-map}
use Rattle.agent_events.specs.Events.{Event}
use Rattle.event_rows.specs.InForm.{InForm}
use Rattle.event_rows.specs.Rows.{event_row}
use Rattle.register_desk.proofs.RowsOfJournals.{take_next}
use Rattle.register_desk.specs.Rows.{IsDamagedAt, IsFirstBad, rows_of}
use Rattle.register_laws.proofs.LawfulJournals.{lawful-before}
use Rattle.register_machine.proofs.ListItems.{item-there, has-at}
use Rattle.register_machine.specs.journal.Journals.{Journal, with_event}
use Rattle.register_machine.specs.journal.Lawful.{IsLawful}

-- no row begins another
abbrev pub NoRowBeginsAnother : Type 0
NoRowBeginsAnother =
    (first second : Event) (rest more : List ℕ) → InForm first → InForm second → event_row first ++ rest ≡ event_row second ++ more → (first ≡ second) × (rest ≡ more)

-- the first item of a list, and the items behind it
head-of : {X : Type 0} (x y : X) (xs ys : List X) → x ∷ xs ≡ y ∷ ys → x ≡ y
head-of x y xs ys same = cc

tail-of : {X : Type 0} (x y : X) (xs ys : List X) → x ∷ xs ≡ y ∷ ys → xs ≡ ys
tail-of x y xs ys same = cc

nil-cons : {X : Type 0} (x : X) (xs : List X) → [] ≡ x ∷ xs → ⊥
nil-cons x xs same = cc

both : {X : Type 0} (x y : X) (xs ys : List X) → x ≡ y → xs ≡ ys → x ∷ xs ≡ y ∷ ys
both x y xs ys first rest = cc

pub one_journal : NoRowBeginsAnother → (journal other : Journal) → All InForm journal → All InForm other → rows_of journal ≡ rows_of other → journal ≡ other
one_journal none [] [] fits suits same = refl
one_journal none [] (event ∷ other) fits suits same = absurd (nil-cons (event_row event) (rows_of other) same)
one_journal none (event ∷ journal) [] fits suits same = absurd (nil-cons (event_row event) (rows_of journal) (sym same))
one_journal none (event ∷ journal) (second ∷ other) fits suits same =
    both event second journal other
    (none event second [] [] (All-head InForm event journal fits) (All-head InForm second other suits)
    (ap (λ row. row ++ []) (head-of (event_row event) (event_row second) (rows_of journal) (rows_of other) same))).0
    (one_journal none journal other (All-tail InForm event journal fits) (All-tail InForm second other suits)
    (tail-of (event_row event) (event_row second) (rows_of journal) (rows_of other) same))

lawful-take : (journal : Journal) (count : ℕ) → IsLawful journal → IsLawful (take count journal)
lawful-take journal count lawful = lawful-before (take count journal) (drop count journal) (subst IsLawful (sym (take-append-drop count journal)) lawful)

pub not_damaged : NoRowBeginsAnother → (journal : Journal) → IsLawful journal → All InForm journal → (place : ℕ) → IsDamagedAt place (rows_of journal) → ⊥
not_damaged none journal lawful in_form place damaged = bad.bad there.0 fits row follows
  where
    bad : IsFirstBad (slice_get (rows_of journal) place) (take place (rows_of journal))
    bad = damaged.1

    there : (event : Event) × (slice_get journal place ≡ Some event)
    there = item-there journal place (subst (λ n. place < n) (length-map journal event_row) damaged.0)

    fits : InForm there.0
    fits = has-at InForm journal place there.0 in_form there.1

    row : slice_get (rows_of journal) place ≡ Some (event_row there.0)
    row = slice_get-map event_row journal place ∙ ap (option_map event_row) there.1

    same : bad.journal ≡ take place journal
    same = sym (one_journal none (take place journal) bad.journal (All-take InForm place journal in_form) bad.in_form
        (sym (take-map event_row place journal) ∙ bad.rows))

    follows : IsLawful (with_event bad.journal there.0)
    follows = subst (λ known. IsLawful (with_event known there.0)) (sym same)
        (subst IsLawful (take_next journal place there.0 there.1) (lawful-take journal (place + 1) lawful))
