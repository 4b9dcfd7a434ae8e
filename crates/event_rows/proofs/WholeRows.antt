-- A whole row is exact, and nothing stands behind it.
use Rattle.std.proofs.Common.{◌≡◌, ℕ, eqb, List, [], ◌∷◌, ◌++◌, Some, None, refl, sym, ap, subst, ◌∙◌, append_assoc}
use Rattle.std.proofs.lemmas.Bool.{eqb-true}
use Rattle.std.proofs.lemmas.List.{append-nil}
use Rattle.agent_events.specs.declared.event.EventKind.{EventKind}
use Rattle.agent_events.specs.Events.{Event}
use Rattle.event_rows.specs.Exact.{IsBytes, IsField}
use Rattle.event_rows.specs.FieldReading.{map_read, byte_at}
use Rattle.event_rows.specs.Readers.{moment_at}
use Rattle.event_rows.specs.Spelling.{one_byte, eight_bytes}
use Rattle.event_rows.proofs.Fields.{IsBytes-rest, read_some, map_some, byte_takes, whole_some, chosen}
use Rattle.event_rows.proofs.EachField.{moment_field}
use Rattle.event_rows.specs.InForm.{InForm}
use Rattle.event_rows.specs.Rows.{kind_number, fields, event_row}
use Rattle.event_rows.specs.Reading.{fields_at, event_with, event_behind, first_version_at, version_behind, event_at, event_of_row}
use Rattle.event_rows.proofs.EachKind.{kind_takes, kind_again}

-- the kind, the moment and the fields
after_version : Event → List ℕ
after_version event = one_byte (kind_number event.kind) ++ (eight_bytes event.moment ++ fields event.kind)

first_takes : (bytes : List ℕ) (event : Event) (rest : List ℕ) → IsBytes bytes → first_version_at bytes ≡ Some (event, rest) → (bytes ≡ after_version event ++ rest) × InForm event
unfolding first_version_at after_version
first_takes bytes event rest fits e =
    let a = read_some (byte_at bytes) (λ x. event_behind x.0 (moment_at x.1)) (event, rest) e in
    let one = byte_takes bytes a.0.0 a.0.1 fits a.1 in
    let fits1 = IsBytes-rest bytes (a.0.0 ∷ []) a.0.1 one.0 fits in
    let b = read_some (moment_at a.0.1) (λ x. map_read (event_with x.0) (fields_at a.0.0) x.1) (event, rest) a.2 in
    let two = moment_field.takes a.0.1 b.0.0 b.0.1 fits1 b.1 in
    let fits2 = IsBytes-rest a.0.1 (eight_bytes b.0.0) b.0.1 two.0 fits1 in
    let d = map_some (fields_at a.0.0 b.0.1) (λ (x : EventKind × List ℕ). (event_with b.0.0 x.0, x.1)) (event, rest) b.2 in
    let three = kind_takes a.0.0 b.0.1 d.0.0 d.0.1 fits2 d.1 in
    let kinded : bytes ≡ kind_number d.0.0 ∷ a.0.1 = one.0 ∙ ap (λ (n : ℕ). n ∷ a.0.1) (sym three.2) in
    let behind_it : a.0.1 ≡ (eight_bytes b.0.0 ++ fields d.0.0) ++ d.0.1 = two.0 ∙ ap (λ (x : List ℕ). eight_bytes b.0.0 ++ x) three.0 ∙ sym (append_assoc (eight_bytes b.0.0) (fields d.0.0) d.0.1) in
    let whole : bytes ≡ kind_number d.0.0 ∷ ((eight_bytes b.0.0 ++ fields d.0.0) ++ d.0.1) = kinded ∙ ap (λ (x : List ℕ). kind_number d.0.0 ∷ x) behind_it in
    subst (λ (y : Event × List ℕ). (bytes ≡ (kind_number y.0.kind ∷ (eight_bytes y.0.moment ++ fields y.0.kind)) ++ y.1) × InForm y.0) d.2 (whole, (two.1, three.1))

first_again : (event : Event) (rest : List ℕ) → InForm event → first_version_at (after_version event ++ rest) ≡ Some (event, rest)
unfolding first_version_at after_version
first_again event rest fits =
    let regrouped : (eight_bytes event.moment ++ fields event.kind) ++ rest ≡ eight_bytes event.moment ++ (fields event.kind ++ rest) = append_assoc (eight_bytes event.moment) (fields event.kind) rest in
    ap (λ (x : List ℕ). event_behind (kind_number event.kind) (moment_at x)) regrouped
    ∙ rw (moment_field.again event.moment (fields event.kind ++ rest) fits.0, kind_again event.kind rest fits.1) refl

-- the version before them
event_takes : (bytes : List ℕ) (event : Event) (rest : List ℕ) → IsBytes bytes → event_at bytes ≡ Some (event, rest) → (bytes ≡ event_row event ++ rest) × InForm event
unfolding event_at event_row after_version
event_takes bytes event rest fits e =
    let a = read_some (byte_at bytes) (λ x. version_behind x.0 x.1) (event, rest) e in
    let one = byte_takes bytes a.0.0 a.0.1 fits a.1 in
    let fits1 = IsBytes-rest bytes (a.0.0 ∷ []) a.0.1 one.0 fits in
    chosen (eqb a.0.0 1) (first_version_at a.0.1) None (event, rest) ((bytes ≡ (1 ∷ after_version event) ++ rest) × InForm event) a.2
    (λ is found.
    let two = first_takes a.0.1 event rest fits1 found in
    (one.0 ∙ ap (λ (n : ℕ). n ∷ a.0.1) (eqb-true a.0.0 1 is) ∙ ap (λ (x : List ℕ). 1 ∷ x) two.0, two.1))
    (λ e. absurd cc)

event_again : (event : Event) (rest : List ℕ) → InForm event → event_at (event_row event ++ rest) ≡ Some (event, rest)
unfolding event_at event_row after_version
event_again event rest fits = first_again event rest fits

pub event_field : IsField event_row InForm event_at
event_field = record { takes = event_takes; again = event_again }

-- all of the bytes
pub row_takes : (bytes : List ℕ) (event : Event) → IsBytes bytes → event_of_row bytes ≡ Some event → InForm event × (bytes ≡ event_row event)
row_takes bytes event fits e =
    let one = event_takes bytes event [] fits (whole_some (event_at bytes) event e) in
    (one.1, one.0 ∙ append-nil (event_row event))

pub row_again : (event : Event) → InForm event → event_of_row (event_row event) ≡ Some event
row_again event fits =
    let found : event_at (event_row event) ≡ Some (event, []) = ap event_at (sym (append-nil (event_row event))) ∙ event_again event [] fits in
    rw found refl
