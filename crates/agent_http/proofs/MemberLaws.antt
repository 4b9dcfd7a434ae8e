-- Tests over lists that are seen through a view, and the object that a body is.
use Rattle.std.proofs.Common.{◌≡◌, Bool, true, false, ◌||◌, List, [], ◌∷◌, ℕ, map, None, Some, ◌⊎◌, inl, inr, refl, sym, ap, subst}
use Rattle.std.specs.List.{list_any}
use Rattle.std.specs.Str.{IsUtf8, is_utf8}
use Rattle.std.proofs.lemmas.Str.{IsUtf8-from_is_utf8, is_utf8-from_IsUtf8}
use Rattle.serde_json.specs.Data.{Data}
use Rattle.serde_json.specs.Find.{as_object}
use Rattle.serde_json.specs.Read.{read}
use Rattle.request_fields.specs.Reading.{Fails}
use Rattle.request_fields.specs.declared.fault.FormFault.{FormFault}
use Rattle.request_fields.specs.declared.fault.FormFault.TheVariants as fault
use Rattle.agent_http.specs.Bodies.{asked_by_object, object_in}

pub list_any-map : {X Y : Type 0} (p : X → Bool) (h : Y → X) (ys : List Y) → list_any p (map h ys) ≡ list_any (λ y. p (h y)) ys
list_any-map p h [] = refl
list_any-map p h (y ∷ ys) = ap (λ b. p (h y) || b) (list_any-map p h ys)

-- the object of a body that reads as a value
pub object-read : (body : List ℕ) (found : Data) → IsUtf8 body → read body ≡ Some found → object_in body ≡ as_object found
object-read body found text is = rw (is_utf8-from_IsUtf8 body text, is) refl

unread-by : (body : List ℕ) (b : Bool) → is_utf8 body ≡ b → (IsUtf8 body → read body ≡ None) → object_in body ≡ None
unread-by body true e unread = rw (e, unread (IsUtf8-from_is_utf8 body e)) refl
unread-by body false e unread = rw e refl

-- a body that reads as none is no object
pub object-unread : (body : List ℕ) → (IsUtf8 body → read body ≡ None) → object_in body ≡ None
object-unread body unread = unread-by body (is_utf8 body) refl unread

-- a body that isn't read is no object
pub unread-fails : (failed : FormFault) (verb body : List ℕ) (M : Type 0) → (failed ≡ fault.NoMemory) ⊎ ((failed ≡ fault.Place 0) × M)
    → (M → object_in body ≡ None) → Fails failed (asked_by_object verb (object_in body))
unread-fails failed verb body M (inl e) none = subst (λ f. Fails f (asked_by_object verb (object_in body))) (sym e) tt
unread-fails failed verb body M (inr e) none =
    subst (λ f. Fails f (asked_by_object verb (object_in body))) (sym e.0) (ap (asked_by_object verb) (none e.1))
