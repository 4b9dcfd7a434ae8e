-- How exact fields are put together: two after each other, a value made of parts, a test, a tag, a list behind its count.
use Rattle.std.proofs.Common.{◌≡◌, ℕ, zero, suc, ◌<◌, Bool, true, false, cond, eqb, List, [], ◌∷◌, ◌++◌, length, Option, Some, None, refl, sym, ap, subst, ◌∙◌, append_assoc, arith}
use Rattle.std.specs.Prelude.{option_map, option_and_then}
use Rattle.std.specs.List.{flat_map, AllByRecursion}
use Rattle.std.proofs.lemmas.Bool.{eqb-true}
use Rattle.std.proofs.lemmas.Option.{some_pair_parts, same_Some}
use Rattle.std.proofs.lemmas.List.{nil_from_length}
use Rattle.std.proofs.lemmas.List.Concat.{flat_map-cons}
use Rattle.event_rows.specs.Exact.{IsBytes, IsField}
use Rattle.event_rows.specs.FieldReading.{◌&◌, map_read, kept, behind, byte_at, with_front, items_at, if_whole}
use Rattle.event_rows.specs.Spelling.{one_byte}

-- what stands behind bytes is bytes
pub IsBytes-behind : (text rest : List ℕ) → IsBytes (text ++ rest) → IsBytes rest
IsBytes-behind [] rest fits = fits
IsBytes-behind (byte ∷ text) rest fits = IsBytes-behind text rest (λ i. fits (suc i))

pub IsBytes-rest : (bytes text rest : List ℕ) → bytes ≡ text ++ rest → IsBytes bytes → IsBytes rest
IsBytes-rest bytes text rest parts fits = IsBytes-behind text rest (subst (λ (all : List ℕ). IsBytes all) parts fits)

-- the value of a step that read something
pub read_some : {A B : Type 0} (r : Option A) (f : A → Option B) (y : B) → option_and_then f r ≡ Some y → (x : A) × (r ≡ Some x) × (f x ≡ Some y)
read_some (Some x) f y e = (x, refl, e)
read_some None f y e = absurd cc

pub map_some : {A B : Type 0} (r : Option A) (f : A → B) (y : B) → option_map f r ≡ Some y → (x : A) × (r ≡ Some x) × (f x ≡ y)
map_some (Some x) f y e = (x, refl, cc)
map_some None f y e = absurd cc

pub test_some : {A : Type 0} (b : Bool) (x y : A) → cond b (Some x) None ≡ Some y → (b ≡ true) × (x ≡ y)
test_some true x y e = (refl, cc)
test_some false x y e = absurd cc

-- a value behind which nothing stands
pub whole_some : {A : Type 0} (o : Option (A × List ℕ)) (x : A) → if_whole o ≡ Some x → o ≡ Some (x, [])
whole_some None x e = absurd cc
whole_some (Some y) x e =
    let g = test_some (eqb (length y.1) 0) y.0 x e in
    let nothing : y.1 ≡ [] = nil_from_length y.1 (eqb-true _ _ g.0) in
    rw (← g.1, ← nothing) refl

-- one field and then another
pub both : {A B : Type 0} {s : A → List ℕ} {f : A → Type 0} {r : List ℕ → Option (A × List ℕ)} {t : B → List ℕ} {g : B → Type 0} {q : List ℕ → Option (B × List ℕ)}
    → IsField s f r → IsField t g q → IsField (λ (p : A × B). s p.0 ++ t p.1) (λ (p : A × B). f p.0 × g p.1) (r & q)
both {A = A} {B = B} {s = s} {f = f} {r = r} {t = t} {g = g} {q = q} first second = record {
  takes = λ bytes p rest fits e.
      let a = read_some (r bytes) (λ x. option_map (λ y. ((x.0, y.0), y.1)) (q x.1)) (p, rest) e in
      let b = map_some (q a.0.1) (λ (y : B × List ℕ). ((a.0.0, y.0), y.1)) (p, rest) a.2 in
      let one = first.takes bytes a.0.0 a.0.1 fits a.1 in
      let two = second.takes a.0.1 b.0.0 b.0.1 (IsBytes-rest bytes (s a.0.0) a.0.1 one.0 fits) b.1 in
      let whole : bytes ≡ (s a.0.0 ++ t b.0.0) ++ b.0.1 = one.0 ∙ ap (λ (x : List ℕ). s a.0.0 ++ x) two.0 ∙ sym (append_assoc (s a.0.0) (t b.0.0) b.0.1) in
      subst (λ (y : (A × B) × List ℕ). (bytes ≡ (s y.0.0 ++ t y.0.1) ++ y.1) × (f y.0.0 × g y.0.1)) b.2 (whole, (one.1, two.1));
  again = λ p rest fits.
      let regrouped : (s p.0 ++ t p.1) ++ rest ≡ s p.0 ++ (t p.1 ++ rest) = append_assoc (s p.0) (t p.1) rest in
      ap (r & q) regrouped ∙ rw (first.again p.0 (t p.1 ++ rest) fits.0, second.again p.1 rest fits.1) refl;
}

-- a value that is made of what is read
pub shaped : {A B : Type 0} {s : A → List ℕ} {f : A → Type 0} {r : List ℕ → Option (A × List ℕ)} (make : A → B) (parts : B → A)
    → ((b : B) → f (parts b) → make (parts b) ≡ b) → ((a : A) → f a → parts (make a) ≡ a)
    → IsField s f r → IsField (λ b. s (parts b)) (λ b. f (parts b)) (map_read make r)
shaped {A = A} {B = B} {s = s} {f = f} {r = r} make parts back forth field = record {
  takes = λ bytes y rest fits e.
      let a = map_some (r bytes) (λ (x : A × List ℕ). (make x.0, x.1)) (y, rest) e in
      let one = field.takes bytes a.0.0 a.0.1 fits a.1 in
      let same : parts (make a.0.0) ≡ a.0.0 = forth a.0.0 one.1 in
      subst (λ (z : B × List ℕ). (bytes ≡ s (parts z.0) ++ z.1) × f (parts z.0)) a.2 (subst (λ (x : A). (bytes ≡ s x ++ a.0.1) × f x) (sym same) one);
  again = λ y rest fits. rw (field.again (parts y) rest fits, back y fits) refl;
}

-- a value that passes a test
pub tested : {A : Type 0} {s : A → List ℕ} {f : A → Type 0} {r : List ℕ → Option (A × List ℕ)} (test : A → Bool) → IsField s f r → IsField s (λ x. f x × (test x ≡ true)) (kept test r)
tested {A = A} {s = s} {f = f} {r = r} test field = record {
  takes = λ bytes y rest fits e.
      let a = read_some (r bytes) (λ x. cond (test x.0) (Some x) None) (y, rest) e in
      let b = test_some (test a.0.0) a.0 (y, rest) a.2 in
      let one = field.takes bytes a.0.0 a.0.1 fits a.1 in
      subst (λ (z : A × List ℕ). (bytes ≡ s z.0 ++ z.1) × (f z.0 × (test z.0 ≡ true))) b.1 (one.0, (one.1, b.0));
  again = λ y rest fits. rw (field.again y rest fits.0, fits.1) refl;
}

-- the same field, its range in other words
pub in_words : {A : Type 0} {s : A → List ℕ} {f g : A → Type 0} {r : List ℕ → Option (A × List ℕ)} → ((x : A) → f x → g x) → ((x : A) → g x → f x) → IsField s f r → IsField s g r
in_words to from field = record {
  takes = λ bytes x rest fits e. let one = field.takes bytes x rest fits e in (one.0, to x one.1);
  again = λ x rest fits. field.again x rest (from x fits);
}

-- a byte
pub byte_takes : (bytes : List ℕ) (n : ℕ) (rest : List ℕ) → IsBytes bytes → byte_at bytes ≡ Some (n, rest) → (bytes ≡ one_byte n ++ rest) × (n < 256)
byte_takes [] n rest fits e = absurd cc
byte_takes (byte ∷ bytes) n rest fits e =
    let same = some_pair_parts byte n bytes rest e in
    (rw (same.0, same.1) refl, omega (arith, fits 0, same.0))

pub byte_field : IsField one_byte (λ n. n < 256) byte_at
byte_field = record {
  takes = byte_takes;
  again = λ n rest fits. refl;
}

-- what stands behind a tag that says how to read it
pub tagged : {A : Type 0} (tag : A → ℕ) (fields : A → List ℕ) (f : A → Type 0) (read : ℕ → List ℕ → Option (A × List ℕ))
    → ((x : A) → f x → tag x < 256)
    → ((n : ℕ) (bytes : List ℕ) (x : A) (rest : List ℕ) → IsBytes bytes → read n bytes ≡ Some (x, rest) → (bytes ≡ fields x ++ rest) × f x × (tag x ≡ n))
    → ((x : A) (rest : List ℕ) → f x → read (tag x) (fields x ++ rest) ≡ Some (x, rest))
    → IsField (λ x. tag x ∷ fields x) f (λ bytes. behind read (byte_at bytes))
tagged tag fields f read small takes again = record {
  takes = λ bytes x rest fits e.
      let a = read_some (byte_at bytes) (λ t. read t.0 t.1) (x, rest) e in
      let one = byte_takes bytes a.0.0 a.0.1 fits a.1 in
      let two = takes a.0.0 a.0.1 x rest (IsBytes-rest bytes (a.0.0 ∷ []) a.0.1 one.0 fits) a.2 in
      (one.0 ∙ rw (two.0, ← two.2) refl, two.1);
  again = λ x rest fits. again x rest fits;
}

-- ---- a choice by a tag

pub chosen : {A : Type 0} (b : Bool) (x y : Option A) (z : A) (P : Type 0) → cond b x y ≡ Some z → (b ≡ true → x ≡ Some z → P) → (y ≡ Some z → P) → P
chosen true x y z P e here there = here refl e
chosen false x y z P e here there = there e

-- ---- a list behind its count

pub items_take : {A : Type 0} {s : A → List ℕ} {f : A → Type 0} {r : List ℕ → Option (A × List ℕ)} → IsField s f r
    → (count : ℕ) (bytes : List ℕ) (xs : List A) (rest : List ℕ) → IsBytes bytes → items_at r count bytes ≡ Some (xs, rest)
    → (bytes ≡ flat_map s xs ++ rest) × (length xs ≡ count) × AllByRecursion f xs
unfolding items_at
items_take {A = A} {s = s} {f = f} {r = r} field zero bytes xs rest fits e =
    subst (λ (y : List A × List ℕ). (bytes ≡ flat_map s y.0 ++ y.1) × (length y.0 ≡ 0) × AllByRecursion f y.0) (same_Some ([], bytes) (xs, rest) e) (refl, refl, tt)
items_take {A = A} {s = s} {f = f} {r = r} field (suc count) bytes xs rest fits e =
    let a = read_some (r bytes) (λ first. with_front (first.0 ∷ []) (items_at r count first.1)) (xs, rest) e in
    let b = map_some (items_at r count a.0.1) (λ (x : List A × List ℕ). (a.0.0 ∷ x.0, x.1)) (xs, rest) a.2 in
    let one = field.takes bytes a.0.0 a.0.1 fits a.1 in
    let two = items_take field count a.0.1 b.0.0 b.0.1 (IsBytes-rest bytes (s a.0.0) a.0.1 one.0 fits) b.1 in
    let whole : bytes ≡ (s a.0.0 ++ flat_map s b.0.0) ++ b.0.1 = one.0 ∙ ap (λ (x : List ℕ). s a.0.0 ++ x) two.0 ∙ sym (append_assoc (s a.0.0) (flat_map s b.0.0) b.0.1) in
    subst (λ (y : List A × List ℕ). (bytes ≡ flat_map s y.0 ++ y.1) × (length y.0 ≡ suc count) × AllByRecursion f y.0) b.2 (rw flat_map-cons whole, ap suc two.1, (one.1, two.2))

pub items_again : {A : Type 0} {s : A → List ℕ} {f : A → Type 0} {r : List ℕ → Option (A × List ℕ)} → IsField s f r
    → (xs : List A) (rest : List ℕ) → AllByRecursion f xs → items_at r (length xs) (flat_map s xs ++ rest) ≡ Some (xs, rest)
unfolding items_at
items_again field [] rest fits = refl
items_again {s = s} {r = r} field (x ∷ xs) rest fits =
    let regrouped : flat_map s (x ∷ xs) ++ rest ≡ s x ++ (flat_map s xs ++ rest) = ap (λ (y : List ℕ). y ++ rest) (flat_map-cons s x xs) ∙ append_assoc (s x) (flat_map s xs) rest in
    ap (items_at r (suc (length xs))) regrouped ∙ rw (field.again x (flat_map s xs ++ rest) fits.0, items_again field xs rest fits.1) refl

-- ---- what is exact has one reading, and no spelling begins another

pub one_reading : {A : Type 0} {s : A → List ℕ} {f : A → Type 0} {r : List ℕ → Option (A × List ℕ)} → IsField s f r
    → (x y : A) (rest more : List ℕ) → f x → f y → s x ++ rest ≡ s y ++ more → (x ≡ y) × (rest ≡ more)
one_reading {r = r} field x y rest more fits suits same =
    some_pair_parts x y rest more (sym (field.again x rest fits) ∙ ap r same ∙ field.again y more suits)
