-- A list that is written item by item.
use Rattle.std.proofs.Common.{◌≡◌, ℕ, zero, suc, ◌+◌, ◌<◌, List, [], ◌∷◌, ◌++◌, length, get_or, take, refl, sym, ap, ◌∙◌, append_assoc, arith}
use Rattle.std.specs.List.{join_with_byte}
use Rattle.std.proofs.lemmas.List.{take_more}

-- the texts so far and one more, with a byte between
abbrev pub apart : ℕ → List (List ℕ) → List ℕ
apart c [] = []
apart c (x ∷ xs) = join_with_byte c (x ∷ xs) ++ c ∷ []

pub join-push : (c : ℕ) (xs : List (List ℕ)) (x : List ℕ) → join_with_byte c (xs ++ x ∷ []) ≡ apart c xs ++ x
join-push c [] x = refl
join-push c (y ∷ []) x = sym (append_assoc y (c ∷ []) x)
join-push c (y ∷ z ∷ xs) x = rw (join-push c (z ∷ xs) x) (simp append_assoc)

apart_some : (c : ℕ) (xs : List (List ℕ)) (i : ℕ) → 0 < i → i < length xs
    → apart c (take i xs) ≡ join_with_byte c (take i xs) ++ c ∷ []
apart_some c [] i some inside = absurd (omega arith)
apart_some c (x ∷ xs) zero some inside = absurd (omega arith)
apart_some c (x ∷ xs) (suc i) some inside = refl

pub joined-more : (c : ℕ) (xs : List (List ℕ)) (i : ℕ) (x : List ℕ) → i < length xs → x ≡ get_or xs i x
    → join_with_byte c (take (i + 1) xs) ≡ apart c (take i xs) ++ x
joined-more c xs i x inside at = rw (take_more xs i x inside, ← at) (join-push c (take i xs) x)

-- the first text, and each next one behind the byte
pub joined-first : (c : ℕ) (xs : List (List ℕ)) (i : ℕ) (x : List ℕ) → i ≡ 0 → i < length xs → x ≡ get_or xs i x
    → join_with_byte c (take (i + 1) xs) ≡ join_with_byte c (take i xs) ++ x
joined-first c xs i x none inside at = rw (joined-more c xs i x inside at, none) refl

pub joined-next : (c : ℕ) (xs : List (List ℕ)) (i : ℕ) (x : List ℕ) → 0 < i → i < length xs → x ≡ get_or xs i x
    → join_with_byte c (take (i + 1) xs) ≡ (join_with_byte c (take i xs) ++ c ∷ []) ++ x
joined-next c xs i x some inside at = joined-more c xs i x inside at ∙ ap (λ (front : List ℕ). front ++ x) (apart_some c xs i some inside)
