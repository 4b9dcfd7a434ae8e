-- What a reader has reached, record by record, is what the records of the text are.
use Rattle.std.proofs.Common.{◌≡◌, ◌∙◌, ◌+◌, ℕ, ◌<◌, ◌≤◌, zero, suc, List, [], ◌∷◌, None, Option, Some, Bool, true, false, ap, length, arith, refl, sym}
use Rattle.csv.specs.Machine.{Read, ends_at_end, field_after, fields_after, is_end, next_record, step}
use Rattle.csv.specs.Reading.{AreRecords, Reached, records, records_from, records_next}
use Rattle.csv.specs.declared.parser.Config.{Config}
use Rattle.csv.specs.declared.parser.State.{State}
use Rattle.csv.specs.declared.parser.State.TheVariants as st
use Rattle.script_text.specs.Rows.{records_left}

-- at the end of a text there is no new record
none_at_end : (cfg : Config) → next_record cfg st.StartRecord [] [] [] ≡ None
unfolding next_record
none_at_end cfg = refl

-- a record that ends with its text leaves nothing, and a new record would come next
last_at_end : (cfg : Config) (s : State) (fields : List (List ℕ)) (field : List ℕ) (p : Read) → next_record cfg s fields field [] ≡ Some p → (p.1 ≡ st.StartRecord) × (p.2 ≡ [])
unfolding next_record
last_at_end cfg s fields field p e = by (ends_at_end s) refl
  where
    by : (b : Bool) → ends_at_end s ≡ b → (p.1 ≡ st.StartRecord) × (p.2 ≡ [])
    by true t = let same = rw t at e in (cc, cc)
    by false t = let same = rw t at e in cc

-- a record that begins before the end of its text takes at least a byte
shorter : (cfg : Config) (s : State) (fields : List (List ℕ)) (field : List ℕ) (c : ℕ) (rest : List ℕ) (p : Read)
    → next_record cfg s fields field (c ∷ rest) ≡ Some p → length p.2 ≤ length rest
unfolding next_record
shorter cfg s fields field c [] p e = by (is_end (step cfg s c).1) refl
  where
    by : (b : Bool) → is_end (step cfg s c).1 ≡ b → length p.2 ≤ 0
    by true t =
        let same = rw t at e in
        let none : p.2 ≡ [] = cc in rw none (omega arith)
    by false t =
        let none = (last_at_end cfg _ _ _ p (rw t at e)).1 in rw none (omega arith)
shorter cfg s fields field c (d ∷ rest) p e = by (is_end (step cfg s c).1) refl (shorter cfg (step cfg s c).0 _ _ d rest p)
  where
    by : (b : Bool) → is_end (step cfg s c).1 ≡ b
        → (next_record cfg (step cfg s c).0 (fields_after (step cfg s c).1 fields field) (field_after (step cfg s c).1 c field) (d ∷ rest) ≡ Some p → length p.2 ≤ length rest)
        → length p.2 ≤ suc (length rest)
    by true t more =
        let same = rw t at e in
        let all : p.2 ≡ d ∷ rest = cc in rw all (omega arith)
    by false t more =
        let less = more (rw t at e) in omega arith

-- no record follows the end of a text
end_reached : (cfg : Config) (n : ℕ) (rows : List (List (List ℕ))) (s2 : State) (ys : List ℕ) → Reached cfg st.StartRecord [] rows s2 ys → records_from cfg n st.StartRecord [] ≡ rows
unfolding Reached records_from
end_reached cfg zero [] s2 ys r = refl
end_reached cfg (suc n) [] s2 ys r = rw (none_at_end cfg) refl
end_reached cfg n (row ∷ rows) s2 ys r =
    let some = r.1 in
    let none = none_at_end cfg in cc

-- records that were reached, and after which there is none, are all the records of a text
all_reached : (cfg : Config) (n : ℕ) (s : State) (xs : List ℕ) (rows : List (List (List ℕ))) (s2 : State) (ys : List ℕ)
    → length xs < n → Reached cfg s xs rows s2 ys → next_record cfg s2 [] [] ys ≡ None → records_from cfg n s xs ≡ rows
unfolding Reached records_from
all_reached cfg zero s xs rows s2 ys fits r none = absurd (omega arith)
all_reached cfg (suc n) s xs [] s2 ys fits r none = rw (r.0, r.1, none) refl
all_reached cfg (suc n) s [] (row ∷ rows) s2 ys fits r none =
    let last = last_at_end cfg s [] [] r.0 r.1 in
    let tail : records_from cfg n r.0.1 r.0.2 ≡ rows = rw (last.0, last.1) (end_reached cfg n rows s2 ys (rw (last.0, last.1) at r.3)) in
    rw (r.1, r.2, tail) refl
all_reached cfg (suc n) s (c ∷ xs) (row ∷ rows) s2 ys fits r none =
    let less = shorter cfg s [] [] c xs r.0 r.1 in
    let tail : records_from cfg n r.0.1 r.0.2 ≡ rows = all_reached cfg n r.0.1 r.0.2 rows s2 ys (omega arith) r.3 none in
    rw (r.1, r.2, tail) refl

-- what is told of all records of a text is the records of that text
pub records-all : (cfg : Config) (xs : List ℕ) (rows : List (List (List ℕ))) → AreRecords cfg st.StartRecord xs rows → records cfg xs ≡ rows
records-all cfg xs rows a = all_reached cfg _ st.StartRecord xs rows a.0 a.1 (omega arith) a.2 a.3

-- at the end of a text any number of turns reads nothing
nothing_left : (cfg : Config) (n : ℕ) → records_from cfg n st.StartRecord [] ≡ []
unfolding records_from
nothing_left cfg zero = refl
nothing_left cfg (suc n) = rw (none_at_end cfg) refl

-- any number of turns above the length of a text reads all its records
abbrev AlikeFrom : Config → ℕ → ℕ → Type 0
AlikeFrom cfg n m = (s : State) (xs : List ℕ) → length xs < n → length xs < m → records_from cfg n s xs ≡ records_from cfg m s xs

rest_alike : (cfg : Config) (n m : ℕ) (s : State) (xs : List ℕ) (p : Read) → AlikeFrom cfg n m → length xs ≤ n → length xs ≤ m → next_record cfg s [] [] xs ≡ Some p
    → records_from cfg n p.1 p.2 ≡ records_from cfg m p.1 p.2
rest_alike cfg n m s [] p alike a b e =
    let last = last_at_end cfg s [] [] p e in
    rw (last.0, last.1) (nothing_left cfg n ∙ sym (nothing_left cfg m))
rest_alike cfg n m s (c ∷ ys) p alike a b e =
    let less = shorter cfg s [] [] c ys p e in
    alike p.1 p.2 (omega (arith, less, a)) (omega (arith, less, b))

next_alike : (cfg : Config) (n m : ℕ) (s : State) (xs : List ℕ) (found : Option Read) → AlikeFrom cfg n m → length xs ≤ n → length xs ≤ m → next_record cfg s [] [] xs ≡ found
    → records_next (records_from cfg n) found ≡ records_next (records_from cfg m) found
next_alike cfg n m s xs None alike a b e = refl
next_alike cfg n m s xs (Some p) alike a b e = ap (λ rows. p.0 ∷ rows) (rest_alike cfg n m s xs p alike a b e)

enough_turns : (cfg : Config) (n m : ℕ) → AlikeFrom cfg n m
unfolding records_from
enough_turns cfg zero m s xs a b = absurd (omega arith)
enough_turns cfg (suc n) zero s xs a b = absurd (omega arith)
enough_turns cfg (suc n) (suc m) s xs a b =
    next_alike cfg n m s xs (next_record cfg s [] [] xs) (enough_turns cfg n m) (omega arith) (omega arith) refl

-- the records of what is left begin with the next record, and those behind it follow
turns_behind : (cfg : Config) (s : State) (xs : List ℕ) (p : Read) → next_record cfg s [] [] xs ≡ Some p → records_from cfg (length xs) p.1 p.2 ≡ records_left cfg p.1 p.2
turns_behind cfg s [] p e =
    let last = last_at_end cfg s [] [] p e in
    rw (last.0, last.1) (nothing_left cfg 0 ∙ sym (nothing_left cfg 1))
turns_behind cfg s (c ∷ ys) p e =
    let less = shorter cfg s [] [] c ys p e in
    enough_turns cfg (suc (length ys)) (length p.2 + 1) p.1 p.2 (omega (arith, less)) (omega arith)

one_more : (n : ℕ) → n + 1 ≡ suc n
one_more n = omega arith

left_by : (cfg : Config) (s : State) (xs : List ℕ) → records_left cfg s xs ≡ records_next (records_from cfg (length xs)) (next_record cfg s [] [] xs)
unfolding records_from
left_by cfg s xs = ap (λ turns. records_from cfg turns s xs) (one_more (length xs))

pub records-next : (cfg : Config) (s : State) (xs : List ℕ) (p : Read) → next_record cfg s [] [] xs ≡ Some p → records_left cfg s xs ≡ p.0 ∷ records_left cfg p.1 p.2
records-next cfg s xs p e =
    left_by cfg s xs ∙ (ap (records_next (records_from cfg (length xs))) e ∙ ap (λ rows. p.0 ∷ rows) (turns_behind cfg s xs p e))

-- where there is no next record none is left
pub records-none : (cfg : Config) (s : State) (xs : List ℕ) → next_record cfg s [] [] xs ≡ None → records_left cfg s xs ≡ []
records-none cfg s xs e = left_by cfg s xs ∙ ap (records_next (records_from cfg (length xs))) e
