-- What ends make of bytes: how many rows, the row at a place, and one more behind them.
use Rattle.std.proofs.Common.{◌≡◌, ℕ, zero, suc, ◌+◌, ◌-◌, ◌<◌, ◌≤◌, List, [], ◌∷◌, ◌++◌, length, take, drop, get_or, Some, None, refl, sym, ap, ◌∙◌, arith, subst}
use Rattle.std.specs.List.{slice_get, slice_range}
use Rattle.std.proofs.lemmas.List.{take-append-le, drop-append-le, length-drop}
use Rattle.std.proofs.lemmas.Option.{none-some}
use Rattle.std.proofs.Math.Seq.{drop-append_seam, take-length}
use Rattle.agent_keeper.specs.Packed.{rows_between, AreEnds, start_at, bytes_in}

pub rows-count : (bytes : List ℕ) (start : ℕ) (ends : List ℕ) → length (rows_between bytes start ends) ≡ length ends
rows-count bytes start [] = refl
rows-count bytes start (end ∷ ends) = ap suc (rows-count bytes end ends)

pub row-there : (bytes : List ℕ) (start : ℕ) (ends : List ℕ) (place end : ℕ) → slice_get ends place ≡ Some end
    → slice_get (rows_between bytes start ends) place ≡ Some (slice_range bytes (start_at start ends place) end)
row-there bytes start [] place end there = absurd (none-some end there)
row-there bytes start (first ∷ ends) zero end there = let same : first ≡ end = search in ap (λ e. Some (slice_range bytes start e)) same
row-there bytes start (first ∷ ends) (suc place) end there = row-there bytes first ends place end there

pub row-missing : (bytes : List ℕ) (start : ℕ) (ends : List ℕ) (place : ℕ) → slice_get ends place ≡ None
    → slice_get (rows_between bytes start ends) place ≡ None
row-missing bytes start [] place missing = refl
row-missing bytes start (first ∷ ends) zero missing = search
row-missing bytes start (first ∷ ends) (suc place) missing = row-missing bytes first ends place missing

pub ends-within : (count start : ℕ) (ends : List ℕ) → AreEnds count start ends → start ≤ count
ends-within count start [] are = omega (arith, are)
ends-within count start (end ∷ ends) are = omega (arith, are.0, ends-within count end ends are.1)

pub row-within : (count start : ℕ) (ends : List ℕ) (place end : ℕ) → AreEnds count start ends → slice_get ends place ≡ Some end
    → (start_at start ends place ≤ end) × (end ≤ count)
row-within count start [] place end are there = absurd (none-some end there)
row-within count start (first ∷ ends) zero end are there =
    let same : first ≡ end = search in
    subst (λ e. (start ≤ e) × (e ≤ count)) same (are.0, ends-within count first ends are.1)
row-within count start (first ∷ ends) (suc place) end are there = row-within count first ends place end are.1 there

pub start-is : (start : ℕ) (ends : List ℕ) (before default : ℕ) → before < length ends → start_at start ends (suc before) ≡ get_or ends before default
start-is start [] before default within = omega (arith, within)
start-is start (end ∷ ends) zero default within = refl
start-is start (end ∷ ends) (suc before) default within = start-is end ends before default (omega (arith, within))

range-kept : (bytes more : List ℕ) (start end : ℕ) → start ≤ end → end ≤ length bytes → slice_range (bytes ++ more) start end ≡ slice_range bytes start end
range-kept bytes more start end rise within =
    let starts : start ≤ length bytes = omega (arith, rise, within) in
    let rest : end - start ≤ length (drop start bytes) = omega (arith, rise, within, length-drop start bytes) in
    ap (take (end - start)) (drop-append-le start bytes more starts) ∙ take-append-le (end - start) (drop start bytes) more rest

last-range : (bytes row : List ℕ) (start : ℕ) → start ≡ length bytes → slice_range (bytes ++ row) start (length bytes + length row) ≡ row
last-range bytes row start is =
    subst (λ s. slice_range (bytes ++ row) s (length bytes + length row) ≡ row) (sym is)
    (let size : length bytes + length row - length bytes ≡ length row = omega arith in
    ap (λ n. take n (drop (length bytes) (bytes ++ row))) size ∙ ap (take (length row)) (drop-append_seam bytes row) ∙ take-length row)

pub rows-more : (bytes row : List ℕ) (start : ℕ) (ends : List ℕ) → AreEnds (length bytes) start ends
    → rows_between (bytes ++ row) start (ends ++ (length bytes + length row) ∷ []) ≡ rows_between bytes start ends ++ row ∷ []
rows-more bytes row start [] are = ap (λ r. r ∷ []) (last-range bytes row start are)
rows-more bytes row start (end ∷ ends) are =
    ap (λ r. r ∷ rows_between (bytes ++ row) end (ends ++ (length bytes + length row) ∷ [])) (range-kept bytes row start end are.0 (ends-within (length bytes) end ends are.1))
    ∙ ap (λ rows. slice_range bytes start end ∷ rows) (rows-more bytes row end ends are.1)

pub ends-more : (count more start : ℕ) (ends : List ℕ) → AreEnds count start ends → AreEnds (count + more) start (ends ++ (count + more) ∷ [])
ends-more count more start [] are = (omega (arith, are), refl)
ends-more count more start (end ∷ ends) are = (are.0, ends-more count more end ends are.1)

pub bytes-more : (rows : List (List ℕ)) (place : ℕ) (default : List ℕ) → place < length rows
    → bytes_in (drop place rows) ≡ length (get_or rows place default) + bytes_in (drop (place + 1) rows)
bytes-more [] place default within = omega (arith, within)
bytes-more (row ∷ rows) zero default within = refl
bytes-more (row ∷ rows) (suc place) default within =
    let next : suc place + 1 ≡ suc (place + 1) = omega arith in
    bytes-more rows place default (omega (arith, within)) ∙ ap (λ n. length (get_or rows place default) + bytes_in (drop n (row ∷ rows))) (sym next)
