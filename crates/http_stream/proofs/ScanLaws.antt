-- The scan of a line in one step is the scan of its bytes.
use Rattle.std.proofs.Common.{◌≡◌, ◌≤◌, ◌<◌, ℕ, zero, suc, ◌+◌, Bool, true, false, cond, eqb, List, [], ◌∷◌, length, length-drop, ◌-◌, take, drop, get_or, Option, Some, None, inr, refl, sym, subst, ap, ◌∙◌, arith, tests, rules}
use Rattle.std.specs.Prelude.{slice_index}
use Rattle.std.specs.List.{fold}
use Rattle.std.proofs.lemmas.List.{get_or-take, length-take-le, take_all, take-append-drop}
use Rattle.std.proofs.lemmas.List.Folds.{fold_stays}
use Rattle.std.proofs.lemmas.List.Sums.{fold-append, fold_more}
use Rattle.memchr.specs.Find.{IsFirstByte, Nowhere, Passes, is_byte}
use Rattle.http_stream.specs.declared.scan.Line.{Line}
use Rattle.http_stream.specs.declared.scan.Scan.{Scan}
use Rattle.http_stream.specs.Lines.{line_ended, line_with, with_byte}
use Rattle.http_stream.specs.Scanning.{EndsAs, IsOneLine}

two-fill : (line : Line) (a b : ℕ) → line_with (line_with line a) b ≡ Line.Filled
two-fill Line.Nothing a b = elim (eqb a 13) as (λ v. line_with (cond v Line.Return Line.Filled) b ≡ Line.Filled) [
  | true ↦ refl
  | false ↦ refl
]
two-fill Line.Return a b = refl
two-fill Line.Filled a b = refl

-- a line with two bytes or more is filled
pub long_fills : (line : Line) (text : List ℕ) → 2 ≤ length text → Line.Filled ≡ fold line_with line text
long_fills line [] e = absurd (omega (arith, e))
long_fills line (a ∷ []) e = absurd (omega (arith, e))
long_fills line (a ∷ b ∷ text) e =
    sym (ap (λ l. fold line_with l text) (two-fill line a b) ∙ fold_stays line_with Line.Filled (λ byte. refl) text)

abbrev sized : Scan → Line → ℕ → Scan
sized scan line size = record { line = line; filled = scan.filled; size = size; ended = false }

-- a scan with so many bytes more of its present line
abbrev pub part_of : Scan → Line → ℕ → Scan
part_of scan line n = record { line = line; filled = scan.filled; size = scan.size + n; ended = false }

byte-part : (scan : Scan) (line : Line) (n byte : ℕ) → eqb byte 10 ≡ false → with_byte (part_of scan line n) byte ≡ part_of scan (line_with line byte) (n + 1)
byte-part scan line n byte e =
    let same : scan.size + n + 1 ≡ scan.size + (n + 1) = omega arith in
    rw e (rw same refl)

false-of : (b : Bool) → ¬ (b ≡ true) → b ≡ false
false-of true n = absurd (n refl)
false-of false n = refl

abbrev with_ended : Scan → Bool → Scan
with_ended scan v = record { line = scan.line; filled = scan.filled; size = scan.size; ended = v }

open-is : (scan : Scan) → scan.ended ≡ false → scan ≡ part_of scan scan.line 0
open-is scan e =
    let same : scan.size ≡ scan.size + 0 = omega arith in
    ap (with_ended scan) e ∙ ap (sized scan scan.line) same

-- the first bytes of a text, where no line feed is among them
abbrev pub Part : Scan → List ℕ → ℕ → Type 0
Part scan text k = fold with_byte scan (take k text) ≡ part_of scan (fold line_with scan.line (take k text)) k

pub part-at : (scan : Scan) (text : List ℕ) (k : ℕ) → scan.ended ≡ false → k ≤ length text → Nowhere (Passes (is_byte 10) text) 0 k
    → Part scan text k
part-at scan text zero e le none = open-is scan e
part-at scan text (suc k) e le none =
    let lt : k < length text = omega (arith, le) in
    let other = false-of (eqb (get_or text k 0) 10) (none k (omega arith) (omega arith)) in
    let next : k + 1 ≡ suc k = omega arith in
    subst (Part scan text) next (
    fold_more with_byte scan text k 0 lt
    ∙ ap (λ s. with_byte s (get_or text k 0)) (part-at scan text k e (omega (arith, le)) (λ j low high. none j low (omega (arith, high))))
    ∙ byte-part scan (fold line_with scan.line (take k text)) k (get_or text k 0) other
    ∙ ap (λ l. part_of scan l (k + 1)) (sym (fold_more line_with scan.line text k 0 lt)))

-- the scan with a text behind it that is a part of one line
pub line_part : (scan : Scan) (text : List ℕ) → scan.ended ≡ false → IsOneLine text
    → fold with_byte scan text ≡ part_of scan (fold line_with scan.line text) (length text)
line_part scan text e one =
    let all : take (length text) text ≡ text = take_all (length text) text (omega arith) in
    subst (λ t. fold with_byte scan t ≡ part_of scan (fold line_with scan.line t) (length text)) all (part-at scan text (length text) e (omega arith) one)

-- behind the end of a text nothing counts
pub ended_part : (scan : Scan) (text : List ℕ) → scan.ended ≡ true → scan ≡ fold with_byte scan text
ended_part scan text e = sym (fold_stays with_byte scan (λ byte. rw e refl) text)

-- a line feed behind such a text
pub line_fed : (scan : Scan) (text : List ℕ) → scan.ended ≡ false → IsOneLine text
    → line_ended (fold line_with scan.line text) scan.filled (scan.size + length text + 1) ≡ with_byte (fold with_byte scan text) 10
line_fed scan text e one = sym (ap (λ s. with_byte s 10) (line_part scan text e one))

front-one : (rest : List ℕ) (k : ℕ) → k ≤ length rest → Nowhere (Passes (is_byte 10) rest) 0 k → IsOneLine (take k rest)
front-one rest k le none j low high passes =
    let lt : j < k = omega (arith, high, length-take-le k rest le) in
    none j low lt (ap (λ b. eqb b 10) (sym (get_or-take k rest j 0 lt)) ∙ passes)

is-ten : (b : ℕ) → eqb b 10 ≡ true → b ≡ 10
is-ten b e = search (rules, tests, e)

-- where a search for a line feed finds the end of the present line
pub ends_as : (scan : Scan) (rest : List ℕ) (found : Option ℕ) → scan.ended ≡ false → IsFirstByte (is_byte 10) rest found → EndsAs scan rest found
ends_as scan rest None e first = inr first
ends_as scan rest (Some at) e first =
    (e, first.0.high, is-ten (slice_index rest at) first.1, front-one rest at (omega (arith, first.0.high)) first.0.before)

-- what is left goes on from the scan of a line
pub line_more : (scan next : Scan) (rest : List ℕ) (at : ℕ) → at < length rest → slice_index rest at ≡ 10 → next ≡ with_byte (fold with_byte scan (take at rest)) 10
    → fold with_byte next (drop (at + 1) rest) ≡ fold with_byte scan rest
line_more scan next rest at lt feed is =
    ap (λ s. fold with_byte s (drop (at + 1) rest))
    (is ∙ sym (ap (with_byte (fold with_byte scan (take at rest))) feed) ∙ sym (fold_more with_byte scan rest at 0 lt))
    ∙ sym (fold-append with_byte scan (take (at + 1) rest) (drop (at + 1) rest))
    ∙ ap (fold with_byte scan) (take-append-drop (at + 1) rest)

pub line_moves : (size next all : ℕ) (rest : List ℕ) (at : ℕ) → at < length rest → next ≡ size + length (take at rest) + 1 → size + length rest ≡ all
    → next + length (drop (at + 1) rest) ≡ all
line_moves size next all rest at lt is sum =
    omega (arith, is, sum, lt, length-take-le at rest (omega (arith, lt)), length-drop (at + 1) rest)
