-- The scan of a text goes on from that of its front.
use Rattle.std.proofs.Common.{◌≡◌, ◌≤◌, ℕ, ◌+◌, ◌-◌, true, false, cond, eqb, List, [], ◌∷◌, length, take, drop, refl, sym, ap, ◌∙◌, arith}
use Rattle.std.specs.List.{fold}
use Rattle.std.proofs.lemmas.List.{take-append-drop}
use Rattle.std.proofs.lemmas.List.Folds.{fold_stays}
use Rattle.std.proofs.lemmas.List.Sums.{fold-append}
use Rattle.http_stream.specs.declared.scan.Line.{Line}
use Rattle.http_stream.specs.declared.scan.Scan.{Scan}
use Rattle.http_stream.specs.Lines.{line_ended, line_with, scan_of, scan_of_nothing, with_byte}

pub ended-stays : (scan : Scan) → scan.ended ≡ true → (bytes : List ℕ) → fold with_byte scan bytes ≡ scan
ended-stays scan e bytes = fold_stays with_byte scan (λ byte. rw e refl) bytes

line_ended-size : (line : Line) (filled size : ℕ) → (line_ended line filled size).size ≡ size
line_ended-size Line.Filled filled size = refl
line_ended-size Line.Nothing filled size = refl
line_ended-size Line.Return filled size = refl

byte-size : (scan : Scan) (byte : ℕ) → (with_byte scan byte).size ≤ scan.size + 1
byte-size scan byte =
    elim scan.ended as (λ v. (cond v scan (cond (eqb byte 10) (line_ended scan.line scan.filled (scan.size + 1)) (record { line = line_with scan.line byte; filled = scan.filled; size = scan.size + 1; ended = false }))).size ≤ scan.size + 1) [
      | true ↦ omega arith
      | false ↦ elim (eqb byte 10) as (λ v. (cond v (line_ended scan.line scan.filled (scan.size + 1)) (record { line = line_with scan.line byte; filled = scan.filled; size = scan.size + 1; ended = false })).size ≤ scan.size + 1) [
        | true ↦ rw line_ended-size (omega arith)
        | false ↦ omega arith
      ]
    ]

pub scan-size : (scan : Scan) (bytes : List ℕ) → (fold with_byte scan bytes).size ≤ scan.size + length bytes
scan-size scan [] = omega arith
scan-size scan (byte ∷ bytes) = omega (arith, scan-size (with_byte scan byte) bytes, byte-size scan byte)

-- the scan of a whole text goes on from that of its first bytes
pub scan-on : (text : List ℕ) (n : ℕ) → fold with_byte (scan_of (take n text)) (drop n text) ≡ scan_of text
scan-on text n = sym (fold-append with_byte scan_of_nothing (take n text) (drop n text)) ∙ ap scan_of (take-append-drop n text)
