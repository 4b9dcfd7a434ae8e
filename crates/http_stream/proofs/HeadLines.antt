-- A head of the grammar is the text of a head by its lines: both end at the same place.
use Rattle.std.proofs.Common.{◌≡◌, ◌≤◌, ◌<◌, ℕ, suc, ◌+◌, Bool, true, false, eqb, ltb, List, [], ◌∷◌, ◌++◌, length, take, drop, refl, sym, ap, subst, ◌∙◌, arith, append_assoc, length-append}
use Rattle.std.specs.Prelude.{All, codes, slice_index, slice_index_or}
use Rattle.std.specs.List.{flat_map, fold}
use Rattle.std.proofs.lemmas.List.{append-nil, take-append-drop}
use Rattle.std.proofs.lemmas.List.Concat.{flat_map-cons}
use Rattle.std.proofs.lemmas.List.Elements.{All-append, All-cons, All-nil}
use Rattle.std.proofs.lemmas.List.Sums.{fold-append}
use Rattle.std.proofs.lemmas.Bool.Decides.{nat_tests}
use Rattle.std.proofs.Math.Seq.{take-append_seam}
use Rattle.httparse.specs.Grammar.{AllPass, Field, IsField, IsRequestHead, LineEnd, RequestHead, crlf, lf, is_token_byte, is_uri_byte, is_value_byte, print_blank, print_end, print_field, print_request, print_version}
use Rattle.httparse.proofs.GrammarLemmas.{print_request-append}
use Rattle.http_stream.specs.declared.scan.Line.{Line}
use Rattle.http_stream.specs.declared.scan.Scan.{Scan}
use Rattle.http_stream.specs.Lines.{Front, front, head_limit, line_ended, scan_of, scan_of_nothing, with_byte}
use Rattle.http_stream.specs.Scanning.{IsOneLine}
use Rattle.http_stream.specs.Stream.{Begins, Shown, Shows}
use Rattle.http_stream.proofs.LineLaws.{ended-stays}
use Rattle.http_stream.proofs.ScanLaws.{line_fed, long_fills}

abbrev NoFeed : List ℕ → Type 0
NoFeed text = All (λ b. eqb b 10 ≡ false) text

-- so many filled lines of so many bytes, and nothing of a further line
abbrev at_line : ℕ → ℕ → Scan
at_line filled size = record { line = Line.Nothing; filled = filled; size = size; ended = false }

abbrev at_end : ℕ → ℕ → Scan
at_end filled size = record { line = Line.Nothing; filled = filled; size = size; ended = true }

one-line : (text : List ℕ) → NoFeed text → IsOneLine text
one-line text none k low high passes =
    let other : eqb (slice_index text k) 10 ≡ false = none k 0 high in
    absurd (let e : true ≡ false = sym passes ∙ other in cc)

fed : (filled size : ℕ) (text : List ℕ) → NoFeed text → 2 ≤ length text
    → fold with_byte (at_line filled size) (text ++ 10 ∷ []) ≡ at_line (filled + 1) (size + length text + 1)
fed filled size text none two =
    fold-append with_byte (at_line filled size) text (10 ∷ [])
    ∙ sym (line_fed (at_line filled size) text refl (one-line text none))
    ∙ ap (λ line. line_ended line filled (size + length text + 1)) (sym (long_fills Line.Nothing text two))

-- a line of two bytes or more with its end
filled-line : (filled size : ℕ) (text : List ℕ) (e : LineEnd) → NoFeed text → 2 ≤ length text
    → fold with_byte (at_line filled size) (text ++ print_end e) ≡ at_line (filled + 1) (size + length (text ++ print_end e))
filled-line filled size text lf none two =
    fed filled size text none two ∙ ap (at_line (filled + 1)) (rw length-append (omega arith))
filled-line filled size text crlf none two =
    ap (fold with_byte (at_line filled size)) (sym (append_assoc text (13 ∷ []) (10 ∷ [])))
    ∙ fed filled size (text ++ 13 ∷ []) (All-append (λ b. eqb b 10 ≡ false) text (13 ∷ []) none (All-cons (λ b. eqb b 10 ≡ false) 13 [] refl (All-nil (λ b. eqb b 10 ≡ false)))) (rw length-append (omega arith))
    ∙ ap (at_line (filled + 1)) (rw (length-append, length-append) (omega arith))

-- the empty line that ends a head
last-line : (filled size : ℕ) (e : LineEnd) → 0 < filled → fold with_byte (at_line filled size) (print_end e) ≡ at_end filled (size + length (print_end e))
last-line filled size lf some =
    let test : ltb 0 filled ≡ true = grind (arith, nat_tests) in
    rw test refl
last-line filled size crlf some =
    let test : ltb 0 filled ≡ true = grind (arith, nat_tests) in
    let sum : size + 1 + 1 ≡ size + 2 = omega arith in
    rw (test, sum) refl

-- the empty lines before a head
blank-lines : (size : ℕ) (ends : List LineEnd) → fold with_byte (at_line 0 size) (print_blank ends) ≡ at_line 0 (size + length (print_blank ends))
blank-lines size [] = ap (at_line 0) (omega arith)
blank-lines size (lf ∷ ends) = blank-lines (size + 1) ends ∙ ap (at_line 0) (omega arith)
blank-lines size (crlf ∷ ends) = blank-lines (size + 1 + 1) ends ∙ ap (at_line 0) (omega arith)

passes-append : (a b : List ℕ) → NoFeed a → NoFeed b → NoFeed (a ++ b)
passes-append a b = All-append (λ b. eqb b 10 ≡ false) a b

passes-cons : (b : ℕ) (text : List ℕ) → eqb b 10 ≡ false → NoFeed text → NoFeed (b ∷ text)
passes-cons b text = All-cons (λ b. eqb b 10 ≡ false) b text

false-of : (b : Bool) → ¬ (b ≡ true) → b ≡ false
false-of true n = absurd (n refl)
false-of false n = refl

-- the bytes of a class that has no line feed
no-feed : (test : ℕ → Bool) (text : List ℕ) → test 10 ≡ false → AllPass test text → NoFeed text
no-feed test text out all k d lt =
    false-of (eqb (slice_index_or text k d) 10) (λ same.
    let is : slice_index_or text k d ≡ 10 = grind (arith, nat_tests) in
    let passes : test (slice_index_or text k d) ≡ true = all k d lt in
    let e : true ≡ false = sym passes ∙ ap test is ∙ out in cc)

token-feed : is_token_byte 10 ≡ false
unfolding is_token_byte
token-feed = refl

field-line : (filled size : ℕ) (field : Field) → IsField field
    → fold with_byte (at_line filled size) (print_field field) ≡ at_line (filled + 1) (size + length (print_field field))
field-line filled size field is =
    let text = field.name ++ 58 ∷ field.raw in
    let none = passes-append field.name (58 ∷ field.raw) (no-feed is_token_byte field.name token-feed is.name.1)
    (passes-cons 58 field.raw refl (no-feed is_value_byte field.raw refl is.raw)) in
    let two : 2 ≤ length text = rw length-append (omega (arith, is.name.0)) in
    filled-line filled size text field.end none two

field-lines : (filled size : ℕ) (fields : List Field) → All IsField fields
    → fold with_byte (at_line filled size) (flat_map print_field fields) ≡ at_line (filled + length fields) (size + length (flat_map print_field fields))
field-lines filled size [] all =
    let a : filled ≡ filled + 0 = omega arith in
    let b : size ≡ size + 0 = omega arith in
    ap (λ n. at_line n size) a ∙ ap (at_line (filled + 0)) b
field-lines filled size (field ∷ fields) all =
    let one : IsField field = all 0 field (omega arith) in
    let others : All IsField fields = λ k d lt. all (suc k) d (omega (arith, lt)) in
    let a : filled + 1 + length fields ≡ filled + suc (length fields) = omega arith in
    let b : size + length (print_field field) + length (flat_map print_field fields) ≡ size + length (flat_map print_field (field ∷ fields)) =
    omega (arith, ap length (flat_map-cons print_field field fields), length-append (print_field field) (flat_map print_field fields)) in
    ap (fold with_byte (at_line filled size)) (flat_map-cons print_field field fields)
    ∙ fold-append with_byte (at_line filled size) (print_field field) (flat_map print_field fields)
    ∙ ap (λ s. fold with_byte s (flat_map print_field fields)) (field-line filled size field one)
    ∙ field-lines (filled + 1) (size + length (print_field field)) fields others
    ∙ ap (λ n. at_line n (size + length (print_field field) + length (flat_map print_field fields))) a
    ∙ ap (at_line (filled + suc (length fields))) b

-- the request line
abbrev line_of : RequestHead → List ℕ
line_of head = head.method ++ 32 ∷ (head.target ++ 32 ∷ print_version head.minor)

version-name : NoFeed (codes "HTTP/1.")
version-name =
    passes-cons 72 (codes "TTP/1.") refl (passes-cons 84 (codes "TP/1.") refl (passes-cons 84 (codes "P/1.") refl (passes-cons 80 (codes "/1.") refl
    (passes-cons 47 (codes "1.") refl (passes-cons 49 (codes ".") refl (passes-cons 46 [] refl (All-nil (λ b. eqb b 10 ≡ false))))))))

version-feed : (minor : ℕ) → minor ≤ 1 → NoFeed (print_version minor)
version-feed minor few =
    let digit : eqb (48 + minor) 10 ≡ false = grind (arith, nat_tests) in
    passes-append (codes "HTTP/1.") ((48 + minor) ∷ []) version-name (passes-cons (48 + minor) [] digit (All-nil (λ b. eqb b 10 ≡ false)))

line-feed : (head : RequestHead) → IsRequestHead head → NoFeed (line_of head)
line-feed head is =
    passes-append head.method (32 ∷ (head.target ++ 32 ∷ print_version head.minor)) (no-feed is_token_byte head.method token-feed is.method.1)
    (passes-cons 32 (head.target ++ 32 ∷ print_version head.minor) refl
    (passes-append head.target (32 ∷ print_version head.minor) (no-feed is_uri_byte head.target refl is.target.1)
    (passes-cons 32 (print_version head.minor) refl (version-feed head.minor is.minor))))

-- the parts of a head, as its lines
abbrev parts_of : RequestHead → List ℕ
parts_of head =
    print_blank head.blank ++ ((line_of head ++ print_end head.line_end) ++ (flat_map print_field head.fields ++ print_end head.last))

cons-append : (x : ℕ) (a b : List ℕ) → (x ∷ a) ++ b ≡ x ∷ (a ++ b)
cons-append x a b = refl

regroup : (a b c d e f g : List ℕ) → a ++ (b ++ 32 ∷ (c ++ 32 ∷ (d ++ (e ++ ((f ++ g) ++ []))))) ≡ a ++ (((b ++ 32 ∷ (c ++ 32 ∷ d)) ++ e) ++ (f ++ g))
regroup a b c d e f g = simp (append_assoc, cons-append, append-nil)

printed : (head : RequestHead) → print_request head ≡ parts_of head
printed head =
    sym (append-nil (print_request head)) ∙ print_request-append head []
    ∙ regroup (print_blank head.blank) head.method head.target (print_version head.minor) (print_end head.line_end)
    (flat_map print_field head.fields) (print_end head.last)

lines-of : (head : RequestHead) → IsRequestHead head → fold with_byte (at_line 0 0) (parts_of head) ≡ at_end (1 + length head.fields) (length (parts_of head))
lines-of head is =
    let blank = print_blank head.blank in
    let line = line_of head ++ print_end head.line_end in
    let fields = flat_map print_field head.fields in
    let last = print_end head.last in
    let two : 2 ≤ length (line_of head) = rw (length-append, length-append) (omega arith) in
    let size : 0 + length blank + length line + length fields + length last ≡ length (parts_of head) =
    omega (arith, length-append blank (line ++ (fields ++ last)), length-append line (fields ++ last), length-append fields last) in
    fold-append with_byte (at_line 0 0) blank (line ++ (fields ++ last))
    ∙ ap (λ s. fold with_byte s (line ++ (fields ++ last))) (blank-lines 0 head.blank)
    ∙ fold-append with_byte (at_line 0 (0 + length blank)) line (fields ++ last)
    ∙ ap (λ s. fold with_byte s (fields ++ last)) (filled-line 0 (0 + length blank) (line_of head) head.line_end (line-feed head is) two)
    ∙ fold-append with_byte (at_line 1 (0 + length blank + length line)) fields last
    ∙ ap (λ s. fold with_byte s last) (field-lines 1 (0 + length blank + length line) head.fields is.fields)
    ∙ last-line (1 + length head.fields) (0 + length blank + length line + length fields) head.last (omega arith)
    ∙ ap (at_end (1 + length head.fields)) size

-- the scan of a text with a head at its front
pub scan-head : (head : RequestHead) (tail : List ℕ) → IsRequestHead head
    → scan_of (print_request head ++ tail) ≡ at_end (1 + length head.fields) (length (print_request head))
scan-head head tail is =
    let P : List ℕ → Type 0 = λ text. fold with_byte (at_line 0 0) text ≡ at_end (1 + length head.fields) (length text) in
    let all = subst P (sym (printed head)) (lines-of head is) in
    fold-append with_byte scan_of_nothing (print_request head) tail
    ∙ ap (λ s. fold with_byte s tail) all
    ∙ ended-stays (at_end (1 + length head.fields) (length (print_request head))) refl tail

-- a head at the front of as much of a stream as a head may have
front-head : (rest : List ℕ) (head : RequestHead) → Begins (take head_limit rest) head → front rest ≡ Front.Ended (length (print_request head))
front-head rest head begins =
    let few : ltb 65 (1 + length head.fields) ≡ false = grind (arith, nat_tests, begins.few) in
    let scan = ap scan_of begins.reads.1 ∙ scan-head head begins.tail begins.reads.0 in
    rw (scan, few) refl

printed-first : (rest : List ℕ) (head : RequestHead) → (begins : Begins (take head_limit rest) head) → take (length (print_request head)) rest ≡ print_request head
printed-first rest head begins =
    let whole : rest ≡ print_request head ++ (begins.tail ++ drop head_limit rest) =
    sym (take-append-drop head_limit rest) ∙ ap (λ t. t ++ drop head_limit rest) begins.reads.1
    ∙ append_assoc (print_request head) begins.tail (drop head_limit rest) in
    ap (take (length (print_request head))) whole ∙ take-append_seam (print_request head) (begins.tail ++ drop head_limit rest)

pub head-shows : (rest : List ℕ) (head : RequestHead) → Begins (take head_limit rest) head → Shows rest (Shown.Head head)
head-shows rest head begins =
    let only : Begins (print_request head) head = record {
      tail = [];
      reads = (begins.reads.0, sym (append-nil (print_request head)));
      few = begins.few;
    } in (
      length (print_request head),
      front-head rest head begins,
      subst (λ t. Begins t head) (sym (printed-first rest head begins)) only,
    )
