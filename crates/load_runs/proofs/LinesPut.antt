-- The lines of a summary, one after the other.
use Rattle.std.proofs.Common.{List, [], ap, append-nil, append_assoc, arith, flat_map, get_or, length, map, refl, suc, sym, take, zero, ℕ, ◌++◌, ◌+◌, ◌<◌, ◌∙◌, ◌∷◌, ◌≡◌}
use Rattle.std.specs.Prelude.{codes}
use Rattle.agent_events.specs.declared.reply_lists.ClassBooks.{ClassBooks}
use Rattle.load_requests.specs.Summaries.{Summary, class_line, summary_text}
use Rattle.load_runs.specs.Seen.{count_lines, with_line_feed}
use Rattle.money_units.specs.Texts.{number_text, shares_text, signed_text}

-- ---- one line

-- behind what stands there already
behind : (old a n b s c t e : List ℕ) → ((old ++ (a ++ n)) ++ (b ++ s)) ++ (c ++ t) ++ e ≡ old ++ ((((((a ++ n) ++ b) ++ s) ++ c) ++ t) ++ e)
behind [] a n b s c t e =
    ap (λ (line : List ℕ). line ++ e)
    (sym (append_assoc ((a ++ n) ++ (b ++ s)) c t)
    ∙ ap (λ (line : List ℕ). (line ++ c) ++ t) (sym (append_assoc (a ++ n) b s)))
behind (x ∷ old) a n b s c t e = ap (λ (line : List ℕ). x ∷ line) (behind old a n b s c t e)

pub class_line_more : (old first second third last : List ℕ) (books : ClassBooks)
    → first ≡ old ++ (codes "class " ++ number_text books.class)
    → second ≡ first ++ (codes " shares " ++ shares_text books.outstanding)
    → third ≡ second ++ (codes " cash " ++ signed_text books.cash)
    → last ≡ third ++ 10 ∷ []
    → last ≡ old ++ with_line_feed (class_line books)
class_line_more old first second third last books one two three four =
    four
    ∙ (ap (λ (line : List ℕ). line ++ 10 ∷ [])
    (three
    ∙ ap (λ (line : List ℕ). line ++ (codes " cash " ++ signed_text books.cash))
    (two ∙ ap (λ (line : List ℕ). line ++ (codes " shares " ++ shares_text books.outstanding)) one))
    ∙ behind old (codes "class ") (number_text books.class) (codes " shares ") (shares_text books.outstanding) (codes " cash ") (signed_text books.cash) (10 ∷ []))

-- ---- many lines

abbrev lines-of : List ClassBooks → List ℕ
lines-of classes = flat_map with_line_feed (map class_line classes)

pub class_lines_more : (classes : List ClassBooks) (place : ℕ) (d : ClassBooks) → place < length classes → flat_map with_line_feed (map class_line (take (place + 1) classes)) ≡ flat_map with_line_feed (map class_line (take place classes)) ++ with_line_feed (class_line (get_or classes place d))
class_lines_more [] place d short = absurd (omega (arith, short))
class_lines_more (books ∷ classes) zero d short = append-nil (with_line_feed (class_line books))
class_lines_more (books ∷ classes) (suc place) d short =
    ap (λ (n : ℕ). lines-of (take n (books ∷ classes))) next
    ∙ (ap (λ (lines : List ℕ). with_line_feed (class_line books) ++ lines) (class_lines_more classes place d (omega (arith, short)))
    ∙ sym (append_assoc (with_line_feed (class_line books)) (lines-of (take place classes)) (with_line_feed (class_line (get_or classes place d)))))
  where
    next : suc place + 1 ≡ suc (place + 1)
    next = omega arith

lines-append : (lines more : List (List ℕ)) → flat_map with_line_feed (lines ++ more) ≡ flat_map with_line_feed lines ++ flat_map with_line_feed more
lines-append [] more = refl
lines-append (line ∷ lines) more =
    ap (λ (rest : List ℕ). with_line_feed line ++ rest) (lines-append lines more)
    ∙ sym (append_assoc (with_line_feed line) (flat_map with_line_feed lines) (flat_map with_line_feed more))

-- the counts, and behind them the classes
pub whole_text : (summary : Summary) → summary_text summary ≡ flat_map with_line_feed (count_lines summary) ++ flat_map with_line_feed (map class_line summary.classes)
whole_text summary = lines-append (count_lines summary) (map class_line summary.classes)
