-- A line that grows word by word is the line of its words.
use Rattle.std.proofs.Common.{List, [], ap, append_assoc, refl, sym, ℕ, ◌++◌, ◌∙◌, ◌∷◌, ◌≡◌}
use Rattle.std.specs.List.{join_with_byte}
use Rattle.agent_events.specs.AnswerTexts.{list_text}
use Rattle.register_machine.specs.queries.Statement.{line_text}
use Rattle.holder_statements.specs.Words.{with_words}

-- a front stays in front
pub words_front : (text word : List ℕ) (words : List (List ℕ)) → with_words (text ++ word) words ≡ text ++ with_words word words
words_front text word [] = refl
words_front text word (w ∷ ws) =
    ap (λ t. with_words t ws) (append_assoc text word (32 ∷ w)) ∙ words_front text (word ++ 32 ∷ w) ws

pub joined_words : (word : List ℕ) (words : List (List ℕ)) → join_with_byte 32 (word ∷ words) ≡ with_words word words
joined_words word [] = refl
joined_words word (w ∷ ws) =
    ap (λ t. word ++ 32 ∷ t) (joined_words w ws)
    ∙ sym (words_front word (32 ∷ w) ws ∙ ap (λ t. word ++ t) (words_front (32 ∷ []) w ws))

pub line_of : (text word : List ℕ) (words : List (List ℕ)) → with_words (text ++ word) words ++ 10 ∷ [] ≡ text ++ line_text (word ∷ words)
line_of text word words =
    ap (λ t. t ++ 10 ∷ []) (words_front text word words ∙ ap (λ t. text ++ t) (sym (joined_words word words)))
    ∙ append_assoc text (list_text (word ∷ words)) (10 ∷ [])
