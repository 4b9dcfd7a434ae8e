-- A line that grows word by word.
use Rattle.std.specs.Prelude.{List, [], ℕ, ◌++◌, ◌∷◌}

-- a text, and words behind it with a space before each
abbrev pub with_words : List ℕ → List (List ℕ) → List ℕ
with_words text [] = text
with_words text (word ∷ words) = with_words (text ++ 32 ∷ word) words
