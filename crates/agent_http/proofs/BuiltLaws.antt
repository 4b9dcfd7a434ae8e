-- What was appended part by part is all parts one after another.
use Rattle.std.proofs.Common.{◌≡◌, ℕ, List, [], ◌++◌, refl}

pub built : (none status kind size close end all : List ℕ) (a b : List ℕ) (line : List ℕ → List ℕ) (v w d e f : List ℕ) → none ≡ [] → status ≡ none ++ a
    → kind ≡ status ++ b → v ≡ w → size ≡ kind ++ line v → close ≡ size ++ d → end ≡ close ++ e → all ≡ end ++ f
    → all ≡ ((((a ++ b) ++ line w) ++ d) ++ e) ++ f
built none status kind size close end all a b line v w d e f h1 h2 h3 h4 h5 h6 h7 h8 = rw (h8, h7, h6, h5, h4, h3, h2, h1) refl
