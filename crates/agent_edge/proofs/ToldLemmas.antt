-- What several reads or writes do to the bytes that are told.
use Rattle.std.proofs.Common.{◌≡◌, ℕ, ◌+◌, ◌<◌, ◌≤◌, List, [], ◌++◌, Option, None, Some, IfSome, length, take, drop, arith, sym, ap, ◌∙◌, subst, append-nil, length-append, length-take-le}
use Rattle.std.proofs.Math.Seq.{take-add}
use Rattle.std.specs.Io.KnownBytes.{Appends, Consumes, IsAtEnd}
use Rattle.std.proofs.KnownBytes.{Appends-trans}

-- the next bytes of a text were written behind its front
pub Appends-more : (a b c : Option (List ℕ)) (bytes : List ℕ) (n m : ℕ) → Appends a b (take n bytes) → Appends b c (take m (drop n bytes)) → Appends a c (take (n + m) bytes)
Appends-more a b c bytes n m front next = subst (Appends a c) (sym (take-add n m bytes)) (Appends-trans a b c _ _ front next)

-- a read gave nothing, so all that was left was read before
pub read_all : (a b : Option (List ℕ)) (bytes : List ℕ) → Consumes a b bytes → IsAtEnd b → IfSome a (λ left. bytes ≡ left)
read_all None b bytes before end = tt
read_all (Some xs) None bytes before end = absurd before
read_all (Some xs) (Some ys) bytes before end = sym (before ∙ ap (λ l. bytes ++ l) end ∙ append-nil bytes)

-- a read gave nothing, so nothing is left
pub read_end : (a b c : Option (List ℕ)) (bytes piece : List ℕ) → Consumes a b bytes → Consumes b c (take 0 piece) → IsAtEnd b → IfSome a (λ _. c ≡ Some [])
read_end None b c bytes piece before last end = tt
read_end (Some xs) None c bytes piece before last end = absurd before
read_end (Some xs) (Some ys) None bytes piece before last end = absurd last
read_end (Some xs) (Some ys) (Some zs) bytes piece before last end = ap Some (sym last ∙ end)

-- a read gave more than there was room for
pub read_more : (a b c : Option (List ℕ)) (bytes piece : List ℕ) (n limit : ℕ) → Consumes a b bytes → Consumes b c (take n piece)
    → n ≤ length piece → limit < length bytes + n → IfSome a (λ left. limit < length left)
read_more None b c bytes piece n limit before last within more = tt
read_more (Some xs) None c bytes piece n limit before last within more = absurd before
read_more (Some xs) (Some ys) None bytes piece n limit before last within more = absurd last
read_more (Some xs) (Some ys) (Some zs) bytes piece n limit before last within more =
    rw (before, last) (rw (length-append, length-append, length-take-le n piece within) (omega arith))
