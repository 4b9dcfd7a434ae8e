-- What several reads and writes do to the connections that are told.
use Rattle.std.proofs.Common.{◌≡◌, ℕ, ◌+◌, List, [], ◌++◌, Option, None, Some, take, drop, refl, sym, ap, ◌∙◌, append-nil, append_assoc, option_map}
use Rattle.std.proofs.Math.Seq.{take-add}
use Rattle.agent_edge.specs.Links.{Links, after_write}

-- nothing was written
pub after_write-nothing : (a : Option Links) → a ≡ option_map (after_write []) a
after_write-nothing None = refl
after_write-nothing (Some links) = ap (λ written. Some (record links { written = written })) (sym (append-nil links.written))

-- one text was written after another
pub after_write-more : (a : Option Links) (front next : List ℕ) → option_map (after_write next) (option_map (after_write front) a) ≡ option_map (after_write (front ++ next)) a
after_write-more None front next = refl
after_write-more (Some links) front next = ap (λ written. Some (record links { written = written })) (append_assoc links.written front next)

-- the next bytes of a text were written behind its front
pub writes-more : (a b c : Option Links) (bytes : List ℕ) (n m : ℕ) → b ≡ option_map (after_write (take n bytes)) a
    → c ≡ option_map (after_write (take m (drop n bytes))) b → c ≡ option_map (after_write (take (n + m) bytes)) a
writes-more a b c bytes n m front next =
    next ∙ ap (option_map (after_write (take m (drop n bytes)))) front ∙ after_write-more a (take n bytes) (take m (drop n bytes))
    ∙ ap (λ text. option_map (after_write text) a) (sym (take-add n m bytes))
