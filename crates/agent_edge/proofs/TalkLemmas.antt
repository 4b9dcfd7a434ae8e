-- What several reads and writes, one after the other, do to the open connection that is told: for callers that read
-- and write in turn.
use Rattle.std.proofs.Common.{◌≡◌, ℕ, ◌+◌, List, [], ◌++◌, Option, None, Some, IfSome, take, drop, refl, sym, ap, ◌∙◌, subst, append-nil, append_assoc, option_map, drop-drop, take-append-drop, take-add}
use Rattle.agent_edge.specs.Links.{Links, after_read, after_write, after_talk}

-- nothing was read or written
pub talk-nothing : (a : Option Links) → a ≡ option_map (after_talk 0 []) a
talk-nothing None = refl
talk-nothing (Some links) = ap (λ written. Some (record links { written = written })) (sym (append-nil links.written))

-- a read after a talk
pub talk-read : (a b c : Option Links) (n m : ℕ) (bytes : List ℕ) → b ≡ option_map (after_talk n bytes) a
    → c ≡ option_map (after_read m) b → c ≡ option_map (after_talk (n + m) bytes) a
talk-read a b c n m bytes before next = next ∙ ap (option_map (after_read m)) before ∙ read-after a n m bytes where
  read-after : (a : Option Links) (n m : ℕ) (bytes : List ℕ) → option_map (after_read m) (option_map (after_talk n bytes) a) ≡ option_map (after_talk (n + m) bytes) a
  read-after None n m bytes = refl
  read-after (Some links) n m bytes =
      ap (λ unread. Some (record links { unread = unread; written = links.written ++ bytes })) (drop-drop m n links.unread)

-- a write after a talk
pub talk-write : (a b c : Option Links) (n : ℕ) (bytes more : List ℕ) → b ≡ option_map (after_talk n bytes) a
    → c ≡ option_map (after_write more) b → c ≡ option_map (after_talk n (bytes ++ more)) a
talk-write a b c n bytes more before next = next ∙ ap (option_map (after_write more)) before ∙ write-after a n bytes more where
  write-after : (a : Option Links) (n : ℕ) (bytes more : List ℕ) → option_map (after_write more) (option_map (after_talk n bytes) a) ≡ option_map (after_talk n (bytes ++ more)) a
  write-after None n bytes more = refl
  write-after (Some links) n bytes more =
      ap (λ written. Some (record links { unread = drop n links.unread; written = written })) (append_assoc links.written bytes more)

-- what was read in all is the front of what came
pub talk-bytes : (a b : Option Links) (n m : ℕ) (bytes front piece : List ℕ) → b ≡ option_map (after_talk n bytes) a
    → IfSome a (λ links. front ≡ take n links.unread) → IfSome b (λ links. take m piece ≡ take m links.unread)
    → IfSome a (λ links. front ++ take m piece ≡ take (n + m) links.unread)
talk-bytes a b n m bytes front piece before fronts next =
    bytes-after a n m bytes front piece fronts (subst (λ now. IfSome now (λ links. take m piece ≡ take m links.unread)) before next) where
      bytes-after : (a : Option Links) (n m : ℕ) (bytes front piece : List ℕ) → IfSome a (λ links. front ≡ take n links.unread)
          → IfSome (option_map (after_talk n bytes) a) (λ links. take m piece ≡ take m links.unread)
          → IfSome a (λ links. front ++ take m piece ≡ take (n + m) links.unread)
      bytes-after None n m bytes front piece fronts next = tt
      bytes-after (Some links) n m bytes front piece fronts next =
          ap (λ l. l ++ take m piece) fronts ∙ ap (λ l. take n links.unread ++ l) next ∙ sym (take-add n m links.unread)

-- a read gave nothing, so what was read in all is all that came
pub talk-end : (a b : Option Links) (n : ℕ) (bytes front : List ℕ) → b ≡ option_map (after_talk n bytes) a
    → IfSome a (λ links. front ≡ take n links.unread) → IfSome b (λ links. links.unread ≡ [])
    → IfSome a (λ links. front ≡ links.unread)
talk-end a b n bytes front before fronts ended =
    end-after a n bytes front fronts (subst (λ now. IfSome now (λ links. links.unread ≡ [])) before ended) where
      end-after : (a : Option Links) (n : ℕ) (bytes front : List ℕ) → IfSome a (λ links. front ≡ take n links.unread)
          → IfSome (option_map (after_talk n bytes) a) (λ links. links.unread ≡ []) → IfSome a (λ links. front ≡ links.unread)
      end-after None n bytes front fronts ended = tt
      end-after (Some links) n bytes front fronts ended =
          fronts ∙ sym (append-nil (take n links.unread)) ∙ ap (λ l. take n links.unread ++ l) (sym ended) ∙ take-append-drop n links.unread
