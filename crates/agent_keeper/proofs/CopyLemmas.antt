-- A map that is filled with copies of another map's entries has what the other has.
use Rattle.std.proofs.Common.{◌≡◌, ℕ, List, [], ◌∷◌, ◌++◌, map, Option, None, Some, cond, Bor, refl, ap, sym, ◌∙◌}
use Rattle.std.specs.Cmp.{IsEquivalence, nat_eq_equiv, on_equiv, and_equiv}
use Rattle.std.specs.Map.{update_all}
use Rattle.std.specs.Map.Iter.{deref_pair}
use Rattle.std.proofs.lemmas.Map.{update_all_push}
use Rattle.std.proofs.lemmas.List.{map-append}
use Rattle.agent_keeper.specs.declared.batch.CheckName.{CheckName}
use Rattle.agent_keeper.specs.Memory.{is_same}

pub names_equiv : IsEquivalence is_same
names_equiv = and_equiv (on_equiv (λ name. name.household) nat_eq_equiv) (on_equiv (λ name. name.sheet) nat_eq_equiv)

-- one more copy
pub put_copied : (before after : Option (List ℕ)) (shown : List (Bor CheckName × Bor (List ℕ))) (name : Bor CheckName) (bytes : Bor (List ℕ)) (copy : List ℕ) (q : CheckName)
    → copy ≡ bytes.now
    → before ≡ update_all is_same (λ _. None) (map deref_pair shown) q
    → after ≡ cond (is_same name.now q) (Some copy) before
    → after ≡ update_all is_same (λ _. None) (map deref_pair (shown ++ (name, bytes) ∷ [])) q
put_copied before after shown name bytes copy q is before_is after_is =
    after_is ∙ rw (is, before_is) (update_all_push is_same (λ _. None) (update_all is_same (λ _. None) (map deref_pair shown)) (map deref_pair shown) (name.now, bytes.now) q refl)
    ∙ ap (λ entries. update_all is_same (λ _. None) entries q) (sym (map-append deref_pair shown ((name, bytes) ∷ [])))
