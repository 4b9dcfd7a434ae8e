-- Which statuses a status can be, where it is one of a list.
use Rattle.std.proofs.Common.{Bool, List, false, refl, subst, sym, true, ℕ, ◌==◌, ◌||◌, ◌∙◌, ◌∷◌, ◌≡◌}
use Rattle.std.specs.List.{list_any}
use Rattle.std.proofs.lemmas.Bool.{eqb-true, true≢false}
use Rattle.agent_run.specs.Ends.{is_one_of}

-- a status that isn't among those known doesn't come
pub no_such : (statuses : List ℕ) (status other : ℕ) → is_one_of statuses status → list_any (λ known. other == known) statuses ≡ false
    → status ≡ other → ⊥
no_such statuses status other known out e =
    true≢false (sym (subst (λ s. list_any (λ k. s == k) statuses ≡ true) e known) ∙ out)

-- what holds of the first one, and where it is another of them, holds
pub by_first : (first : ℕ) (rest : List ℕ) (status : ℕ) (P : ℕ → Type 0) → is_one_of (first ∷ rest) status → P first
    → (is_one_of rest status → P status) → P status
by_first first rest status P known one others = by (status == first) refl known
  where
    by : (same : Bool) → (status == first) ≡ same → (same || list_any (λ k. status == k) rest) ≡ true → P status
    by true e held = subst P (sym (eqb-true status first e)) one
    by false e held = others held
