-- That `place_of` keeps its contract.
use Rattle.std.proofs.Common.{◌==◌, ◌≡◌, ℕ, Bool, true, false, List, length, Option, Some, None, cond, rules, tests, refl, arith, ltb-false}
use Rattle.std.specs.Prelude.{nat_lt, unwrap_or}
use Rattle.std.specs.List.{position_or_len}
use Rattle.std.proofs.lemmas.Iterator.{YieldsList-from_slice}
use Rattle.std.proofs.lemmas.Iterator.Search.{position_from_yields_List}
use Rattle.std.proofs.lemmas.List.Sums.{prefix_len-le-length}
use Rattle.request_fields.proofs.field_forms.place_of.Goals as goal

-- the length where there is none
or_length : (p : ℕ → Bool) (xs : List ℕ) (found : Option ℕ) → found ≡ cond (nat_lt (position_or_len p xs) (length xs)) (Some (position_or_len p xs)) None
    → unwrap_or found (length xs) ≡ position_or_len p xs
or_length p xs found h = by (nat_lt (position_or_len p xs) (length xs)) refl h
  where
    by : (b : Bool) → nat_lt (position_or_len p xs) (length xs) ≡ b → found ≡ cond b (Some (position_or_len p xs)) None → unwrap_or found (length xs) ≡ position_or_len p xs
    by true t e = rw e refl
    by false t e = rw e (omega (arith, ltb-false, prefix_len-le-length {X = ℕ}))

pub returns-clause-value : goal.returns-clause-value
returns-clause-value c =
    let is_own : ℕ → Bool = λ other. other == c.args.byte in
    let found = position_from_yields_List is_own _ _ c.position.result c.position.ensures.ran (YieldsList-from_slice c.args.text.now c.iter.ensures.rest) (λ x b q k. search (rules, tests)) in
    let whole = or_length is_own c.args.text.now c.position.result found in cc
