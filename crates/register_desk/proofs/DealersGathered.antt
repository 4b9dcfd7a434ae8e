-- The dealers, one by one.
use Rattle.std.proofs.Common.{List, None, Some, [], ap, arith, drop, length, slice_get, suc, sym, zero, ℕ, ◌+◌, ◌<◌, ◌∙◌, ◌∷◌, ◌≡◌}
use Rattle.std.proofs.lemmas.List.{drop_more}
use Rattle.std.proofs.lemmas.Option.{get_or_from_slice_get, slice_get_within}
use Rattle.agent_events.specs.declared.request.DealerForm.{DealerForm}
use Rattle.register_desk.specs.GatheredNumbers.{with_dealers}
use Rattle.register_machine.specs.corrections.Gains.{in_its_place}

pub one_dealer_more : (numbers : List ℕ) (dealers : List DealerForm) (i : ℕ) (form : DealerForm) → slice_get dealers i ≡ Some form → with_dealers (in_its_place form.dealer numbers) (drop (i + 1) dealers) ≡ with_dealers numbers (drop i dealers)
one_dealer_more numbers dealers i form is =
    sym (ap (with_dealers numbers)
    (drop_more dealers i form (slice_get_within dealers i form is)
    ∙ ap (λ (d : DealerForm). d ∷ drop (i + 1) dealers) (get_or_from_slice_get dealers i form form is)))

-- before their end there is one
pub not_past : (dealers : List DealerForm) (i : ℕ) → i < length dealers → slice_get dealers i ≡ None → ⊥
not_past [] i short none = omega (arith, short)
not_past (form ∷ dealers) zero short none = cc
not_past (form ∷ dealers) (suc i) short none = not_past dealers i (omega (arith, short)) none
