-- A correction leaves the parts of the households that it doesn't reach.
use Rattle.std.proofs.Common.{Bool, Contains, List, None, Option, Some, ap, arith, false, option_to_list, refl, subst, sym, true, ℕ, ◌==◌, ◌≡◌}
use Rattle.std.proofs.lemmas.Bool.{eqb-true, true≢false}
use Rattle.std.specs.List.Sorted.{IsStrictlyIncreasing}
use Rattle.std.specs.Option.{option_map_or}
use Rattle.agent_events.specs.Events.{Event}
use Rattle.agent_events.specs.declared.event.EventKind.{EventKind}
use Rattle.desk_books.specs.HouseholdsReopened.{AreReached, household_alone}
use Rattle.register_laws.specs.EventReplays.{is_correction}
use Rattle.register_laws.specs.CorrectionReach.{EventReach, LeavesPart, order_changed}
use Rattle.register_laws.specs.Lawful.{book_behind}
use Rattle.register_machine.specs.journal.Journals.{Journal, with_event}
use Rattle.register_machine.specs.journal.Kinds.{accounts_of, household_of}

-- one household at most rises
pub alone-rises : (found : Option ℕ) → IsStrictlyIncreasing (option_to_list found)
alone-rises None k short = absurd (omega (arith, short))
alone-rises (Some owner) k short = absurd (omega (arith, short))

another-owner : (found : Option ℕ) (household : ℕ) → (Contains (option_to_list found) household → ⊥) → option_map_or (λ (owner : ℕ). owner == household) found false ≡ false
another-owner None household none = refl
another-owner (Some owner) household none = by (owner == household) refl
  where
    by : (b : Bool) → owner == household ≡ b → b ≡ false
    by true is = absurd (none (0, omega arith, eqb-true owner household is))
    by false is = refl

module _ (journal : Journal) (event : Event) (households : List ℕ) (reach : EventReach journal event) (household : ℕ) (none : Contains households household → ⊥) where
  abbrev Left : Type 0
  Left = LeavesPart (book_behind journal) (book_behind (with_event journal event)) household

  of-order : (account ref_no : ℕ) → order_changed event.kind ≡ Some (account, ref_no) → households ≡ household_alone journal account → Left
  of-order account ref_no changed alone =
      reach.order (account, ref_no) changed household
      (another-owner (household_of (accounts_of journal) account) household (subst (λ (hs : List ℕ). Contains hs household → ⊥) alone none))

  -- by what the correction corrects
  pub left_by_kind : (kind : EventKind) → event.kind ≡ kind → is_correction kind ≡ true → AreReached journal kind households → Left
  left_by_kind (EventKind.Enter form) at is reached = of-order form.order.account form.order.ref_no (ap order_changed at) reached
  left_by_kind (EventKind.Replace form) at is reached = of-order form.order.account form.order.ref_no (ap order_changed at) reached
  left_by_kind (EventKind.Void form) at is reached = of-order form.account form.ref_no (ap order_changed at) reached
  left_by_kind (EventKind.FixPrice form) at is reached = reach.price form at household (reached.others household none)
  left_by_kind (EventKind.FixRate form) at is reached = reach.rate form at household (reached.others household none)
  left_by_kind _ at is reached = absurd (true≢false (sym is))
