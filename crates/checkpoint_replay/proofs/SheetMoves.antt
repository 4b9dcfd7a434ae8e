-- The moves of a sheet bring each household over the sheet.
use Rattle.agent_events.specs.declared.order.Order.{Order}
use Rattle.agent_events.specs.declared.trade.Trade.{Trade}
use Rattle.checkpoint_replay.specs.Moves.{day_after_move, day_if_moved, part_after}
use Rattle.checkpoint_replay.specs.Parts.{day_of, first_day, part_in}
use Rattle.checkpoint_replay.specs.Sheets.{move_on, move_unless_quiet, moves_of_entry, moves_of_other, moves_of_others, moves_of_parts}
use Rattle.checkpoint_replay.specs.declared.change.HouseholdMove.{HouseholdMove}
use Rattle.checkpoint_replay.specs.declared.part.HouseholdPart.{HouseholdPart}
use Rattle.household_fold.proofs.QuietFacts.{quiet-step}
use Rattle.household_fold.specs.Facts.{Known}
use Rattle.household_fold.specs.Households.{first_of, step_known}
use Rattle.household_fold.specs.Quiet.{is_quiet_for}
use Rattle.checkpoint_replay.specs.Replays.{NumberedOrder, day_behind, orders_under}
use Rattle.register_machine.specs.replay.Trades.{Day}
use Rattle.std.proofs.Common.{Bool, List, None, Option, Some, [], ap, arith, cond, eq-eqb, eqb-true, false, fold, length, nat_eq, refl, sym, true, true≢false, ℕ, ◌++◌, ◌∙◌, ◌∷◌, ◌≡◌, ◌||◌}
use Rattle.std.proofs.lemmas.List.{append-nil, take_all}
use Rattle.std.proofs.lemmas.List.Sums.{fold-append}
use Rattle.std.proofs.lemmas.Map.{lookup-none}
use Rattle.std.proofs.lemmas.Map.Entries.{none_past_head}
use Rattle.std.proofs.lemmas.Map.Keys.{IsDistinct-head, IsDistinct-tail}
use Rattle.std.specs.Cmp.{nat_eq_equiv}
use Rattle.std.specs.List.{AllByRecursion, IsDistinct, list_any}
use Rattle.std.specs.Map.{keys_of, lookup}
use Rattle.std.specs.Option.{option_map_or}
use Rattle.std.specs.Prelude.{is_some, unwrap_or}

-- ---- one household

-- a day behind which nothing happened
day-still : (known : Known) (orders : List Order) (day : Day) → step_known known orders day.register ≡ first_of day.register → day_behind known orders day ≡ day
day-still known orders day still =
    ap (λ (step : Day). record { register = step.register; trades = day.trades ++ step.trades }) still
    ∙ ap (λ (trades : List Trade). record { register = day.register; trades = trades }) (append-nil day.trades)

same-number : (number : ℕ) → nat_eq number number ≡ true
same-number number = eq-eqb number number refl

no-some : {X : Type 0} (x : X) → Some x ≡ None → true ≡ false
no-some x is = ap is_some is

-- a household's own move, or none where it is quiet
step-once : (known : Known) (orders : List Order) (household : ℕ) (day : Day) → fold (day_if_moved household) day (move_unless_quiet known orders household day) ≡ day_behind known orders day
step-once known orders household day = by_quiet (is_quiet_for known orders day.register) refl
  where
    by_quiet : (b : Bool) → is_quiet_for known orders day.register ≡ b → fold (day_if_moved household) day (cond b [] (move_on known orders household day ∷ [])) ≡ day_behind known orders day
    by_quiet true is = sym (day-still known orders day (quiet-step known orders day.register is))
    by_quiet false is =
        ap (λ b. cond b (day_after_move day (move_on known orders household day)) day) (same-number household)
        ∙ ap (λ (trades : List Trade). record { register = (step_known known orders day.register).register; trades = trades ++ (step_known known orders day.register).trades }) (take_all (length day.trades) day.trades (omega arith))

-- another's
other-once : (known : Known) (orders : List Order) (household other : ℕ) (day place : Day) → nat_eq household other ≡ false → fold (day_if_moved household) day (move_unless_quiet known orders other place) ≡ day
other-once known orders household other day place apart = by_quiet (is_quiet_for known orders place.register)
  where
    by_quiet : (b : Bool) → fold (day_if_moved household) day (cond b [] (move_on known orders other place ∷ [])) ≡ day
    by_quiet true = refl
    by_quiet false = ap (λ b. cond b (day_after_move day (move_on known orders other place)) day) apart

-- moves of which the first ones leave a day as it is
past-first : (household : ℕ) (day between : Day) (first rest : List HouseholdMove) → fold (day_if_moved household) day first ≡ between → fold (day_if_moved household) day (first ++ rest) ≡ fold (day_if_moved household) between rest
past-first household day between first rest is =
    fold-append (day_if_moved household) day first rest ∙ ap (λ (d : Day). fold (day_if_moved household) d rest) is

-- ---- the households of which something is kept

no-part : (known : Known) (rows : List NumberedOrder) (household : ℕ) (day : Day) (parts : List (ℕ × HouseholdPart)) → lookup (nat_eq household) parts ≡ None → fold (day_if_moved household) day (moves_of_parts known rows parts) ≡ day
no-part known rows household day [] none = refl
no-part known rows household day (e ∷ es) none = by_key (nat_eq household e.0) refl (λ missing. no-part known rows household day es missing) none
  where
    by_key : (b : Bool) → nat_eq household e.0 ≡ b → (lookup (nat_eq household) es ≡ None → fold (day_if_moved household) day (moves_of_parts known rows es) ≡ day) → cond b (Some e.1) (lookup (nat_eq household) es) ≡ None → fold (day_if_moved household) day (moves_of_entry known rows e ++ moves_of_parts known rows es) ≡ day
    by_key true is rest missing = absurd (true≢false (no-some e.1 missing))
    by_key false is rest missing =
        past-first household day day (moves_of_entry known rows e) (moves_of_parts known rows es) (other-once known (orders_under e.0 rows) household e.0 day (day_of e.1) is)
        ∙ rest missing

own-entry : (known : Known) (rows : List NumberedOrder) (household : ℕ) (part : HouseholdPart) (key : ℕ) (value : HouseholdPart) → household ≡ key → value ≡ part → fold (day_if_moved household) (day_of part) (move_unless_quiet known (orders_under key rows) key (day_of value)) ≡ day_behind known (orders_under household rows) (day_of part)
own-entry known rows household part key value is_key is_part =
    ap (λ (p : ℕ × HouseholdPart). fold (day_if_moved household) (day_of part) (move_unless_quiet known (orders_under p.0 rows) p.0 (day_of p.1))) (λ i. (sym is_key i, is_part i))
    ∙ step-once known (orders_under household rows) household (day_of part)

some-part : (known : Known) (rows : List NumberedOrder) (household : ℕ) (part : HouseholdPart) (parts : List (ℕ × HouseholdPart)) → IsDistinct nat_eq (keys_of parts) → lookup (nat_eq household) parts ≡ Some part → fold (day_if_moved household) (day_of part) (moves_of_parts known rows parts) ≡ day_behind known (orders_under household rows) (day_of part)
some-part known rows household part [] distinct found = absurd (true≢false (no-some part (sym found)))
some-part known rows household part (e ∷ es) distinct found = by_key (nat_eq household e.0) refl (λ there. some-part known rows household part es (IsDistinct-tail nat_eq e.0 (keys_of es) distinct) there) found
  where
    by_key : (b : Bool) → nat_eq household e.0 ≡ b → (lookup (nat_eq household) es ≡ Some part → fold (day_if_moved household) (day_of part) (moves_of_parts known rows es) ≡ day_behind known (orders_under household rows) (day_of part)) → cond b (Some e.1) (lookup (nat_eq household) es) ≡ Some part → fold (day_if_moved household) (day_of part) (moves_of_entry known rows e ++ moves_of_parts known rows es) ≡ day_behind known (orders_under household rows) (day_of part)
    by_key true is rest there =
        past-first household (day_of part) (day_behind known (orders_under household rows) (day_of part)) (moves_of_entry known rows e) (moves_of_parts known rows es)
        (own-entry known rows household part e.0 e.1 (eqb-true household e.0 is) (ap (λ o. unwrap_or o part) there))
        ∙ no-part known rows household _ es (lookup-none (nat_eq household) es (none_past_head nat_eq_equiv household e es distinct is))
    by_key false is rest there =
        past-first household (day_of part) (day_of part) (moves_of_entry known rows e) (moves_of_parts known rows es) (other-once known (orders_under e.0 rows) household e.0 (day_of part) (day_of e.1) is)
        ∙ rest there

-- ---- the others with orders

other-other : (known : Known) (rows : List NumberedOrder) (parts : List (ℕ × HouseholdPart)) (household : ℕ) (day : Day) (number : ℕ) → nat_eq household number ≡ false → fold (day_if_moved household) day (moves_of_other known rows parts number) ≡ day
other-other known rows parts household day number apart = by_part (is_some (lookup (nat_eq number) parts))
  where
    by_part : (b : Bool) → fold (day_if_moved household) day (cond b [] (move_unless_quiet known (orders_under number rows) number first_day)) ≡ day
    by_part true = refl
    by_part false = other-once known (orders_under number rows) household number day first_day apart

there-already : (known : Known) (rows : List NumberedOrder) (parts : List (ℕ × HouseholdPart)) (household : ℕ) (day : Day) (numbers : List ℕ) → is_some (lookup (nat_eq household) parts) ≡ true → fold (day_if_moved household) day (moves_of_others known rows parts numbers) ≡ day
there-already known rows parts household day [] there = refl
there-already known rows parts household day (number ∷ numbers) there =
    past-first household day day (moves_of_other known rows parts number) (moves_of_others known rows parts numbers) (by_number (nat_eq household number) refl)
    ∙ there-already known rows parts household day numbers there
  where
    by_number : (b : Bool) → nat_eq household number ≡ b → fold (day_if_moved household) day (moves_of_other known rows parts number) ≡ day
    by_number false is = other-other known rows parts household day number is
    by_number true is = ap (λ b. fold (day_if_moved household) day (cond b [] (move_unless_quiet known (orders_under number rows) number first_day)))
        (ap (λ n. is_some (lookup (nat_eq n) parts)) (sym (eqb-true household number is)) ∙ there)

not-met : (known : Known) (rows : List NumberedOrder) (parts : List (ℕ × HouseholdPart)) (household : ℕ) (day : Day) (numbers : List ℕ) → list_any (nat_eq household) numbers ≡ false → fold (day_if_moved household) day (moves_of_others known rows parts numbers) ≡ day
not-met known rows parts household day [] missing = refl
not-met known rows parts household day (number ∷ numbers) missing = by_number (nat_eq household number) refl (λ none. not-met known rows parts household day numbers none) missing
  where
    by_number : (b : Bool) → nat_eq household number ≡ b → (list_any (nat_eq household) numbers ≡ false → fold (day_if_moved household) day (moves_of_others known rows parts numbers) ≡ day) → (b || list_any (nat_eq household) numbers) ≡ false → fold (day_if_moved household) day (moves_of_other known rows parts number ++ moves_of_others known rows parts numbers) ≡ day
    by_number true is rest none = absurd (true≢false none)
    by_number false is rest none =
        past-first household day day (moves_of_other known rows parts number) (moves_of_others known rows parts numbers) (other-other known rows parts household day number is)
        ∙ rest none

own-other : (known : Known) (rows : List NumberedOrder) (parts : List (ℕ × HouseholdPart)) (household number : ℕ) → household ≡ number → lookup (nat_eq household) parts ≡ None → fold (day_if_moved household) first_day (moves_of_other known rows parts number) ≡ day_behind known (orders_under household rows) first_day
own-other known rows parts household number is missing =
    ap (λ n. fold (day_if_moved household) first_day (moves_of_other known rows parts n)) (sym is)
    ∙ ap (λ (o : Option HouseholdPart). fold (day_if_moved household) first_day (cond (is_some o) [] (move_unless_quiet known (orders_under household rows) household first_day))) missing
    ∙ step-once known (orders_under household rows) household first_day

pub none-from-apart : (number : ℕ) (numbers : List ℕ) → AllByRecursion (λ other. nat_eq number other ≡ false) numbers → list_any (nat_eq number) numbers ≡ false
none-from-apart number [] apart = refl
none-from-apart number (other ∷ numbers) apart = ap (λ b. b || list_any (nat_eq number) numbers) apart.0 ∙ none-from-apart number numbers apart.1

met-once : (known : Known) (rows : List NumberedOrder) (parts : List (ℕ × HouseholdPart)) (household : ℕ) (numbers : List ℕ) → lookup (nat_eq household) parts ≡ None → IsDistinct nat_eq numbers → list_any (nat_eq household) numbers ≡ true → fold (day_if_moved household) first_day (moves_of_others known rows parts numbers) ≡ day_behind known (orders_under household rows) first_day
met-once known rows parts household [] missing distinct met = absurd (true≢false (sym met))
met-once known rows parts household (number ∷ numbers) missing distinct met = by_number (nat_eq household number) refl (λ found. met-once known rows parts household numbers missing (IsDistinct-tail nat_eq number numbers distinct) found) met
  where
    by_number : (b : Bool) → nat_eq household number ≡ b → (list_any (nat_eq household) numbers ≡ true → fold (day_if_moved household) first_day (moves_of_others known rows parts numbers) ≡ day_behind known (orders_under household rows) first_day) → (b || list_any (nat_eq household) numbers) ≡ true → fold (day_if_moved household) first_day (moves_of_other known rows parts number ++ moves_of_others known rows parts numbers) ≡ day_behind known (orders_under household rows) first_day
    by_number true is rest found =
        past-first household first_day (day_behind known (orders_under household rows) first_day) (moves_of_other known rows parts number) (moves_of_others known rows parts numbers)
        (own-other known rows parts household number (eqb-true household number is) missing)
        ∙ not-met known rows parts household _ numbers
        (ap (λ n. list_any (nat_eq n) numbers) (eqb-true household number is) ∙ none-from-apart number numbers (IsDistinct-head nat_eq number numbers distinct))
    by_number false is rest found =
        past-first household first_day first_day (moves_of_other known rows parts number) (moves_of_others known rows parts numbers) (other-other known rows parts household first_day number is)
        ∙ rest found

-- ---- all of them

pub sheet-moves : (known : Known) (rows : List NumberedOrder) (parts : List (ℕ × HouseholdPart)) (numbers : List ℕ) → IsDistinct nat_eq (keys_of parts) → IsDistinct nat_eq numbers → ((household : ℕ) → list_any (nat_eq household) numbers ≡ false → orders_under household rows ≡ []) → (household : ℕ) → part_after (moves_of_parts known rows parts ++ moves_of_others known rows parts numbers) parts household ≡ day_behind known (orders_under household rows) (part_in parts household)
sheet-moves known rows parts numbers distinct once others household = by_part (lookup (nat_eq household) parts) refl
  where
    by_met : (b : Bool) → list_any (nat_eq household) numbers ≡ b → lookup (nat_eq household) parts ≡ None → fold (day_if_moved household) first_day (moves_of_others known rows parts numbers) ≡ day_behind known (orders_under household rows) first_day
    by_met true is missing = met-once known rows parts household numbers missing once is
    by_met false is missing =
        not-met known rows parts household first_day numbers is
        ∙ sym (ap (λ (orders : List Order). day_behind known orders first_day) (others household is) ∙ day-still known [] first_day (quiet-step known [] [] refl))

    by_part : (o : Option HouseholdPart) → lookup (nat_eq household) parts ≡ o → fold (day_if_moved household) (option_map_or day_of o first_day) (moves_of_parts known rows parts ++ moves_of_others known rows parts numbers) ≡ day_behind known (orders_under household rows) (option_map_or day_of o first_day)
    by_part None is =
        past-first household first_day first_day (moves_of_parts known rows parts) (moves_of_others known rows parts numbers) (no-part known rows household first_day parts is)
        ∙ by_met (list_any (nat_eq household) numbers) refl is
    by_part (Some part) is =
        past-first household (day_of part) (day_behind known (orders_under household rows) (day_of part)) (moves_of_parts known rows parts) (moves_of_others known rows parts numbers) (some-part known rows household part parts distinct is)
        ∙ there-already known rows parts household _ numbers (ap is_some is)
