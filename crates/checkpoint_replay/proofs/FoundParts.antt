-- What holds of every household, at the part that a look-up finds.
use Rattle.agent_events.specs.declared.order.Order.{Order}
use Rattle.checkpoint_replay.specs.Parts.{AreOwnParts, day_of, first_day, part_in}
use Rattle.checkpoint_replay.specs.Sheets.{CanAdvance, CanStep}
use Rattle.checkpoint_replay.specs.declared.part.HouseholdPart.{HouseholdPart}
use Rattle.household_fold.specs.Facts.{Known}
use Rattle.checkpoint_replay.specs.Replays.{NumberedOrder, orders_under}
use Rattle.register_machine.specs.replay.Trades.{Day}
use Rattle.std.proofs.Common.{List, None, Option, Some, ap, nat_eq, subst, sym, ℕ, ◌≡◌}
use Rattle.std.specs.Map.{lookup}
use Rattle.std.specs.Option.{option_map_or}
use Rattle.std.specs.Prelude.{IfSome}

pub number-found : (parts : List (ℕ × HouseholdPart)) (household : ℕ) (part : HouseholdPart) → AreOwnParts parts → lookup (nat_eq household) parts ≡ Some part → part.state.number ≡ household
number-found parts household part own found = subst (λ (o : Option HouseholdPart). IfSome o (λ p. p.state.number ≡ household)) found (own household)

pub step-on-day : (known : Known) (rows : List NumberedOrder) (parts : List (ℕ × HouseholdPart)) (household : ℕ) (orders : List Order) (day : Day) → CanAdvance known rows parts → orders ≡ orders_under household rows → part_in parts household ≡ day → CanStep known orders household day.register
step-on-day known rows parts household orders day can is_orders is_day =
    subst (λ (own : List Order). CanStep known own household day.register) (sym is_orders)
    (subst (λ (d : Day). CanStep known (orders_under household rows) household d.register) is_day (can household))

pub day-found : (parts : List (ℕ × HouseholdPart)) (household : ℕ) (part : HouseholdPart) → lookup (nat_eq household) parts ≡ Some part → part_in parts household ≡ day_of part
day-found parts household part found = ap (λ (o : Option HouseholdPart). option_map_or day_of o first_day) found

pub day-missing : (parts : List (ℕ × HouseholdPart)) (household : ℕ) → lookup (nat_eq household) parts ≡ None → part_in parts household ≡ first_day
day-missing parts household missing = ap (λ (o : Option HouseholdPart). option_map_or day_of o first_day) missing
