-- That `push_other` keeps its contract.
use Rattle.checkpoint_replay.proofs.FoundParts.{day-missing, step-on-day}
use Rattle.checkpoint_replay.specs.Parts.{day_of}
use Rattle.std.proofs.Common.{None, Option, Some, false, nat_eq, refl, sym, true≢false, ◌∙◌, ◌≡◌}
use Rattle.std.specs.Map.{lookup}
use Rattle.std.specs.Prelude.{is_some}
use Rattle.checkpoint_replay.proofs.sheet.push_other.Goals as goal

-- what isn't there
none-there : {X : Type 0} (o : Option X) → is_some o ≡ false → o ≡ None
none-there None missing = refl
none-there (Some x) missing = absurd (true≢false missing)

pub push_move-requires-clause-step : goal.push_move-requires-clause-step
push_move-requires-clause-step g c =
    let missing = none-there (lookup (nat_eq c.args.household) c.args.parts.now.entries) (sym c.contains_key.ensures ∙ c.if-contains_key.false) in
    step-on-day c.args.facts.now c.args.orders.now c.args.parts.now.entries c.args.household c.under-own.result.now (day_of c.fresh_part-part.result) c.requires.households c.under-own.ensures
    (day-missing c.args.parts.now.entries c.args.household missing ∙ sym c.fresh_part-part.ensures.day)
