-- That `start_of` keeps its contract.
use Rattle.std.proofs.Common.{◌≡◌, suc, ◌-◌, ◌<◌, length, arith, sym, ap, ◌∙◌}
use Rattle.agent_keeper.specs.Packed.{start_at}
use Rattle.agent_keeper.proofs.PackedFacts.{start-is}
use Rattle.agent_keeper.proofs.packed_rows.start_of.Goals as goal

pub returns-else-place-eq0 : goal.returns-else-place-eq0
returns-else-place-eq0 c =
    let place = c.args.place in
    let before : place ≡ suc (place - 1) = grind arith in
    let within : place - 1 < length c.args.ends.now = grind arith in
    sym (ap (start_at 0 c.args.ends.now) before ∙ start-is 0 c.args.ends.now (place - 1) 0 within)
