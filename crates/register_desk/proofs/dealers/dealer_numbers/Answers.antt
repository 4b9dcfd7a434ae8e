-- That `dealer_numbers` keeps its contract.
use Rattle.std.proofs.Common.{Global, List, Vec, ap, arith, drop, subst, sym, ℕ, ◌+◌, ◌∙◌}
use Rattle.agent_events.specs.declared.fields.Identifier.{Identifier}
use Rattle.holder_statements.specs.AccountPositions.{AreRising}
use Rattle.register_desk.proofs.DealersGathered.{not_past, one_dealer_more}
use Rattle.register_desk.specs.GatheredNumbers.{with_dealers}
use Rattle.register_machine.specs.journal.Kinds.{dealers_of}
use Rattle.register_desk.proofs.dealers.dealer_numbers.Goals.{in-Some+in_ok-put_number, in_default}
use Rattle.register_desk.proofs.dealers.dealer_numbers.Goals as goal

pub loop-index-preserved : goal.loop-index-preserved
loop-index-preserved c =
    let dealers = dealers_of c.args.orders.now.journal in
    let index = c.loop-index.index in
    elim c.match-dealer_at.branch [
      | in-Some+in_ok-put_number w ↦ (
        subst (λ (ns : Vec Identifier Global). AreRising ns.items) (sym w.numbers-is) w.in_ok-put_number.ensures.rise,
        ap (λ (ns : Vec Identifier Global). with_dealers ns.items (drop (index + 1) dealers)) w.numbers-is
            ∙ (ap (λ (ns : List ℕ). with_dealers ns (drop (index + 1) dealers)) w.in_ok-put_number.ensures.numbers
            ∙ (one_dealer_more c.loop-index.numbers.items dealers index w.in-Some.dealer.now (sym w.in-Some.ensures)
            ∙ c.loop-index.invariant.1)),
      )
      | in_default w ↦ absurd (not_past dealers index (omega (arith, c.loop-index-test.true, c.dealers-index-end.ensures)) (sym w.in_default.ensures))
    ]
