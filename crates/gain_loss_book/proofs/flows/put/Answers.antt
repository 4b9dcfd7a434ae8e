-- That `put` keeps its contract.
use Rattle.std.proofs.Common.{Option, ap, nat_eq, sym, unwrap_or, ◌∙◌}
use Rattle.gain_loss_book.proofs.FlowFacts.{put-whole, set-whole}
use Rattle.gain_loss_book.specs.Flows.{flow_at, no_flow, whole_flow, with_flow}
use Rattle.gain_loss_book.specs.declared.flows.Flow.{Flow}
use Rattle.gain_loss_book.proofs.flows.put.Goals as goal

pub returns-in-Some-clause-whole : goal.returns-in-Some-clause-whole
returns-in-Some-clause-whole c =
    ap whole_flow (c.get_mut.follows.holds c.and.result).0
    ∙ set-whole (nat_eq c.args.number) c.args.rows.now.entries c.in-Some.own.now c.and.result c.args.flow (sym c.in-Some.ensures.value) c.and.ensures

pub returns-clause-whole : goal.returns-clause-whole
returns-clause-whole c =
    let same = c.get_mut.follows.holds-at-none in
    put-whole c.get_mut.follows.lender-at-none c.insert-first.new.self c.args.number c.insert-first.result c.unwrap-none.result c.none.result c.and-2.result c.args.flow c.unwrap-none.ensures c.insert-first.ensures.old c.insert-first.ensures.entries
    (c.none.ensures ∙ (ap (λ (found : Option Flow). unwrap_or found no_flow) c.in_default.ensures.value ∙ sym (ap (λ m. flow_at m.entries c.args.number) same)))
    c.and-2.ensures
    ∙ ap (λ m. with_flow (whole_flow m.entries) c.args.flow) same
