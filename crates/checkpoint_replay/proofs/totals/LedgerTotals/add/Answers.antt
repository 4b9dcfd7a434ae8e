-- That `LedgerTotals::add` keeps its contract.
use Rattle.agent_events.specs.declared.reply_lists.ClassGain.{ClassGain}
use Rattle.checkpoint_replay.proofs.ShareFacts.{shares-fit, shares-in-within, shares-out-within}
use Rattle.checkpoint_replay.specs.Totals.{TotalRows}
use Rattle.gain_loss_book.specs.Flows.{whole_flow}
use Rattle.gain_loss_book.specs.Posted.{gains_kept}
use Rattle.std.proofs.Common.{Bool, List, None, Option, ap, arith, cond, false, refl, true, ◌∙◌, ◌≡◌}
use Rattle.checkpoint_replay.proofs.totals.LedgerTotals.add.Goals as goal

pub add_shares-requires-clause-inflow : goal.add_shares-requires-clause-inflow
add_shares-requires-clause-inflow c =
    (shares-fit c.as_slice.result.now c.args.changes.now.outstanding c.as_slice.ensures (whole_flow c.self.inside.shares.rows).inflow c.self.inside.cash.posts c.self.invariant.inflow c.self.invariant.count c.requires.limits.mils).0

pub add_shares-requires-clause-outflow : goal.add_shares-requires-clause-outflow
add_shares-requires-clause-outflow c =
    (shares-fit c.as_slice.result.now c.args.changes.now.outstanding c.as_slice.ensures (whole_flow c.self.inside.shares.rows).outflow c.self.inside.cash.posts c.self.invariant.outflow c.self.invariant.count c.requires.limits.mils).1

-- no gains either way
none-either : (here : Bool) (before : Option (List ClassGain)) → before ≡ None → cond here None before ≡ None
none-either true before none = refl
none-either false before none = none

pub invariant_of-self : goal.invariant_of-self
invariant_of-self c =
    let posts = ap (λ (totals : TotalRows). totals.cash.posts) c.self.view_is in
    let rows = c.as_slice.result.now in
    let asked = c.args.changes.now.outstanding in
    let before = whole_flow c.self.inside.shares.rows in
    let after = whole_flow c.add_shares.new.shares.rows in
    record {
      inflow = omega (arith, shares-in-within rows asked c.as_slice.ensures before after c.self.inside.cash.posts c.self.invariant.inflow c.add_shares.ensures.whole c.requires.limits.mils, c.post.ensures.posts);
      outflow = omega (arith, shares-out-within rows asked c.as_slice.ensures before after c.self.inside.cash.posts c.self.invariant.outflow c.add_shares.ensures.whole c.requires.limits.mils, c.post.ensures.posts);
      count = omega (arith, posts, c.post.ensures.posts, c.requires.limits.count);
      gains = λ seq. c.post.ensures.gains seq ∙ none-either _ (gains_kept c.self.inside.cash seq) (c.self.invariant.gains seq);
    }
