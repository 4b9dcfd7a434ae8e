-- That `Ledger::reopen` keeps its contract.
use Rattle.checkpoint_replay.proofs.ReopenedDay.{others-stay, ready-behind, reopened-day, starts-fresh}
use Rattle.checkpoint_replay.specs.Moves.{households_of}
use Rattle.checkpoint_replay.specs.Parts.{part_in}
use Rattle.checkpoint_replay.specs.declared.reopening.ReplayStart.{ReplayStart}
use Rattle.household_fold.specs.Households.{Household}
use Rattle.std.proofs.Common.{ap, arith, refl}
use Rattle.std.proofs.lemmas.Result.{IfOk-weaker}
use Rattle.checkpoint_replay.proofs.ledger.Ledger.reopen.Goals as goal

pub reopen_behind-requires-clause-ready : goal.reopen_behind-requires-clause-ready
reopen_behind-requires-clause-ready g c =
    let start : ReplayStart = record { household = c.args.household; state = c.fresh.result; sheet = 0; kept = 0 } in
    let trades = (part_in c.args.self.now.parts c.args.household).trades in
    ready-behind c.args.facts.now c.args.orders.now start trades (omega arith)
    (starts-fresh c.args.facts.now c.args.orders.now start trades refl refl (ap (λ (s : Household). s.register) c.fresh.ensures))
    c.requires

pub returns-clause-day : goal.returns-clause-day
returns-clause-day g c =
    let start : ReplayStart = record { household = c.args.household; state = c.fresh.result; sheet = 0; kept = 0 } in
    let trades = (part_in c.args.self.now.parts c.args.household).trades in
    IfOk-weaker c.reopen_behind.result _ _
    (λ change is. reopened-day c.args.facts.now c.args.orders.now c.args.self.now.parts start (omega arith)
    (starts-fresh c.args.facts.now c.args.orders.now start trades refl refl (ap (λ (s : Household). s.register) c.fresh.ensures)) change.moves is)
    c.reopen_behind.ensures.moves

pub returns-clause-others : goal.returns-clause-others
returns-clause-others g c =
    let start : ReplayStart = record { household = c.args.household; state = c.fresh.result; sheet = 0; kept = 0 } in
    IfOk-weaker c.reopen_behind.result _ _
    (λ change is other apart. others-stay c.args.facts.now c.args.orders.now c.args.self.now.parts start change.moves is other apart)
    c.reopen_behind.ensures.moves

pub returns-clause-households : goal.returns-clause-households
returns-clause-households g c =
    IfOk-weaker c.reopen_behind.result _ _ (λ change is. ap households_of is) c.reopen_behind.ensures.moves
