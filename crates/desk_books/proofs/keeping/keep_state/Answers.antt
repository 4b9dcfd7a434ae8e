-- That `keep_state` keeps its contract.
use Rattle.std.proofs.Common.{Some, ap, length, sym, ◌∙◌}
use Rattle.checkpoint_replay.specs.declared.states.KeptState.{KeptState}
use Rattle.desk_books.proofs.KeptMoved.{one-more-kept, shown-is-as-of}
use Rattle.desk_books.proofs.keeping.keep_state.Goals as goal

pub returns-in_ok-state-in-Some : goal.returns-in_ok-state-in-Some
returns-in_ok-state-in-Some c = λ book ledger last settled are.
    let state : KeptState = record { sheet = c.args.sheet; state = c.in_ok-state-in-Some.state; trades = length c.trades-trades.result.now; orders = c.args.orders } in
    let shown = sym c.in-Some.ensures ∙ ap Some (sym c.in_ok-state-in-Some.ensures) in
    let is = shown-is-as-of book c.args.ledger.now.parts c.args.household state ledger last shown (ap length c.trades-trades.ensures) settled in
    one-more-kept book c.args.household state c.args.kept.now c.keep.new.self c.keep.ensures.own c.keep.ensures.others is are
