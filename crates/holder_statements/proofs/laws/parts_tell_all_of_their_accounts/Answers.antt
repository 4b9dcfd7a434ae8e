-- The proof of the law `parts_tell_all_of_their_accounts`.
use Rattle.agent_events.specs.declared.trade.Trade.{Trade}
use Rattle.holder_statements.proofs.AlikeStatements.{one_of_some}
use Rattle.holder_statements.proofs.laws.parts_tell_all_of_their_accounts.Goals as goal
use Rattle.register_machine.specs.replay.Positions.{Position}

pub returns : goal.returns
returns c is_own account day own = record {
  register = one_of_some (λ (position : Position). position.account) is_own account own day.register;
  trades = one_of_some (λ (trade : Trade). trade.account) is_own account own day.trades;
}
