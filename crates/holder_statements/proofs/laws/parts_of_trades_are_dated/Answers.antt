-- The proof of the law `parts_of_trades_are_dated`.
use Rattle.std.proofs.Common.{◌≤◌}
use Rattle.std.proofs.lemmas.List.Elements.{All-filter}
use Rattle.std.proofs.lemmas.List.Kept.{AllPairs-filter}
use Rattle.agent_events.specs.declared.trade.Trade.{Trade}
use Rattle.holder_statements.proofs.laws.parts_of_trades_are_dated.Goals as goal
use Rattle.holder_statements.specs.Periods.{IsNear}

pub returns : goal.returns
returns c is_of trades dated = record {
  in_turn = AllPairs-filter (λ (a : Trade) (b : Trade). a.moment ≤ b.moment) is_of trades dated.in_turn;
  near = All-filter is_of IsNear trades dated.near;
}
