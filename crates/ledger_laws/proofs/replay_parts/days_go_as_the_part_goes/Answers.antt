-- That `days_go_as_the_part_goes` keeps its contract.
use Rattle.ledger_laws.proofs.ReplaysAsPart.{days-first, days-from, days-whole}
use Rattle.ledger_laws.proofs.replay_parts.days_go_as_the_part_goes.Goals as goal

pub returns : goal.returns
returns c known rows book household facts are = record {
  from_any = days-from known rows book household facts are;
  from_first = days-first known rows book household facts are;
  whole = days-whole known rows book household facts are;
}
