-- That `serve_fault` keeps its contract.
use Rattle.std.proofs.Common.{List, subst, sym, ℕ}
use Rattle.connection_service.proofs.CountFacts.{counts-on}
use Rattle.connection_service.proofs.serving.serve_fault.Goals as goal
use Rattle.connection_service.specs.Serving.{CountsGoing, IsWritten}
use Rattle.connection_service.specs.declared.serving.Going.{Going}

pub returns-clause-on : goal.returns-clause-on
returns-clause-on g c = (
  c.write_bytes.result,
  subst (λ (text : List ℕ). IsWritten text (g.D.Door.told c.args.door.now) (g.D.Door.told c.write_bytes.new.door) c.write_bytes.result) c.fault_bytes.ensures c.write_bytes.ensures.written,
  c.going_on.ensures,
)

pub returns-clause-link : goal.returns-clause-link
returns-clause-link g c =
    subst (λ (going : Going). CountsGoing going (g.D.Door.link_faults c.args.door.now) (g.D.Door.link_faults c.write_bytes.new.door)) (sym c.going_on.ensures)
    (counts-on c.write_bytes.result (g.D.Door.link_faults c.args.door.now) (g.D.Door.link_faults c.write_bytes.new.door) c.write_bytes.ensures.fault c.write_bytes.ensures.no_fault)
