-- That `serve_connection` keeps its contract.
use Rattle.connection_service.proofs.serving.serve_connection.Goals as goal

pub returns-clause-served : goal.returns-clause-served
returns-clause-served g c = record {
  until_shut = g.D.Door.told c.serve_all-served.new.door;
  is_served = c.serve_all-served.ensures.served;
  shut = c.shut.ensures.links;
}
