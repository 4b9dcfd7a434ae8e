-- That `listing` keeps its contract.
use Rattle.load_requests.proofs.CalendarFacts.{made_so, refused_so}
use Rattle.load_requests.proofs.opening.listing.Goals as goal

pub want_of_memory-requires : goal.want_of_memory-requires
want_of_memory-requires c = refused_so c.in-Err.fault c.first_day.result c.last_day.result c.first_day.ensures c.last_day.ensures c.in-Err.ensures.refused

pub returns-in-Ok : goal.returns-in-Ok
returns-in-Ok c = made_so c.in-Ok.calendar c.first_day.result c.last_day.result c.first_day.ensures c.last_day.ensures c.in-Ok.ensures.made
