-- The proof of the law `sheets_of_lawful_journals_never_fall`.
use Rattle.register_laws.proofs.SheetsClimb.{moments-climb, sheets-climb}
use Rattle.register_laws.proofs.household_laws.sheets_of_lawful_journals_never_fall.Goals as goal

pub returns : goal.returns
returns c journal lawful = moments-climb journal (sheets-climb journal lawful).climbs
