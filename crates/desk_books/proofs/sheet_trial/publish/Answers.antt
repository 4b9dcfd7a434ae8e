-- That `publish` keeps its contract.
use Rattle.reference_tables.proofs.Forms.{list_rises}
use Rattle.desk_books.proofs.sheet_trial.publish.Goals as goal

pub publish-requires-clause-complete : goal.publish-requires-clause-complete
publish-requires-clause-complete c = rw (c.number.ensures.value, c.as_slice.ensures.value) c.requires.fits.complete

pub publish-requires-clause-rises : goal.publish-requires-clause-rises
publish-requires-clause-rises c = list_rises c.as_slice.result.now c.as_slice.ensures.form
