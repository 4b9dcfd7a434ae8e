-- That `publish` keeps its contract.
use Rattle.reference_tables.proofs.Forms.{list_rises}
use Rattle.reference_tables.proofs.applying.publish.Goals as goal

pub publish-number-requires-clause-complete : goal.publish-number-requires-clause-complete
publish-number-requires-clause-complete c = rw (c.number.ensures.value, c.as_slice.ensures.value) c.requires.fits.complete

pub publish-number-requires-clause-rises : goal.publish-number-requires-clause-rises
publish-number-requires-clause-rises c = list_rises c.as_slice.result.now c.as_slice.ensures.form
