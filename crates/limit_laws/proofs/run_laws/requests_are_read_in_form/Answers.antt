-- The proof of the law `requests_are_read_in_form`.
use Rattle.limit_laws.proofs.ReadInForm.{asked-forms, batch-forms}
use Rattle.limit_laws.proofs.run_laws.requests_are_read_in_form.Goals as goal

pub returns : goal.returns
returns c verb fields = record { by_verb = asked-forms verb fields; by_line = batch-forms fields }
