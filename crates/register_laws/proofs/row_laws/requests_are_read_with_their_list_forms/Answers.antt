-- The proof of the law `requests_are_read_with_their_list_forms`.
use Rattle.register_laws.proofs.ListForms.{asked-forms, batch-forms}
use Rattle.register_laws.proofs.row_laws.requests_are_read_with_their_list_forms.Goals as goal

pub returns : goal.returns
returns c verb fields = (asked-forms verb fields, batch-forms fields)
