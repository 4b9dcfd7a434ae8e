-- The proof of the law `what_the_machine_brings_fits`.
use Rattle.order_book.specs.FitsNext.{FitsNext}
use Rattle.register_laws.proofs.AnswersByCases.{asks}
use Rattle.register_laws.specs.Lawful.{own_at}
use Rattle.register_machine.specs.rules.InOrder.{broken_rule}
use Rattle.register_machine.specs.run.Verdicts.{due_now}
use Rattle.std.proofs.Common.{subst, ap, ◌∙◌}
use Rattle.order_book.proofs.BroughtFits.{clear-fits, fresh-brought}
use Rattle.order_book.proofs.laws.what_the_machine_brings_fits.Goals as goal

pub returns : goal.returns
returns c journal now caller request event lawful fresh =
    let situation = own_at journal now caller in
    let is = fresh-brought situation request event fresh in
    subst (FitsNext journal) is.same
    (clear-fits journal now caller is.kind now lawful (ap (broken_rule situation) (asks request now (due_now situation request) is.kind is.brought) ∙ is.clear))
