-- That `Terms::front` keeps its contract.
use Rattle.std.proofs.Common.{subst, ◌≤◌}
use Rattle.std.specs.Prelude.{All}
use Rattle.class_terms.specs.declared.form.TermsForm.{TermsForm}
use Rattle.class_terms.proofs.TableFacts.{front-ceiling}
use Rattle.class_terms.proofs.terms.Terms.front.Goals as goal

pub returns-clause-ceiling : goal.returns-clause-ceiling
returns-clause-ceiling c =
    subst (λ (form : TermsForm). All (λ row. row.rate ≤ 850) form.front) c.self.view_is (front-ceiling c.self.inside.form.front c.self.invariant.0)
