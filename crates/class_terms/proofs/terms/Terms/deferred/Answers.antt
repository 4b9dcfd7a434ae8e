-- That `Terms::deferred` keeps its contract.
use Rattle.std.proofs.Common.{subst, ◌≤◌}
use Rattle.std.specs.Prelude.{All}
use Rattle.class_terms.specs.declared.form.TermsForm.{TermsForm}
use Rattle.class_terms.proofs.TableFacts.{deferred-ceiling}
use Rattle.class_terms.proofs.terms.Terms.deferred.Goals as goal

pub returns-clause-ceiling : goal.returns-clause-ceiling
returns-clause-ceiling c =
    subst (λ (form : TermsForm). All (λ rate. rate ≤ 850) form.deferred) c.self.view_is (deferred-ceiling c.self.inside.form.deferred c.self.invariant.1)
