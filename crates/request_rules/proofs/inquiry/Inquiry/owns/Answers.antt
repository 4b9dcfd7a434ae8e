-- That `Inquiry::owns` keeps its contract.
use Rattle.std.proofs.Common.{rules, ◌==◌}
use Rattle.agent_events.specs.declared.request.AccountForm.{AccountForm}
use Rattle.request_rules.proofs.LookUps.{one_of}
use Rattle.request_rules.proofs.inquiry.Inquiry.owns.Goals as goal

pub returns : goal.returns
returns c =
    rw (one_of (λ (a : AccountForm). a.account) (λ (a : AccountForm). a.household == c.args.household) c.args.number c.args.self.now.book.accounts (c.account_is_of.ensures.once c.args.number))
    (search rules)
