-- That `shown_account` keeps its contract.
use Rattle.std.proofs.Common.{sym, ◌∙◌}
use Rattle.std.proofs.lemmas.List.{take_rest}
use Rattle.agent_http.proofs.ShowLaws.{shown}
use Rattle.agent_http.proofs.shows.shown_account.Goals as goal

pub returns-then-same_bytes-2 : goal.returns-then-same_bytes-2
returns-then-same_bytes-2 c =
    shown c.args.target.now c.args.method.now c.account_of.result (sym c.same_bytes.ensures ∙ c.if-same_bytes.true)
    (sym c.same_bytes-then-same_bytes.ensures ∙ c.if-same_bytes-2.true) (simp take_rest at c.account_of.ensures)
