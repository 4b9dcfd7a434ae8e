-- That `fault_bytes` keeps its contract.
use Rattle.std.proofs.Common.{◌≡◌, ◌∙◌, Bool, subst, sym}
use Rattle.agent_http.specs.Bytes.{fault_bytes}
use Rattle.agent_http.proofs.FaultLaws.{kept-is, last-is}
use Rattle.agent_http.proofs.faults.fault_bytes.Goals as goal

pub returns-then-last : goal.returns-then-last
returns-then-last c =
    let P : Bool → Type 0 = λ last. c.last_bytes.result.now ≡ fault_bytes c.args.fault last in
    subst P (sym c.if-last.true) (c.last_bytes.ensures ∙ last-is c.args.fault)

pub returns-else-last : goal.returns-else-last
returns-else-last c =
    let P : Bool → Type 0 = λ last. c.kept_bytes.result.now ≡ fault_bytes c.args.fault last in
    subst P (sym c.if-last.false) (c.kept_bytes.ensures ∙ kept-is c.args.fault)
