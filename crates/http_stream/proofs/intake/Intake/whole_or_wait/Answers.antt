-- That `Intake::whole_or_wait` keeps its contract.
use Rattle.std.proofs.Common.{List, ℕ, ◌+◌, leb, length, ap, sym, ◌∙◌, inr}
use Rattle.std.specs.Option.{unwrap_or}
use Rattle.http_stream.specs.Stream.{Shown}
use Rattle.http_stream.proofs.LookLaws.{not-whole}
use Rattle.http_stream.proofs.intake.Intake.whole_or_wait.Goals as goal

pub returns-else-is_whole-clause-looks : goal.returns-else-is_whole-clause-looks
returns-else-is_whole-clause-looks c =
    let at = c.args.head in
    let stands = c.requires.stands in
    let test = ap (λ (rest : List ℕ). leb (at.size + unwrap_or at.length 0) (length rest)) (sym c.rest.ensures) ∙ sym c.is_whole.ensures ∙ c.if-is_whole.false in
    inr (Shown.Head stands.0, stands.1, not-whole stands.0 at c.args.self.now.rest stands.2 test)
