-- That `Intake::look_by_lines` keeps its contract.
use Rattle.std.proofs.Common.{List, ℕ, subst}
use Rattle.http_stream.specs.Kept.{SeenAs}
use Rattle.http_stream.specs.declared.intake.Seen.{Seen}
use Rattle.http_stream.proofs.intake.Intake.look_by_lines.Goals as goal

pub returns-in-Closing-clause-looks : goal.returns-in-Closing-clause-looks
returns-in-Closing-clause-looks c =
    let P : List ℕ → Type 0 = λ rest. SeenAs rest (Seen.Closing c.in-Closing.fault) in
    let found = subst P c.rest.ensures c.in-Closing.ensures in
    (c.requires.is_open, found.0, found.1, found.2)
