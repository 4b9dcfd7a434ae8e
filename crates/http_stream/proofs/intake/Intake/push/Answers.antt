-- That `Intake::push` keeps its contract.
use Rattle.std.proofs.Common.{◌≤◌, List, ℕ, ◌∙◌, ap, subst, sym, arith, length, drop}
use Rattle.std.proofs.lemmas.List.{drop-append-le}
use Rattle.http_stream.specs.Kept.{IsKept}
use Rattle.http_stream.proofs.MoreLaws.{kept-more}
use Rattle.http_stream.proofs.intake.Intake.push.Goals as goal

pub invariant_of-self-2 : goal.invariant_of-self-2
invariant_of-self-2 c =
    let inside = c.self.inside in
    let same = inside.bytes.ok.0 in
    let more = c.in_ok-extend_from_slice.ensures in
    let kept = c.self.invariant in
    let within : inside.start ≤ length inside.bytes.items = omega (arith, same, kept.0) in
    let rest = ap (drop inside.start) more.items ∙ drop-append-le inside.start inside.bytes.items c.args.piece.now within in
    let P : List ℕ → Type 0 = λ left. IsKept (record { rest = left; given = inside.given; closed = inside.closed }) inside.scan inside.waiting in (
      omega (arith, more.len, kept.0),
      subst P (sym rest)
          (kept-more (record { rest = drop inside.start inside.bytes.items; given = inside.given; closed = inside.closed }) c.args.piece.now inside.scan inside.waiting kept.1),
    )
