-- That `scan_front` keeps its contract.
use Rattle.std.proofs.Common.{◌≡◌, ◌≤◌, ℕ, ◌-◌, List, refl, min, length, take, ◌∙◌, arith}
use Rattle.std.proofs.lemmas.List.{length-take, length-drop}
use Rattle.http_stream.specs.Lines.{head_limit}
use Rattle.http_stream.proofs.FrontLaws.{front_scan-is}
use Rattle.http_stream.proofs.intake.scan_front.Goals as goal

size-in : (rest : List ℕ) (size : ℕ) → size ≤ length rest → size ≤ head_limit → size ≤ length (take head_limit rest)
size-in rest size within few = rw length-take (omega arith)

pub behind-requires : goal.behind-requires
behind-requires c = rw c.window_of-window.ensures (size-in c.args.rest.now c.args.scan.size c.requires.within c.requires.few)

pub scan_on-requires-clause-few : goal.scan_on-requires-clause-few
scan_on-requires-clause-few c =
    rw (c.behind.ensures, length-drop, c.window_of-window.ensures, length-take) (omega arith)

pub returns : goal.returns
returns c =
    let window : length c.behind.result.now ≡ min head_limit (length c.args.rest.now) - c.args.scan.size =
    rw (c.behind.ensures, length-drop, c.window_of-window.ensures, length-take) refl in
    record {
      is = c.scan_on.ensures.folded ∙ rw (c.behind.ensures, c.window_of-window.ensures) (front_scan-is c.args.rest.now c.args.scan c.requires);
      within = omega arith;
      few = omega arith;
      lines = c.scan_on.ensures.lines;
      all = λ e. c.scan_on.ensures.all e ∙ (omega arith);
    }
