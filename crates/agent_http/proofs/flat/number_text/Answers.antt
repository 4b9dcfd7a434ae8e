-- That `number_text` keeps its contract.
use Rattle.std.proofs.Common.{◌≡◌, ◌==◌, ◌∙◌, false, slice_index, sym, ap}
use Rattle.fast_float.specs.Text.{scan}
use Rattle.agent_http.proofs.FlatReads.{number-reads}
use Rattle.agent_http.proofs.flat.number_text.Goals as goal

pub returns-in-Some : goal.returns-in-Some
returns-in-Some c =
    let text = c.args.text.now in
    let plain : (slice_index text 0 == 45) ≡ false =
    ap (λ bytes. slice_index bytes 0 == 45) (sym c.as_bytes.ensures.value) ∙ sym c.has_minus.ensures ∙ c.if-has_minus.false in
    let parts : c.scan.result ≡ scan text = c.scan.ensures.parts ∙ ap scan c.as_bytes-2.ensures.value in
    let found = rw parts at c.in-Some.ensures in
    (c.in-Some.number, number-reads text c.in-Some.number plain found.0.0 found.0.1 (sym found.1), c.whole_text.ensures)
