-- That `window_of` keeps its contract.
use Rattle.std.proofs.Common.{take, ap, ◌∙◌}
use Rattle.std.proofs.lemmas.List.{take_min}
use Rattle.http_stream.proofs.intake.window_of.Goals as goal

pub returns : goal.returns
returns c = ap (λ n. take n c.args.rest.now) c.min.ensures ∙ take_min 16384 c.args.rest.now
