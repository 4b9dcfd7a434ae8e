-- That `last_before` keeps its contract.
use Rattle.std.proofs.Common.{option_and_then, ap, ◌∙◌}
use Rattle.forward_price.specs.PriceTables.{patched_nav}
use Rattle.forward_price.proofs.next_price.last_before.Goals as goal

pub returns-in-Some : goal.returns-in-Some
returns-in-Some c =
    c.patched_nav.ensures ∙ ap (option_and_then (λ sheet. patched_nav c.args.patch sheet c.args.class)) (c.in-Some.ensures)

pub returns-in-None : goal.returns-in-None
returns-in-None c =
    ap (option_and_then (λ sheet. patched_nav c.args.patch sheet c.args.class)) (c.in-None.ensures)
