-- The proof of the law `unreached_households_have_no_broken_order`.
use Rattle.std.proofs.Common.{ap, ◌∙◌}
use Rattle.register_laws.proofs.Unreached.{stays-unbroken}
use Rattle.register_laws.proofs.household_laws.unreached_households_have_no_broken_order.Goals as goal
use Rattle.register_laws.specs.BrokenByParts.{first_broken_in}
use Rattle.register_laws.specs.Households.{part_of}
use Rattle.register_laws.specs.Lawful.{book_behind}
use Rattle.register_machine.specs.journal.Kinds.{accounts_of}
use Rattle.register_machine.specs.replay.Replay.{replay}
use Rattle.register_machine.specs.replay.Trades.{Day}

pub returns : goal.returns
returns c journal lawful numbered household order after other same =
    ap (λ (part : Day). first_broken_in order (part_of (accounts_of journal) household (replay (book_behind journal))) part) same
    ∙ stays-unbroken journal lawful numbered household order other
