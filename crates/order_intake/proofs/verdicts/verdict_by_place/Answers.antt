-- That `verdict_by_place` keeps its contract.
use Rattle.order_intake.proofs.verdicts.verdict_by_place.Goals as goal
use Rattle.register_laws.proofs.HasNoIdentityTwice.{no_identity_twice}

pub first_repeated-requires : goal.first_repeated-requires
first_repeated-requires c = no_identity_twice c.args.book.now.journal c.requires.lawful
