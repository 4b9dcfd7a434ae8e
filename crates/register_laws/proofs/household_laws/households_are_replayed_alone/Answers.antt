-- The proof of the law `households_are_replayed_alone`.
use Rattle.register_laws.proofs.ReplayedAlone.{first-part, part-day, sheets-part}
use Rattle.register_laws.proofs.household_laws.households_are_replayed_alone.Goals as goal
use Rattle.register_laws.specs.Households.{is_of_household, own_book}
use Rattle.register_machine.specs.replay.Replay.{first_day, replay_over}

pub returns : goal.returns
returns c book household sheets =
    part-day (is_of_household book.accounts household) (replay_over book sheets) (replay_over (own_book household book) sheets)
    (sheets-part book household sheets first_day first_day (first-part (is_of_household book.accounts household)))
