-- That `replayed_registers_stand_in_order` keeps its contract.
use Rattle.ledger_laws.proofs.replay_parts.replayed_registers_stand_in_order.Goals as goal
use Rattle.register_laws.proofs.ReplayedAlone.{first-part, sheets-part}
use Rattle.register_laws.specs.Households.{is_of_household}
use Rattle.register_machine.specs.replay.Replay.{first_day}

pub returns : goal.returns
returns c book sheets =
    (sheets-part book 0 sheets first_day first_day (first-part (is_of_household book.accounts 0))).in_order
