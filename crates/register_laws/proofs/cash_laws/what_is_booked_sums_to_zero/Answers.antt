-- The proof of the law `what_is_booked_sums_to_zero`.
use Rattle.register_machine.specs.corrections.Payments.{booked_movements}
use Rattle.register_machine.specs.pricing.CorrectedBook.{book_of}
use Rattle.register_machine.specs.replay.Replay.{replay}
use Rattle.register_laws.proofs.CashBalances.{movements-balance}
use Rattle.register_laws.proofs.cash_laws.what_is_booked_sums_to_zero.Goals as goal

pub returns : goal.returns
returns c table journal = movements-balance (booked_movements journal (replay (book_of table journal)))
