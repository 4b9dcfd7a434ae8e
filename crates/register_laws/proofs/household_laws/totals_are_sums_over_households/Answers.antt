-- The proof of the law `totals_are_sums_over_households`.
use Rattle.std.proofs.Common.{take}
use Rattle.register_laws.specs.Lawful.{book_behind}
use Rattle.register_machine.specs.replay.Replay.{replay}
use Rattle.register_laws.proofs.HouseholdSums.{day-sums, orders-once}
use Rattle.register_laws.proofs.household_laws.totals_are_sums_over_households.Goals as goal

pub returns : goal.returns
unfolding replay
returns c journal lawful = record {
  orders = orders-once journal lawful;
  whole = day-sums journal lawful (book_behind journal).table.sheets;
  up_to = λ number. day-sums journal lawful (take number (book_behind journal).table.sheets);
}
