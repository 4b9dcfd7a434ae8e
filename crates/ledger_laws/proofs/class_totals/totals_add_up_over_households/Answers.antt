-- That `totals_add_up_over_households` keeps its contract.
use Rattle.std.proofs.Common.{ap, arith, pos, sum_by, ℕ, ◌+◌, ◌∙◌, ◌≡◌}
use Rattle.gain_loss_book.specs.Movements.{trades_mils}
use Rattle.gain_loss_book.specs.Flows.{net}
use Rattle.register_laws.proofs.HouseholdSums.{day-sums}
use Rattle.register_laws.proofs.LawfulReplaysKept.{has_a_lawful_book}
use Rattle.register_laws.specs.Households.{part_of}
use Rattle.register_laws.specs.HouseholdSums.{household_numbers}
use Rattle.register_laws.specs.Lawful.{book_behind}
use Rattle.register_machine.specs.corrections.Cash.{outstanding}
use Rattle.register_machine.specs.replay.Replay.{replay}
use Rattle.register_machine.specs.replay.Trades.{Day}
use Rattle.ledger_laws.proofs.ClassTotals.{added-up, totals_by_differences}
use Rattle.ledger_laws.proofs.class_totals.totals_add_up_over_households.Goals as goal

pub returns : goal.returns
unfolding replay
returns c journal lawful class =
    let book = book_behind journal in
    let totals = totals_by_differences book (has_a_lawful_book journal lawful).orderly in
    let parts : ℕ → Day = λ household. part_of book.accounts household (replay book) in
    let all : outstanding (replay book).register class ≡ 0 + sum_by (λ household. outstanding (parts household).register class) (household_numbers journal) =
    omega (arith, (day-sums journal lawful book.table.sheets).mils class) in
    ap pos all
    ∙ added-up (λ household. net (trades_mils (parts household).trades class)) (λ household. outstanding (parts household).register class) (λ household. totals.in_parts household class) 0 (household_numbers journal)
