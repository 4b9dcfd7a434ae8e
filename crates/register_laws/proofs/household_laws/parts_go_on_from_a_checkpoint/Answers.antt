-- The proof of the law `parts_go_on_from_a_checkpoint`.
use Rattle.std.proofs.Common.{ap, sym, take, ◌∙◌}
use Rattle.register_laws.proofs.HouseholdSheets.{goes-on}
use Rattle.register_laws.proofs.ReplayedAlone.{replayed_alone}
use Rattle.register_laws.proofs.household_laws.parts_go_on_from_a_checkpoint.Goals as goal
use Rattle.register_laws.specs.HouseholdSheets.{replay_from, sheets_between}
use Rattle.register_laws.specs.Households.{own_book}

pub returns : goal.returns
returns c book household from to early =
    let sheets = book.table.sheets in
    replayed_alone book household (take to sheets)
    ∙ (goes-on (own_book household book) from to early
    ∙ ap (λ day. replay_from (own_book household book) day (sheets_between book from to)) (sym (replayed_alone book household (take from sheets))))
