-- The proof of the law `corrected_parts_go_on_from_a_checkpoint`.
use Rattle.std.proofs.Common.{ap, sym, take, ◌∙◌}
use Rattle.register_laws.proofs.HouseholdSheets.{goes-on}
use Rattle.register_laws.proofs.ReplayedAlone.{replayed_alone}
use Rattle.register_laws.proofs.household_laws.corrected_parts_go_on_from_a_checkpoint.Goals as goal
use Rattle.register_laws.specs.HouseholdSheets.{replay_from, sheets_between}
use Rattle.register_laws.specs.Households.{own_book}

pub returns : goal.returns
returns c book other household from to early same =
    let sheets = other.table.sheets in
    replayed_alone other household (take to sheets)
    ∙ (goes-on (own_book household other) from to early
    ∙ ap (λ day. replay_from (own_book household other) day (sheets_between other from to)) (sym (replayed_alone other household (take from sheets)) ∙ same))
