-- The proof of the law `quiet_sheets_leave_a_part`.
use Rattle.std.proofs.Common.{[], sym, ◌++◌, ◌∙◌, ◌∷◌}
use Rattle.register_laws.proofs.HouseholdSheets.{quiet-replay}
use Rattle.register_laws.proofs.ReplayedAlone.{replayed_alone}
use Rattle.register_laws.proofs.household_laws.quiet_sheets_leave_a_part.Goals as goal

pub returns : goal.returns
returns c book household before sheet quiet =
    replayed_alone book household (before ++ sheet ∷ [])
    ∙ (quiet-replay book household before sheet quiet ∙ sym (replayed_alone book household before))
