-- That `row_at` keeps its contract.
use Rattle.std.proofs.Common.{◌≡◌, ◌≤◌, Bor, None, Option, Some, length, sym, ◌∙◌}
use Rattle.std.specs.Option.{MatchOption, option_copied}
use Rattle.std.proofs.lemmas.Option.{none-some, slice_get_past}
use Rattle.agent_keeper.proofs.PackedFacts.{row-missing}
use Rattle.agent_keeper.proofs.packed_rows.row_at.Goals as goal

where_none : {T A : Type 0} (B : Bor T → Type 0) (found : Option (Bor T)) → option_copied found ≡ None → MatchOption found A B → A
where_none B None missing holds = holds
where_none B (Some x) missing holds = absurd (none-some x.now (sym missing))

pub returns-in-None : goal.returns-in-None
returns-in-None c =
    let past : length c.args.ends.now ≤ c.args.place = where_none _ c.get.result (sym c.copied.ensures ∙ c.in-None.is) c.get.ensures.lookup.3 in
    sym (row-missing c.args.bytes.now 0 c.args.ends.now c.args.place (slice_get_past c.args.ends.now c.args.place past))
