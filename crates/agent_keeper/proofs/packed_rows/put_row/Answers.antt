-- That `put_row` keeps its contract.
use Rattle.std.proofs.Common.{◌++◌, ◌∷◌, [], length, ap, ◌∙◌}
use Rattle.std.proofs.lemmas.List.{length-append}
use Rattle.agent_keeper.specs.Packed.{rows_between}
use Rattle.agent_keeper.proofs.PackedFacts.{rows-more, ends-more}
use Rattle.agent_keeper.proofs.packed_rows.put_row.Goals as goal

pub returns-clause-rows : goal.returns-clause-rows
returns-clause-rows c =
    let bytes = c.args.bytes.now.items in
    let ends = c.args.ends.now.items in
    let row = c.args.row.now in
    let end = ap length (c.as_slice-end.ensures.value ∙ c.extend_within.ensures.items) ∙ length-append bytes row in
    ap (λ all. rows_between all 0 c.push_within.new.ends.items) c.extend_within.ensures.items
    ∙ ap (rows_between (bytes ++ row) 0) (c.push_within.ensures.items ∙ ap (λ n. ends ++ n ∷ []) end)
    ∙ rows-more bytes row 0 ends c.requires.ends

pub returns-clause-ends : goal.returns-clause-ends
returns-clause-ends c =
    let bytes = c.args.bytes.now.items in
    let ends = c.args.ends.now.items in
    let row = c.args.row.now in
    let count = ap length c.extend_within.ensures.items ∙ length-append bytes row in
    let end = ap length (c.as_slice-end.ensures.value ∙ c.extend_within.ensures.items) ∙ length-append bytes row in
    let all = c.push_within.ensures.items ∙ ap (λ n. ends ++ n ∷ []) end in
    rw (count, all) (ends-more (length bytes) (length row) 0 ends c.requires.ends)
