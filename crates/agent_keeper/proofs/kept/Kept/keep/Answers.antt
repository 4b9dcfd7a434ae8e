-- That `Kept::keep` keeps its contract.
use Rattle.std.proofs.Common.{◌++◌, Result, Ok, Err, OnErr, ◌∙◌, ap}
use Rattle.agent_keeper.proofs.Contents.{same_content, check_after}
use Rattle.agent_keeper.proofs.kept.Kept.keep.Goals as goal

on-err : {T E P : Type 0} (result : Result T E) → P → OnErr result P
on-err (Ok x) holds = tt
on-err (Err e) holds = holds

pub returns-in_err-append-clause-err : goal.returns-in_err-append-clause-err
returns-in_err-append-clause-err c = on-err c.from_residual-in_err-append.result (same_content _ _ c.in_err-append.ensures.err (λ household sheet. c.make_room.ensures.same _))

pub returns-clause-ok : goal.returns-clause-ok
returns-clause-ok c = same_content _ _
    (c.in_ok-append.ensures.ok ∙ ap (λ rows. c.args.self.now.rows ++ rows) c.as_slice-2.ensures)
    (λ household sheet. check_after c.args.batch.now.removes _ c.args.batch.now.puts _ _ _ _ _ household sheet
    c.as_slice-3.ensures (c.into_vec-puts.ensures ∙ c.in_ok-copy_puts.ensures ∙ c.as_slice.ensures)
    (c.make_room.ensures.same (record { household = household; sheet = sheet }))
    (c.put_all.ensures (record { household = household; sheet = sheet }))
    (c.remove_all.ensures (record { household = household; sheet = sheet })))
