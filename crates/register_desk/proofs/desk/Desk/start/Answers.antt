-- That `Desk::start` keeps its contract.
use Rattle.std.proofs.Common.{Err, arith, subst, sym, ◌<◌, ◌≡◌}
use Rattle.std.proofs.lemmas.Result.{err_from_is_err_and}
use Rattle.agent_keeper.specs.declared.fault.KeepFault.{KeepFault}
use Rattle.register_desk.proofs.RowByRow.{damaged_as_given, damaged_as_told, number_err, rose_later}
use Rattle.register_desk.specs.Rows.{IsDamagedAt}
use Rattle.register_desk.specs.declared.faults.StartFault.{StartFault}
use Rattle.register_desk.proofs.desk.Desk.start.Goals as goal

-- Where the reading stopped, what is told is damaged.
pub returns-in_err-open_rows-clause-damaged : goal.returns-in_err-open_rows-clause-damaged
returns-in_err-open_rows-clause-damaged g c = λ place is kept told.
    let exit = err_from_is_err_and c.from_residual-in_err-open_rows.result c.from_residual-in_err-open_rows.ensures.1 in
    let same : Err c.in_err-open_rows.field-0.0 ≡ Err (StartFault.Damaged place) = grind (arith, exit.1, exit.2, is) in
    let found = c.in_err-open_rows.ensures.damaged place same in
    damaged_as_told g.K.Keeper.tells g.K.Keeper.moment g.K.Keeper.gave c.len.new.self c.open_rows.new.keeper place c.in_ok-count.count found.0 found.1 kept told
    (c.in_ok-count.ensures.exact kept (c.open_rows.ensures.reads.told kept told))

-- So it isn't the rows of a lawful journal.
pub returns-in_err-open_rows-clause-sound : goal.returns-in_err-open_rows-clause-sound
returns-in_err-open_rows-clause-sound g c = λ journal lawful in_form kept told rows place is.
    let exit = err_from_is_err_and c.from_residual-in_err-open_rows.result c.from_residual-in_err-open_rows.ensures.1 in
    let same : Err c.in_err-open_rows.field-0.0 ≡ Err (StartFault.Damaged place) = grind (arith, exit.1, exit.2, is) in
    let found = c.in_err-open_rows.ensures.damaged place same in
    c.lawful_rows_are_not_damaged.ensures journal lawful in_form place (subst (IsDamagedAt place) rows
    (damaged_as_told g.K.Keeper.tells g.K.Keeper.moment g.K.Keeper.gave c.len.new.self c.open_rows.new.keeper place c.in_ok-count.count found.0 found.1 kept told
    (c.in_ok-count.ensures.exact kept (c.open_rows.ensures.reads.told kept told))))

-- What was given is bad there too.
pub returns-in_err-open_rows-clause-given_bad : goal.returns-in_err-open_rows-clause-given_bad
returns-in_err-open_rows-clause-given_bad g c = λ place is.
    let exit = err_from_is_err_and c.from_residual-in_err-open_rows.result c.from_residual-in_err-open_rows.ensures.1 in
    let same : Err c.in_err-open_rows.field-0.0 ≡ Err (StartFault.Damaged place) = grind (arith, exit.1, exit.2, is) in
    let found = c.in_err-open_rows.ensures.damaged place same in
    damaged_as_given g.K.Keeper.tells g.K.Keeper.moment g.K.Keeper.gave c.args.keeper.now c.len.new.self c.open_rows.new.keeper place c.in_ok-count.count found.0
    c.len.ensures.goes_on c.open_rows.ensures.goes_on c.in_ok-count.ensures.given found.1

-- The count of faults rose while the rows were read, and not before.
pub returns-in_err-open_rows-clause-fault : goal.returns-in_err-open_rows-clause-fault
returns-in_err-open_rows-clause-fault g c = λ is.
    let exit = err_from_is_err_and c.from_residual-in_err-open_rows.result c.from_residual-in_err-open_rows.ensures.1 in
    let same : Err c.in_err-open_rows.field-0.0 ≡ Err StartFault.Keeper = grind (arith, exit.1, exit.2, is) in
    let before = c.in_ok-count.ensures.counted.same (λ fault. number_err c.in_ok-count.count KeepFault.Failed fault) in
    rose_later (g.K.Keeper.faults c.args.keeper.now) (g.K.Keeper.faults c.len.new.self) (g.K.Keeper.faults c.open_rows.new.keeper) (sym before) (c.in_err-open_rows.ensures.fault same)

pub returns-in_err-open_rows-clause-due : goal.returns-in_err-open_rows-clause-due
returns-in_err-open_rows-clause-due g c = λ rose.
    let exit = err_from_is_err_and c.from_residual-in_err-open_rows.result c.from_residual-in_err-open_rows.ensures.1 in
    let before = c.in_ok-count.ensures.counted.same (λ fault. number_err c.in_ok-count.count KeepFault.Failed fault) in
    let due = c.in_err-open_rows.ensures.due (subst (λ n. n < g.K.Keeper.faults c.open_rows.new.keeper) (sym before) rose) in
    grind (arith, exit.1, exit.2, due)

-- The steps up to the bad row are those of the reading.
pub returns-in_err-open_rows-clause-damaged_steps : goal.returns-in_err-open_rows-clause-damaged_steps
returns-in_err-open_rows-clause-damaged_steps g c = λ place is kept told.
    let exit = err_from_is_err_and c.from_residual-in_err-open_rows.result c.from_residual-in_err-open_rows.ensures.1 in
    let same : Err c.in_err-open_rows.field-0.0 ≡ Err (StartFault.Damaged place) = grind (arith, exit.1, exit.2, is) in
    c.in_err-open_rows.ensures.bad_steps place same kept told
