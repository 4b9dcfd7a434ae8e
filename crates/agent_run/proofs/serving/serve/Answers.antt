-- That `serve` keeps its contract.
use Rattle.std.proofs.Common.{Err, ap, ◌∙◌}
use Rattle.agent_run.proofs.RunFacts.{grow-lawfully, grown-lawful, is-opened}
use Rattle.agent_run.proofs.serving.serve.Goals as goal

pub returns-in-Ok-clause-served : goal.returns-in-Ok-clause-served
returns-in-Ok-clause-served g c = λ e. record {
  opened = c.in-Ok.desk.book.journal;
  is_opened = is-opened (g.K.Keeper.tells c.args.keeper.now) (g.K.Keeper.tells c.open.new.keeper) (g.K.Keeper.tells c.serve_opened.new.keeper) c.in-Ok.desk.book.journal
      (λ last is first was. c.in-Ok.ensures.speaks (c.serve_opened.ensures.was_honest (g.met.K.Keeper.honest c.serve_opened.new.keeper last is)) first was)
      c.in-Ok.ensures.told c.in-Ok.ensures.lawful;
  keeper_faults = g.K.Keeper.faults c.open.new.keeper;
  no_fewer = c.open.ensures.never_falls;
  behind = c.serve_opened.ensures.served e;
}

pub returns-in-Ok-clause-served_before : goal.returns-in-Ok-clause-served_before
returns-in-Ok-clause-served_before g c = λ e. record {
  opened = c.in-Ok.desk.book.journal;
  is_opened = is-opened (g.K.Keeper.tells c.args.keeper.now) (g.K.Keeper.tells c.open.new.keeper) (g.K.Keeper.tells c.serve_opened.new.keeper) c.in-Ok.desk.book.journal
      (λ last is first was. c.in-Ok.ensures.speaks (c.serve_opened.ensures.was_honest (g.met.K.Keeper.honest c.serve_opened.new.keeper last is)) first was)
      c.in-Ok.ensures.told c.in-Ok.ensures.lawful;
  keeper_faults = g.K.Keeper.faults c.open.new.keeper;
  no_fewer = c.open.ensures.never_falls;
  behind = c.serve_opened.ensures.served_before e;
}

pub returns-in-Ok-clause-not_damaged : goal.returns-in-Ok-clause-not_damaged
returns-in-Ok-clause-not_damaged g c = λ _.
    grown-lawful (g.K.Keeper.tells c.serve_opened.new.keeper) c.in-Ok.desk.book.journal c.serve_opened.ensures.grown

pub returns-in-Ok-clause-kept : goal.returns-in-Ok-clause-kept
returns-in-Ok-clause-kept g c =
    grow-lawfully (g.K.Keeper.tells c.args.keeper.now) (g.K.Keeper.tells c.serve_opened.new.keeper) c.in-Ok.desk.book.journal
    (is-opened (g.K.Keeper.tells c.args.keeper.now) (g.K.Keeper.tells c.open.new.keeper) (g.K.Keeper.tells c.serve_opened.new.keeper) c.in-Ok.desk.book.journal
    (λ last is first was. c.in-Ok.ensures.speaks (c.serve_opened.ensures.was_honest (g.met.K.Keeper.honest c.serve_opened.new.keeper last is)) first was)
    c.in-Ok.ensures.told c.in-Ok.ensures.lawful)
    c.serve_opened.ensures.grown

pub returns-in-Err-Damaged-clause-damaged : goal.returns-in-Err-Damaged-clause-damaged
returns-in-Err-Damaged-clause-damaged g c = λ is. (
  c.in-Err-Damaged.place,
  c.damaged.ensures.line,
  c.open.ensures.same,
  c.open.ensures.damaged c.in-Err-Damaged.place (c.in-Err-Damaged.is ∙ ap (λ fault. Err fault) c.in-Err-Damaged.field-0-is),
)
