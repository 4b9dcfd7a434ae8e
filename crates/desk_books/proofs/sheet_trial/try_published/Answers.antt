-- That `try_published` keeps its contract.
use Rattle.std.proofs.Common.{◌∙◌}
use Rattle.std.proofs.lemmas.Result.{IfOk-weaker}
use Rattle.desk_books.proofs.SheetPublished.{comes-next, on-trial}
use Rattle.desk_books.proofs.sheet_trial.try_published.Goals as goal

pub publish-number-requires-clause-fits : goal.publish-number-requires-clause-fits
publish-number-requires-clause-fits g c =
    comes-next c.args.books.now.book.journal c.args.event.now c.sheet_of-form.result.now c.make_room.new.prices.table
    c.requires.follows c.sheet_of-form.ensures (c.make_room.ensures.table ∙ c.requires.books.prices)

pub change_on_trial-change-requires : goal.change_on_trial-change-requires
change_on_trial-change-requires g c =
    let made = c.publish-number.ensures in (
      c.args.event.now,
      on-trial c.args.books.now c.args.event.now c.sheet_of-form.result.now c.make_room.new.prices c.publish-number.new.prices c.publish-number.result
          c.requires.books c.requires.follows c.sheet_of-form.ensures c.make_room.ensures.table made.number made.table,
    )

pub returns-clause-change : goal.returns-clause-change
returns-clause-change g c =
    let made = c.publish-number.ensures in
    let on = on-trial c.args.books.now c.args.event.now c.sheet_of-form.result.now c.make_room.new.prices c.publish-number.new.prices c.publish-number.result c.requires.books c.requires.follows c.sheet_of-form.ensures c.make_room.ensures.table made.number made.table in
    IfOk-weaker c.change_on_trial-change.result _ _ (λ change makes. makes c.args.event.now on) c.change_on_trial-change.ensures.change

pub returns-clause-steps : goal.returns-clause-steps
returns-clause-steps g c =
    let made = c.publish-number.ensures in
    let on = on-trial c.args.books.now c.args.event.now c.sheet_of-form.result.now c.make_room.new.prices c.publish-number.new.prices c.publish-number.result c.requires.books c.requires.follows c.sheet_of-form.ensures c.make_room.ensures.table made.number made.table in
    IfOk-weaker c.change_on_trial-change.result _ _ (λ change takes. takes c.args.event.now on) c.change_on_trial-change.ensures.steps
