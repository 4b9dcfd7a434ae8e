-- That `try_correction` keeps its contract.
use Rattle.std.proofs.Common.{subst, sym}
use Rattle.desk_books.proofs.RoomMade.{kept_show_the_same}
use Rattle.desk_books.specs.Settled.{KeepsStates}
use Rattle.desk_books.proofs.StartsServe.{forgotten_stay, kept_behind}
use Rattle.register_laws.specs.Lawful.{book_behind}
use Rattle.desk_books.proofs.correction_trial.try_correction.Goals as goal

pub returns-clause-same : goal.returns-clause-same
returns-clause-same g c = λ journal are.
    kept_show_the_same journal c.args.books.now c.settle.new.kept (forgotten_stay c.in_ok-trial.trial c.args.books.now.kept c.settle.new.kept (book_behind journal) c.settle.ensures.states) are

pub returns-clause-kept : goal.returns-clause-kept
returns-clause-kept g c =
    subst (KeepsStates c.args.books.now.book.journal c.args.event.now c.settle.new.kept) (sym c.settle.ensures.tried)
    (kept_behind c.args.books.now c.args.event.now c.in_ok-trial.trial c.settle.new.kept c.in_ok-trial.ensures.trial c.requires.books.kept c.settle.ensures.states)
