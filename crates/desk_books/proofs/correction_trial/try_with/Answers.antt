-- That `try_with` keeps its contract.
use Rattle.desk_books.proofs.BrokenOfAll.{part-left, unreplaced}
use Rattle.desk_books.proofs.StartsServe.{like_long}
use Rattle.desk_books.proofs.correction_trial.try_with.Goals as goal

pub returns-clause-trial : goal.returns-clause-trial
returns-clause-trial g c =
    let journal = c.args.books.now.book.journal in
    let households = c.in_ok-households.households.items in
    let reached = c.in_ok-households.ensures.reached in
    record {
      says = c.in_ok-tried.ensures;
      left = λ household none. part-left c.args.books.now c.args.event.now _ c.in_ok-households.households.items household c.requires.tried reached none;
      like = like_long c.args.books.now.book.journal c.args.event.now c.requires.tried.corrects c.requires.tried.trial;
      unreplaced = λ household none. unreplaced journal households c.args.event.now.kind household reached none;
      before = c.requires.before;
      goes_on = c.requires.tried.trial.sound.goes_on;
      corrects = c.requires.tried.corrects;
    }
