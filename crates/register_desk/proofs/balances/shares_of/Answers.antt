-- That `shares_of` keeps its contract.
use Rattle.std.proofs.Common.{FitsSigned, ap, pos, rules, to_z-of_z, unsigned_abs, ◌∙◌, ◌≡◌}
use Rattle.std.specs.Int.{w128}
use Rattle.checkpoint_replay.specs.Totals.{mils_held}
use Rattle.holder_statements.specs.declared.kept_books.ClassShares.{ClassShares}
use Rattle.register_desk.proofs.BooksOfParties.{shares_kept}
use Rattle.register_laws.specs.Lawful.{book_behind}
use Rattle.register_machine.specs.corrections.Cash.{outstanding}
use Rattle.register_machine.specs.replay.Replay.{replay}
use Rattle.register_desk.proofs.balances.shares_of.Goals as goal

pub returns : goal.returns
returns c =
    let books = c.args.books.now in
    let journal = books.book.journal in
    let register = (replay (book_behind journal)).register in
    let kept : c.outstanding.result ≡ pos (outstanding register c.args.class) = c.outstanding.ensures ∙ (ap (mils_held books.ledger.totals) c.number.ensures.value ∙ shares_kept journal books c.args.class c.requires.books) in
    let fits : FitsSigned w128 c.outstanding.result = search rules in
    ap {B = ClassShares} (λ n. record { class = c.args.class; mils = n }) (c.unsigned_abs.ensures.value ∙ ap unsigned_abs (to_z-of_z fits ∙ kept))
