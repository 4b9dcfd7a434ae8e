-- That `said` keeps its contract.
use Rattle.std.proofs.Common.{Option, refl, subst, sym, ◌∙◌}
use Rattle.std.proofs.lemmas.Result.{IfOk-weaker}
use Rattle.agent_events.specs.declared.reply.Refusal.{Refusal}
use Rattle.desk_books.specs.declared.least.BrokenTrade.{BrokenTrade}
use Rattle.desk_books.proofs.TrialSays.{are_moves, says_breaks, says_moved}
use Rattle.desk_books.specs.Reopened.{IsReopenedWhole}
use Rattle.desk_books.specs.CorrectionTrials.{Says}
use Rattle.forward_price.specs.PriceTables.{sheets_on_trial}
use Rattle.desk_books.proofs.correction_trial.said.Goals as goal

pub moved-requires-clause-moves : goal.moved-requires-clause-moves
moved-requires-clause-moves c = are_moves c.args.books.now c.args.event.now c.args.facts.now c.args.reopened.moves.items c.args.reopened.first.least c.requires.reached

pub moved-requires-clause-correction : goal.moved-requires-clause-correction
moved-requires-clause-correction c = c.requires.tried.corrects

pub returns-in-Some : goal.returns-in-Some
returns-in-Some c =
    IfOk-weaker c.breaks.result _ _
    (λ tried is. subst (Says c.args.books.now.book.journal c.args.event.now c.args.books.now.ledger.parts) (sym is)
    (says_breaks c.args.books.now c.args.event.now c.args.facts.now c.args.reopened.moves.items c.in-Some.broken (Refusal.Breaks c.in-Some.broken.trade.account c.in-Some.broken.trade.ref_no) c.requires.tried
    (subst (λ (first : Option BrokenTrade). IsReopenedWhole c.args.books.now c.args.event.now c.args.facts.now c.args.reopened.moves.items first) (sym c.least_of.ensures ∙ c.in-Some.is) c.requires.reached)
    c.references_in.ensures refl))
    c.breaks.ensures

pub returns-in-None : goal.returns-in-None
returns-in-None c =
    IfOk-weaker c.moved.result _ _
    (λ tried are. says_moved c.args.books.now c.args.event.now c.args.facts.now c.args.reopened.moves.items (sheets_on_trial c.args.patch c.args.books.now.prices.table.sheets) tried c.requires.tried
    (subst (λ (first : Option BrokenTrade). IsReopenedWhole c.args.books.now c.args.event.now c.args.facts.now c.args.reopened.moves.items first) (sym c.least_of.ensures ∙ c.in-None.is) c.requires.reached)
    c.references_in.ensures c.requires.sheets are)
    c.moved.ensures
