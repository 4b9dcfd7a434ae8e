-- That `verdict_on` keeps its contract.
use Rattle.std.proofs.Common.{ap, subst, sym, ◌∙◌, ◌≡◌}
use Rattle.std.specs.Prelude.{IfOk}
use Rattle.agent_events.specs.declared.verdict.Verdict.{Verdict}
use Rattle.register_desk.proofs.Verdicts.{asked_situation}
use Rattle.register_desk.proofs.answering.verdict_on.Goals as goal
use Rattle.order_book.specs.Books.{NotedJournal}
use Rattle.register_laws.specs.OneEventMore.{corrected_table}
use Rattle.register_machine.specs.journal.Lawful.{IsLawful}
use Rattle.register_machine.specs.rules.Situations.{Situation, situation_at}
use Rattle.register_machine.specs.run.Verdicts.{verdict}

pub admit-requires-clause-lawful : goal.admit-requires-clause-lawful
admit-requires-clause-lawful c =
    subst (λ (book : NotedJournal). IsLawful book.journal) (sym c.orders-orders.ensures) c.requires.books.lawful

pub admit-requires-clause-prices : goal.admit-requires-clause-prices
admit-requires-clause-prices c =
    c.requires.books.prices ∙ ap (λ (book : NotedJournal). corrected_table book.journal) (sym c.orders-orders.ensures)

pub returns : goal.returns
returns c =
    subst (λ (s : Situation). IfOk c.admit.result (λ (said : Verdict). said ≡ verdict s c.args.request.now))
    (ap (λ (book : NotedJournal). situation_at c.args.books.now.prices.table book.journal c.args.moment c.args.caller) c.orders-orders.ensures
    ∙ asked_situation c.args.books.now.prices.table c.args.books.now.book.journal c.args.moment c.args.caller c.requires.books.prices)
    c.admit.ensures
