-- That `text_by_state` keeps its contract.
use Rattle.std.proofs.Common.{List, ap, subst, sym, ℕ, ◌∙◌}
use Rattle.agent_events.specs.declared.trade.Trade.{Trade}
use Rattle.class_terms.specs.declared.form.TermsForm.{TermsForm}
use Rattle.holder_statements.specs.HouseholdLooks.{part_in}
use Rattle.register_desk.proofs.StatementsTold.{holdings_listed, told_by_household, trades_are_dated}
use Rattle.holder_statements.specs.Holdings.{AreListed, book_of_tables}
use Rattle.register_laws.specs.Lawful.{book_behind}
use Rattle.register_machine.specs.queries.Statement.{account_name, statement_text}
use Rattle.register_machine.specs.replay.Positions.{Register}
use Rattle.register_desk.proofs.statements.text_by_state.Goals as goal

pub statement-requires-clause-listed : goal.statement-requires-clause-listed
statement-requires-clause-listed c =
    let books = c.args.books.now in
    subst (λ (terms : List TermsForm). AreListed terms c.args.form.now.account c.args.state.now.register) (sym c.terms-terms.ensures.value)
    (holdings_listed books.book.journal books.tables c.args.household c.args.form.now.account c.args.state.now.register c.requires.books.lawful c.requires.books.tables c.requires.state)

pub statement-requires-clause-dated : goal.statement-requires-clause-dated
statement-requires-clause-dated c =
    let journal = c.args.books.now.book.journal in
    trades_are_dated journal c.args.household c.trades_of-trades.result.now c.requires.books.lawful c.requires.books.timely c.trades_of-trades.ensures

pub returns : goal.returns
returns c =
    let books = c.args.books.now in
    let journal = books.book.journal in
    let book = book_behind journal in
    let form = c.args.form.now in
    let day = part_in book c.args.household in
    let name = c.name_of-name.ensures ∙ ap (account_name book) c.number.ensures.value in
    c.in_ok-text.ensures.text
    ∙ (ap (λ (terms : List TermsForm). statement_text (book_of_tables books.prices.table terms) form c.name_of-name.result.now (record { register = c.args.state.now.register; trades = c.trades_of-trades.result.now })) c.terms-terms.ensures.value
    ∙ (ap (λ (text : List ℕ). statement_text (book_of_tables books.prices.table books.tables.terms) form text (record { register = c.args.state.now.register; trades = c.trades_of-trades.result.now })) name
    ∙ (ap (λ (register : Register). statement_text (book_of_tables books.prices.table books.tables.terms) form (account_name book form.account) (record { register = register; trades = c.trades_of-trades.result.now })) c.requires.state
    ∙ (ap (λ (trades : List Trade). statement_text (book_of_tables books.prices.table books.tables.terms) form (account_name book form.account) (record { register = day.register; trades = trades })) c.trades_of-trades.ensures
    ∙ told_by_household journal books.prices.table books.tables c.args.household form (account_name book form.account) c.requires.books.tables c.requires.books.prices c.requires.of))))
