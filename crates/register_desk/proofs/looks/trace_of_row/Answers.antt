-- That `trace_of_row` keeps its contract.
use Rattle.std.proofs.Common.{List, ap, arith, subst, sym, ◌≤◌, ◌∙◌}
use Rattle.agent_events.specs.declared.reply.Reply.{Reply}
use Rattle.agent_events.specs.declared.trade.Trade.{Trade}
use Rattle.holder_statements.proofs.FitForLooks.{fit_for_looks}
use Rattle.holder_statements.proofs.PartsLookedAt.{traces_by_part}
use Rattle.holder_statements.specs.OrderTraces.{IsFoundOn, NeverFall, trace_among}
use Rattle.register_desk.proofs.OrdersTraced.{found_on_its_sheet, its_household}
use Rattle.register_desk.specs.NamedAccounts.{IsOfHousehold}
use Rattle.forward_price.specs.PriceTables.{Table}
use Rattle.register_laws.specs.Lawful.{book_behind, own_at}
use Rattle.register_desk.proofs.looks.trace_of_row.Goals as goal

pub trace_reply-requires-clause-fall : goal.trace_reply-requires-clause-fall
trace_reply-requires-clause-fall c =
    let journal = c.args.books.now.book.journal in
    let household = c.household_of-household.result in
    subst NeverFall (sym c.trades_of-trades.ensures) (fit_for_looks journal household c.requires.books.lawful).never_fall

pub trace_reply-requires-clause-found : goal.trace_reply-requires-clause-found
trace_reply-requires-clause-found c = λ standing.
    let books = c.args.books.now in
    let journal = books.book.journal in
    let household = c.household_of-household.result in
    let form = c.args.form.now in
    let row = c.args.row.now in
    let of = subst (λ n. IsOfHousehold journal household n) c.number.ensures.value c.household_of-household.ensures in
    let least : 1 ≤ form.ref_no = omega (arith, c.number-least.ensures.value, c.number-least.ensures.least) in
    subst (λ (t : Table). IsFoundOn t.sheets c.trades_of-trades.result.now row) (sym c.requires.books.prices)
    (subst (λ (trades : List Trade). IsFoundOn (book_behind journal).table.sheets trades row) (sym c.trades_of-trades.ensures)
    (found_on_its_sheet journal household form.account form.ref_no row c.requires.books.lawful c.requires.named of least standing))

pub returns : goal.returns
returns c = λ now caller.
    let books = c.args.books.now in
    let journal = books.book.journal in
    let household = c.household_of-household.result in
    let form = c.args.form.now in
    let row = c.args.row.now in
    let of = subst (λ n. IsOfHousehold journal household n) c.number.ensures.value c.household_of-household.ensures in
    c.trace_reply.ensures (book_behind journal) (sym c.requires.books.prices)
    ∙ (ap (λ (trades : List Trade). Reply.Trace (trace_among (book_behind journal) trades row)) c.trades_of-trades.ensures
    ∙ traces_by_part (own_at journal now caller) household form row c.requires.named (its_household journal household form.account form.ref_no row c.requires.named of))
