-- That `order_state` keeps its contract.
use Rattle.std.proofs.Common.{List, ap, arith, subst, sym, ◌≤◌, ◌∙◌}
use Rattle.agent_events.specs.declared.reply.TraceReply.{TraceReply}
use Rattle.agent_events.specs.declared.trade.Trade.{Trade}
use Rattle.holder_statements.proofs.FitForLooks.{fit_for_looks}
use Rattle.holder_statements.proofs.PartsLookedAt.{traced-in_part}
use Rattle.holder_statements.proofs.TracedOrders.{state_shown}
use Rattle.holder_statements.specs.HouseholdLooks.{part_in}
use Rattle.holder_statements.specs.OrderTraces.{IsFoundOn, NeverFall, state_among}
use Rattle.register_desk.proofs.OrdersTraced.{account_stands, found_by_itself}
use Rattle.register_desk.specs.NamedAccounts.{HasAccount, IsOfHousehold}
use Rattle.forward_price.specs.PriceTables.{Table}
use Rattle.register_laws.specs.Lawful.{book_behind}
use Rattle.register_desk.proofs.looks.order_state.Goals as goal

pub household_of-household-requires-clause-there : goal.household_of-household-requires-clause-there
household_of-household-requires-clause-there c =
    let journal = c.args.books.now.book.journal in
    subst (λ n. HasAccount journal n) (sym c.number.ensures.value) (account_stands journal c.args.row.now c.requires.books.lawful c.requires.there)

pub order_state-requires-clause-fall : goal.order_state-requires-clause-fall
order_state-requires-clause-fall c =
    let journal = c.args.books.now.book.journal in
    let household = c.household_of-household.result in
    subst NeverFall (sym c.trades_of.ensures) (fit_for_looks journal household c.requires.books.lawful).never_fall

pub order_state-requires-clause-found : goal.order_state-requires-clause-found
order_state-requires-clause-found c = λ standing.
    let books = c.args.books.now in
    let journal = books.book.journal in
    let household = c.household_of-household.result in
    let row = c.args.row.now in
    let of = subst (λ n. IsOfHousehold journal household n) c.number.ensures.value c.household_of-household.ensures in
    let least : 1 ≤ row.order.ref_no = omega (arith, c.number-least.ensures.value, c.number-least.ensures.least) in
    subst (λ (t : Table). IsFoundOn t.sheets c.trades_of.result.now row) (sym c.requires.books.prices)
    (subst (λ (trades : List Trade). IsFoundOn (book_behind journal).table.sheets trades row) (sym c.trades_of.ensures)
    (found_by_itself journal household row c.requires.books.lawful c.requires.there of least standing))

pub returns : goal.returns
returns c =
    let books = c.args.books.now in
    let journal = books.book.journal in
    let household = c.household_of-household.result in
    let row = c.args.row.now in
    let of = subst (λ n. IsOfHousehold journal household n) c.number.ensures.value c.household_of-household.ensures in
    c.order_state.ensures
    ∙ (ap (λ (trades : List Trade). state_among trades row) c.trades_of.ensures
    ∙ (state_shown (book_behind journal) (part_in (book_behind journal) household).trades row
    ∙ ap (λ (traced : TraceReply). traced.state) (traced-in_part (book_behind journal) household row of)))
