-- That `Tally::changes` keeps its contract.
use Rattle.std.proofs.Common.{List, ap, arith, ◌++◌, ◌∙◌, ◌≡◌}
use Rattle.agent_events.specs.declared.order.Party.{Party}
use Rattle.agent_events.specs.declared.totals.CashChange.{CashChange}
use Rattle.agent_events.specs.declared.totals.MilsChange.{MilsChange}
use Rattle.gain_loss_book.proofs.RowFacts.{cash-by_party, mils-by_class}
use Rattle.gain_loss_book.specs.ChangeRows.{cash_row, cash_rows, class_rows, dealer_rows, holder_rows, share_rows}
use Rattle.gain_loss_book.proofs.tally.Tally.changes.Goals as goal

pub push_holders-requires-clause-inflow : goal.push_holders-requires-clause-inflow
push_holders-requires-clause-inflow c = λ q. omega (arith, c.requires.cash_in (Party.Holder q))

pub push_holders-requires-clause-outflow : goal.push_holders-requires-clause-outflow
push_holders-requires-clause-outflow c = λ q. omega (arith, c.requires.cash_out (Party.Holder q))

pub push_classes-requires-clause-inflow : goal.push_classes-requires-clause-inflow
push_classes-requires-clause-inflow c = λ q. omega (arith, c.requires.cash_in (Party.Class q))

pub push_classes-requires-clause-outflow : goal.push_classes-requires-clause-outflow
push_classes-requires-clause-outflow c = λ q. omega (arith, c.requires.cash_out (Party.Class q))

pub push_dealers-requires-clause-inflow : goal.push_dealers-requires-clause-inflow
push_dealers-requires-clause-inflow c = λ q. omega (arith, c.requires.cash_in (Party.Dealer q))

pub push_dealers-requires-clause-outflow : goal.push_dealers-requires-clause-outflow
push_dealers-requires-clause-outflow c = λ q. omega (arith, c.requires.cash_out (Party.Dealer q))

pub push_cash-requires-clause-inflow : goal.push_cash-requires-clause-inflow
push_cash-requires-clause-inflow c = omega (arith, c.requires.cash_in Party.Underwriter)

pub push_cash-requires-clause-outflow : goal.push_cash-requires-clause-outflow
push_cash-requires-clause-outflow c = omega (arith, c.requires.cash_out Party.Underwriter)

pub push_cash-requires-2-clause-inflow : goal.push_cash-requires-2-clause-inflow
push_cash-requires-2-clause-inflow c = omega (arith, c.requires.cash_in Party.Agent)

pub push_cash-requires-2-clause-outflow : goal.push_cash-requires-2-clause-outflow
push_cash-requires-2-clause-outflow c = omega (arith, c.requires.cash_out Party.Agent)

pub returns-clause-cash : goal.returns-clause-cash
returns-clause-cash c =
    let tally = c.args.self.now in
    let behind = λ (ys : List CashChange) (xs : List CashChange). xs ++ ys in
    let is : c.push_cash-2.new.rows ≡ cash_rows tally =
    c.in_ok-push_cash-2.ensures ∙ ap (behind (cash_row Party.Agent tally.agent))
    (c.in_ok-push_cash.ensures ∙ ap (behind (cash_row Party.Underwriter tally.underwriter))
    (c.in_ok-push_dealers.ensures.rows ∙ ap (behind (dealer_rows tally.dealers))
    (c.in_ok-push_classes.ensures.rows ∙ ap (behind (class_rows tally.classes))
    (c.in_ok-push_holders.ensures.rows ∙ ap (behind (holder_rows tally.holders.entries)) c.new-cash.ensures)))) in
    cash-by_party c.push_cash-2.new.rows tally is c.in_ok-push_holders.ensures.once c.in_ok-push_classes.ensures.rising c.in_ok-push_dealers.ensures.rising

pub returns-clause-mils : goal.returns-clause-mils
returns-clause-mils c =
    let behind = λ (ys : List MilsChange) (xs : List MilsChange). xs ++ ys in
    mils-by_class c.push_shares.new.rows c.args.self.now (c.in_ok-push_shares.ensures.rows ∙ ap (behind (share_rows c.args.self.now.classes)) c.new-outstanding.ensures) c.in_ok-push_shares.ensures.rising
