-- That `CashBook::post` keeps its contract.
use Rattle.std.proofs.Common.{List, Option, ap, arith, ◌+ℤ◌, ◌∙◌, ◌≤◌}
use Rattle.std.specs.Option.{option_copied}
use Rattle.agent_events.specs.declared.totals.CashChange.{CashChange}
use Rattle.register_machine.specs.corrections.Cash.{balance}
use Rattle.gain_loss_book.proofs.PostedFacts.{in-room, in-within, net-behind, net-moved, out-room, out-within, paid-in-room, paid-out-room}
use Rattle.gain_loss_book.specs.Flows.{net}
use Rattle.gain_loss_book.specs.PartyAccounts.{all_flows}
use Rattle.gain_loss_book.specs.Posted.{Books, all_changes, cash_change, cash_held, cash_together, most_cash, payments_by, size_of_cash, size_of_correction}
use Rattle.gain_loss_book.specs.declared.posting.Correction.{Correction}
use Rattle.gain_loss_book.proofs.cash_book.CashBook.post.Goals as goal

pub add_changes-requires-clause-inflow : goal.add_changes-requires-clause-inflow
add_changes-requires-clause-inflow c =
    in-room c.as_slice.result.now c.args.changes.now.cash c.as_slice.ensures (all_flows c.self.inside.accounts) c.self.inside.posts c.args.self.now.posts c.self.invariant.inflow (ap (λ (b : Books). b.posts) c.self.view_is) c.requires.posts c.requires.cash

pub add_changes-requires-clause-outflow : goal.add_changes-requires-clause-outflow
add_changes-requires-clause-outflow c =
    out-room c.as_slice.result.now c.args.changes.now.cash c.as_slice.ensures (all_flows c.self.inside.accounts) c.self.inside.posts c.args.self.now.posts c.self.invariant.outflow (ap (λ (b : Books). b.posts) c.self.view_is) c.requires.posts c.requires.cash

pub pay-requires-clause-inflow : goal.pay-requires-clause-inflow
pay-requires-clause-inflow c =
    paid-in-room c.as_slice.result.now c.args.changes.now.cash c.as_slice.ensures _ c.args.correction c.as_ref.ensures.value _ _ c.self.inside.posts c.args.self.now.posts c.self.invariant.inflow (ap (λ (b : Books). b.posts) c.self.view_is) c.requires.posts c.requires.cash c.add_changes.ensures.all c.requires.gains

pub pay-requires-clause-outflow : goal.pay-requires-clause-outflow
pay-requires-clause-outflow c =
    paid-out-room c.as_slice.result.now c.args.changes.now.cash c.as_slice.ensures _ c.args.correction c.as_ref.ensures.value _ _ c.self.inside.posts c.args.self.now.posts c.self.invariant.outflow (ap (λ (b : Books). b.posts) c.self.view_is) c.requires.posts c.requires.cash c.add_changes.ensures.all c.requires.gains

pub invariant_of-self : goal.invariant_of-self
invariant_of-self c =
    let posts = ap (λ (b : Books). b.posts) c.self.view_is in
    let cash : size_of_cash c.as_slice.result.now ≤ most_cash = omega (arith, ap size_of_cash c.as_slice.ensures, c.requires.cash) in
    let paid = ap size_of_correction c.as_ref.ensures.value in
    record {
      inflow = in-within c.as_slice.result.now (option_copied c.as_ref.result) _ _ _ c.self.inside.posts c.self.invariant.inflow c.add_changes.ensures.all c.pay.ensures.all cash (omega (arith, paid, c.requires.gains));
      outflow = out-within c.as_slice.result.now (option_copied c.as_ref.result) _ _ _ c.self.inside.posts c.self.invariant.outflow c.add_changes.ensures.all c.pay.ensures.all cash (omega (arith, paid, c.requires.gains));
      count = omega (arith, posts, c.requires.posts);
    }

pub returns-clause-balances : goal.returns-clause-balances
returns-clause-balances c = λ party.
    net-behind _ _ _ _ _ (c.add_changes.ensures.flows party) (c.pay.ensures.flows party)
    ∙ (ap (λ (b : Books). cash_held b party +ℤ (cash_change c.as_slice.result.now party +ℤ balance (payments_by (option_copied c.as_ref.result)) party)) c.self.view_is
    ∙ (ap (λ (rows : List CashChange). cash_held c.args.self.now party +ℤ (cash_change rows party +ℤ balance (payments_by (option_copied c.as_ref.result)) party)) c.as_slice.ensures
    ∙ ap (λ (o : Option Correction). cash_held c.args.self.now party +ℤ (cash_change c.args.changes.now.cash party +ℤ balance (payments_by o) party)) c.as_ref.ensures.value))

pub returns-clause-together : goal.returns-clause-together
returns-clause-together c =
    net-moved _ _ _ _ _ c.add_changes.ensures.all c.pay.ensures.all
    ∙ (ap (λ (b : Books). cash_together b +ℤ net (all_changes c.as_slice.result.now)) c.self.view_is
    ∙ ap (λ (rows : List CashChange). cash_together c.args.self.now +ℤ net (all_changes rows)) c.as_slice.ensures)
