-- What the trades so far brought is taken back.
use Rattle.std.proofs.Common.{take, ℕ, ◌*◌, ◌+◌, ◌^◌, ◌≡◌}
use Rattle.agent_events.specs.declared.order.Party.{Party as AnyParty}
use Rattle.register_machine.specs.corrections.Cash.{movements_of}
use Rattle.gain_loss_book.specs.Flows.{reverse_flow, with_flow}
use Rattle.gain_loss_book.specs.Movements.{trades_mils}
use Rattle.gain_loss_book.specs.Posted.{movements_flow}
use Rattle.gain_loss_book.specs.Tallies.{IsWithin, cash_tallied, mils_tallied}
use Rattle.gain_loss_book.proofs.tally.Tally.take_back.Given as goal

abbrev pub invariant-loop-trade : goal.invariant-loop-trade
invariant-loop-trade l = record {
  cash : (q : AnyParty) → cash_tallied l.self q ≡ with_flow (cash_tallied l.fn.self q) (reverse_flow (movements_flow (movements_of (take l.trade-index l.trades)) q));
  mils : (q : ℕ) → mils_tallied l.self q ≡ with_flow (mils_tallied l.fn.self q) (reverse_flow (trades_mils (take l.trade-index l.trades) q));
  within : (most : ℕ) → IsWithin l.fn.self most → IsWithin l.self (most + l.trade-index * 2 ^ 65);
}
