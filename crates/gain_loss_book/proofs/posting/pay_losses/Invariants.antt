-- The losses so far are paid, and there is room for the others.
use Rattle.std.proofs.Common.{Some, take, ◌*◌, ◌+◌, ◌≡◌, ◌≤◌}
use Rattle.agent_events.specs.declared.order.Party.{Party as AnyParty}
use Rattle.register_machine.specs.corrections.Payments.{loss_payments}
use Rattle.gain_loss_book.specs.Flows.{with_flow}
use Rattle.gain_loss_book.specs.PartyAccounts.{all_flows, flow_in, room_in}
use Rattle.gain_loss_book.specs.Posted.{flow_of_movements, movements_flow}
use Rattle.gain_loss_book.proofs.posting.pay_losses.Given as goal

abbrev pub invariant-loop-gain : goal.invariant-loop-gain
invariant-loop-gain l = record {
  flows : (q : AnyParty) → flow_in l.accounts q ≡ with_flow (flow_in l.fn.accounts q) (movements_flow (loss_payments (Some l.fn.payer) (take l.gain-index l.gains)) q);
  all : all_flows l.accounts ≡ with_flow (all_flows l.fn.accounts) (flow_of_movements (loss_payments (Some l.fn.payer) (take l.gain-index l.gains)));
  room : room_in l.fn.accounts ≤ room_in l.accounts + 2 * l.gain-index;
}
