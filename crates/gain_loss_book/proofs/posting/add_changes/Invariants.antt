-- The changes so far are added, and there is room for the others.
use Rattle.std.proofs.Common.{take, ◌+◌, ◌≡◌, ◌≤◌}
use Rattle.agent_events.specs.declared.order.Party.{Party as AnyParty}
use Rattle.gain_loss_book.specs.Flows.{with_flow}
use Rattle.gain_loss_book.specs.PartyAccounts.{all_flows, flow_in, room_in}
use Rattle.gain_loss_book.specs.Posted.{all_changes, changes_flow}
use Rattle.gain_loss_book.proofs.posting.add_changes.Given as goal

abbrev pub invariant-loop-change : goal.invariant-loop-change
invariant-loop-change l = record {
  flows : (q : AnyParty) → flow_in l.accounts q ≡ with_flow (flow_in l.fn.accounts q) (changes_flow (take l.change-index l.changes) q);
  all : all_flows l.accounts ≡ with_flow (all_flows l.fn.accounts) (all_changes (take l.change-index l.changes));
  room : room_in l.fn.accounts ≤ room_in l.accounts + l.change-index;
}
