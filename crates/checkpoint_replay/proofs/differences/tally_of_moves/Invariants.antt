-- The moves so far are tallied, by what they change.
use Rattle.agent_events.specs.declared.order.Party.{Party}
use Rattle.checkpoint_replay.specs.Differences.{cash_by_moves, mils_by_moves}
use Rattle.gain_loss_book.specs.Flows.{net}
use Rattle.gain_loss_book.specs.Tallies.{IsWithin, cash_tallied, mils_tallied}
use Rattle.std.proofs.Common.{take, ℕ, ◌*◌, ◌^◌, ◌≡◌, ◌≤◌}
use Rattle.checkpoint_replay.proofs.differences.tally_of_moves.Given as goal

abbrev pub invariant-loop-change : goal.invariant-loop-change
invariant-loop-change l = record {
  cash : (party : Party) → net (cash_tallied l.tally party) ≡ net (cash_by_moves l.parts.entries (take l.change-index l.moves) party);
  mils : (class : ℕ) → net (mils_tallied l.tally class) ≡ net (mils_by_moves l.parts.entries (take l.change-index l.moves) class);
  within : IsWithin l.tally (l.count * 2 ^ 65);
  few : l.count ≤ 2 ^ 60;
}
