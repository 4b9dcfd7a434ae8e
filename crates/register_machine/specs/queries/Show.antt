-- What an account holds: its positions, by class.
use Rattle.std.specs.Prelude.{Bool, List, ℕ, ◌&&◌, ◌==◌, filter, length, map, not}
use Rattle.agent_events.specs.declared.reply.Reply.{Reply}
use Rattle.agent_events.specs.declared.reply_lists.PositionText.{PositionText}
use Rattle.share_lots.specs.Lots.{cost_total, held_total, loose_total}
use Rattle.register_machine.specs.replay.Positions.{Position, Register}
use Rattle.register_machine.specs.replay.Replay.{replay}
use Rattle.register_machine.specs.rules.Situations.{Situation}

abbrev pub position_text : Position → PositionText
position_text position = record {
  class = position.class;
  loose = loose_total position.holding;
  held = held_total position.holding;
  cost = cost_total position.holding;
}

abbrev pub is_shown : ℕ → Position → Bool
is_shown account position = position.account == account && not (length position.holding.lots == 0)

-- the positions of an account that have lots, by class
abbrev pub positions_of : Register → ℕ → List Position
positions_of register account = filter (is_shown account) register

abbrev pub show_reply : Situation → ℕ → Reply
show_reply situation account =
    Reply.Show account (map position_text (positions_of (replay situation.book).register account))
