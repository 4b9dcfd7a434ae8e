-- What holds at each turn of the loops of `positions_of`.
use Rattle.std.proofs.Common.{◌≡◌, map, take}
use Rattle.agent_events.specs.AnswerTexts.{position_text}
use Rattle.script_text.proofs.reply_texts.positions_of.Given as goal

abbrev pub invariant-loop-position : goal.invariant-loop-position
invariant-loop-position l = l.items ≡ map position_text (take l.position-index l.positions)
