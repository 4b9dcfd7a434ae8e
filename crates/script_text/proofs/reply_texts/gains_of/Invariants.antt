-- What holds at each turn of the loops of `gains_of`.
use Rattle.std.proofs.Common.{◌≡◌, map, take}
use Rattle.agent_events.specs.AnswerTexts.{gain_text}
use Rattle.script_text.proofs.reply_texts.gains_of.Given as goal

abbrev pub invariant-loop-gain : goal.invariant-loop-gain
invariant-loop-gain l = l.items ≡ map gain_text (take l.gain-index l.gains)
