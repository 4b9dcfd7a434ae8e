-- What holds at each turn of the loops of `spaced`.
use Rattle.std.proofs.Common.{◌≡◌, take}
use Rattle.agent_events.specs.AnswerTexts.{list_text}
use Rattle.script_text.proofs.reply_texts.spaced.Given as goal

abbrev pub invariant-loop-i : goal.invariant-loop-i
invariant-loop-i l = l.text.items ≡ list_text (take l.i l.texts)
