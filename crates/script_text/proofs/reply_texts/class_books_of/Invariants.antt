-- What holds at each turn of the loops of `class_books_of`.
use Rattle.std.proofs.Common.{◌≡◌, map, take}
use Rattle.agent_events.specs.AnswerTexts.{class_books_text}
use Rattle.script_text.proofs.reply_texts.class_books_of.Given as goal

abbrev pub invariant-loop-class : goal.invariant-loop-class
invariant-loop-class l = l.items ≡ map class_books_text (take l.class-index l.classes)
