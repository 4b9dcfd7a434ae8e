-- What holds at each turn of the loops of `dealer_books_of`.
use Rattle.std.proofs.Common.{◌≡◌, map, take}
use Rattle.agent_events.specs.AnswerTexts.{dealer_books_text}
use Rattle.script_text.proofs.reply_texts.dealer_books_of.Given as goal

abbrev pub invariant-loop-dealer : goal.invariant-loop-dealer
invariant-loop-dealer l = l.items ≡ map dealer_books_text (take l.dealer-index l.dealers)
