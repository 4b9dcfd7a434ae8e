-- What holds at each turn of the loops of `fields_of`.
use Rattle.std.proofs.Common.{◌≡◌, map, take}
use Rattle.script_text.proofs.reply_field_texts.fields_of.Given as goal

abbrev pub invariant-loop-text : goal.invariant-loop-text
invariant-loop-text l = l.fields ≡ map (λ text. text.now) (take l.text-index l.texts)
