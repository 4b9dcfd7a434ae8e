-- What holds of a household's register before and after each step.
use Rattle.letter_of_intent.specs.Letters.{IsLetter}
use Rattle.letter_of_intent.specs.declared.letter.Letter.{Letter}
use Rattle.register_machine.specs.replay.Positions.{Register}
use Rattle.std.specs.Prelude.{All, None, Option, Some, length, ◌≤◌}

-- an open letter stays within its limits
abbrev pub IsLetterWithin : Option Letter → Type 0
IsLetterWithin None = Unit {0}
IsLetterWithin (Some letter) = IsLetter letter

abbrev pub AreLettersWithin : Register → Type 0
AreLettersWithin register = All (λ position. IsLetterWithin position.letter) register

-- no lot has a number above 4294967294
abbrev pub AreLotsWithin : Register → Type 0
AreLotsWithin register = All (λ position. position.holding.next_lot ≤ 4294967295) register

-- a household has at most 64 accounts, each in at most 1,000 classes
abbrev pub AreFew : Register → Type 0
AreFew register = length register ≤ 64000
