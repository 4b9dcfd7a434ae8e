-- A household's part of an orderly book's replay stays within the limits of a step.
use Rattle.std.proofs.Common.{None, Option, Some, arith, ℕ, ◌≤◌}
use Rattle.std.proofs.lemmas.List.Elements.{All-filter, All-weaker}
use Rattle.household_fold.proofs.LotNumbers.{numbers-within}
use Rattle.household_fold.specs.Limits.{AreLotsWithin, IsLetterWithin}
use Rattle.ledger_laws.specs.OwnedByAccounts.{OrderlyNumbersWithin}
use Rattle.letter_of_intent.specs.declared.letter.Letter.{Letter}
use Rattle.register_laws.proofs.LettersKept.{keeps_letters}
use Rattle.register_laws.proofs.RegistersKept.{keeps_registers}
use Rattle.register_laws.specs.Households.{is_of_household, is_own_position, part_of}
use Rattle.register_laws.specs.ReplayKeeps.{IsKeptPosition, KeepsLetter}
use Rattle.register_machine.specs.pricing.CorrectedBook.{Book}
use Rattle.register_machine.specs.replay.Positions.{Position}
use Rattle.register_machine.specs.replay.Replay.{replay_to}

low-number : (p : Position) → IsKeptPosition p → p.holding.next_lot ≤ 4294967295
low-number p kept = omega (arith, kept.next_lot)

letter-within : (letter : Option Letter) → KeepsLetter letter → IsLetterWithin letter
letter-within None keeps = tt
letter-within (Some letter) keeps = keeps

pub numbers_within : (book : Book) (household : ℕ) → OrderlyNumbersWithin book household
numbers_within book household orderly =
    let own = is_own_position (is_of_household book.accounts household) in
    let keeps = keeps_registers book orderly in
    let lots : (number : ℕ) → AreLotsWithin (part_of book.accounts household (replay_to book number)).register =
    λ number.
    All-filter own (λ (p : Position). p.holding.next_lot ≤ 4294967295) (replay_to book number).register
    (All-weaker IsKeptPosition (λ (p : Position). p.holding.next_lot ≤ 4294967295) low-number (replay_to book number).register (keeps.up_to number).positions) in
    record {
      lots = lots;
      numbers = λ number. numbers-within (part_of book.accounts household (replay_to book number)).register (lots number);
      letters = λ within in_range number.
          All-filter own (λ (p : Position). IsLetterWithin p.letter) (replay_to book number).register
          (All-weaker (λ (p : Position). KeepsLetter p.letter) (λ (p : Position). IsLetterWithin p.letter) (λ p is. letter-within p.letter is) (replay_to book number).register ((keeps_letters book orderly within in_range).up_to number));
    }
