-- The outstanding mils of a class by the trades alone.
use Rattle.std.specs.Prelude.{List, fold, pos, ℕ, ℤ, ◌+ℤ◌, ◌≡◌}
use Rattle.agent_events.specs.declared.request.AccountForm.{AccountForm}
use Rattle.gain_loss_book.specs.Flows.{net}
use Rattle.gain_loss_book.specs.Movements.{trades_mils}
use Rattle.register_laws.specs.Households.{part_of}
use Rattle.register_laws.specs.HouseholdSums.{household_numbers}
use Rattle.register_laws.specs.Lawful.{book_behind}
use Rattle.register_laws.specs.Trades.{IsOrderly}
use Rattle.register_machine.specs.corrections.Cash.{outstanding}
use Rattle.register_machine.specs.journal.Journals.{Journal}
use Rattle.register_machine.specs.journal.Kinds.{accounts_of}
use Rattle.register_machine.specs.journal.Lawful.{IsLawful}
use Rattle.register_machine.specs.pricing.CorrectedBook.{Book}
use Rattle.register_machine.specs.replay.Replay.{replay}
use Rattle.register_machine.specs.replay.Trades.{Day}

-- the outstanding mils of a class are what the trades brought it less what they took from it
abbrev pub IsNetOfTrades : ℕ → Day → Type 0
IsNetOfTrades class day = pos (outstanding day.register class) ≡ net (trades_mils day.trades class)

-- So they are in the replay of an orderly book, as that of a lawful journal is, and in the part of each household.
pub record TotalsByDifferences (book : Book) : Type 0 where
  pub whole : (class : ℕ) → IsNetOfTrades class (replay book)
  pub in_parts : (household class : ℕ) → IsNetOfTrades class (part_of book.accounts household (replay book))

abbrev pub OrderlyTotalsByDifferences : Book → Type 0
OrderlyTotalsByDifferences book = IsOrderly book → TotalsByDifferences book

-- what the trades of each household's part brought a class less what they took, together
abbrev pub net_in_parts : List AccountForm → List ℕ → Day → ℕ → ℤ
net_in_parts accounts households day class =
    fold (λ so_far household. so_far +ℤ net (trades_mils (part_of accounts household day).trades class)) (pos 0) households

-- In a lawful journal that is what is outstanding, over all its households.
abbrev pub TotalsByHouseholds : Journal → Type 0
TotalsByHouseholds journal =
    (class : ℕ) → pos (outstanding (replay (book_behind journal)).register class)
    ≡ net_in_parts (accounts_of journal) (household_numbers journal) (replay (book_behind journal)) class

abbrev pub LawfulTotalsByHouseholds : Journal → Type 0
LawfulTotalsByHouseholds journal = IsLawful journal → TotalsByHouseholds journal
