-- Totals over all are the sums over the households.
use Rattle.std.specs.Prelude.{All, List, count_by, fold, map, pos, sum_by, ℕ, ℤ, ◌+ℤ◌, ◌≡◌}
use Rattle.agent_events.specs.declared.order.OrderRow.{OrderRow}
use Rattle.agent_events.specs.declared.order.Party.{Party}
use Rattle.agent_events.specs.declared.request.AccountForm.{AccountForm}
use Rattle.register_laws.specs.Households.{is_of_household, part_of}
use Rattle.register_laws.specs.Lawful.{book_behind}
use Rattle.register_machine.specs.corrections.Cash.{cash_of, outstanding}
use Rattle.register_machine.specs.journal.Journals.{Journal}
use Rattle.register_machine.specs.journal.Kinds.{accounts_of, households_of}
use Rattle.register_machine.specs.journal.Lawful.{IsLawful}
use Rattle.register_machine.specs.pricing.CorrectedOrders.{orders_of}
use Rattle.register_machine.specs.replay.Replay.{replay, replay_to}
use Rattle.register_machine.specs.replay.Trades.{Day}

abbrev pub household_numbers : Journal → List ℕ
household_numbers journal = map (λ form. form.household) (households_of journal)

-- of so many of these households the account is one
abbrev pub times_owned : List AccountForm → List ℕ → ℕ → ℕ
times_owned accounts households number =
    count_by (λ household. is_of_household accounts household number) households

abbrev pub IsOfOneHousehold : Journal → OrderRow → Type 0
IsOfOneHousehold journal row = times_owned (accounts_of journal) (household_numbers journal) row.order.account ≡ 1

-- the outstanding mils of a class over the parts of these households, and the cash of a party by their trades
abbrev pub outstanding_in_parts : List AccountForm → List ℕ → Day → ℕ → ℕ
outstanding_in_parts accounts households day class =
    sum_by (λ household. outstanding (part_of accounts household day).register class) households

abbrev pub cash_in_parts : List AccountForm → List ℕ → Day → Party → ℤ
cash_in_parts accounts households day party =
    fold (λ so_far household. so_far +ℤ cash_of (part_of accounts household day).trades party) (pos 0) households

-- What is outstanding and what the trades paid is the sum over the parts of the journal's households.
pub record IsSumOfParts (journal : Journal) (day : Day) : Type 0 where
  pub mils : (class : ℕ)
      → outstanding day.register class ≡ outstanding_in_parts (accounts_of journal) (household_numbers journal) day class
  pub cash : (party : Party)
      → cash_of day.trades party ≡ cash_in_parts (accounts_of journal) (household_numbers journal) day party

-- Each order is of exactly one household, and so are all positions and trades.
pub record SumsOverHouseholds (journal : Journal) : Type 0 where
  pub orders : All (IsOfOneHousehold journal) (orders_of journal)
  pub whole : IsSumOfParts journal (replay (book_behind journal))
  pub up_to : (number : ℕ) → IsSumOfParts journal (replay_to (book_behind journal) number)

abbrev pub LawfulSumsOverHouseholds : Journal → Type 0
LawfulSumsOverHouseholds journal = IsLawful journal → SumsOverHouseholds journal
