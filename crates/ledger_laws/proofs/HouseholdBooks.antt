-- The orderly books whose standing orders are of households, and that their trades are too.
use Rattle.std.proofs.Common.{All, None, Option, Some, filter, is_some, option_map, refl, true, ◌∙◌, ◌≡◌}
use Rattle.std.proofs.lemmas.List.Elements.{All-weaker}
use Rattle.agent_events.specs.declared.request.AccountForm.{AccountForm}
use Rattle.agent_events.specs.declared.trade.Trade.{Trade}
use Rattle.register_laws.proofs.EventReplays.{known-rows, known_in, named_in}
use Rattle.register_laws.specs.ReadsAlike.{IsKnownRow}
use Rattle.ledger_laws.specs.LedgerTotals.{IsOfAHousehold, IsOfHouseholds, LawfulIsOfHouseholds}
use Rattle.register_laws.proofs.KnownAccounts.{known-replay}
use Rattle.register_laws.proofs.LawfulReplaysKept.{has_a_lawful_book}
use Rattle.register_laws.proofs.Tests.{find-any}
use Rattle.register_laws.specs.Identities.{has_number}
use Rattle.register_laws.specs.Lawful.{book_behind}
use Rattle.register_machine.specs.journal.Journals.{Journal}
use Rattle.register_machine.specs.journal.Kinds.{account_numbered, accounts_of, household_of}
use Rattle.register_machine.specs.pricing.CorrectedBook.{Book}
use Rattle.register_machine.specs.pricing.CorrectedOrders.{stands}
use Rattle.register_machine.specs.replay.Replay.{replay}

pub owner-there : (found : Option AccountForm) → is_some found ≡ true → is_some (option_map (λ (form : AccountForm). form.household) found) ≡ true
owner-there None there = there
owner-there (Some form) there = refl

pub is_of_households : (journal : Journal) → LawfulIsOfHouseholds journal
is_of_households journal lawful = record {
  orderly = (has_a_lawful_book journal lawful).orderly;
  owned = All-weaker (IsKnownRow (known_in journal) (named_in journal)) (IsOfAHousehold (book_behind journal))
      (λ row is. owner-there (account_numbered (accounts_of journal) row.order.account)
      (find-any (has_number row.order.account) (accounts_of journal) ∙ is.account))
      (filter stands (book_behind journal).orders) (known-rows journal lawful);
}

pub trades-owned : (book : Book) → IsOfHouseholds book → All (λ (trade : Trade). is_some (household_of book.accounts trade.account) ≡ true) (replay book).trades
unfolding replay
trades-owned book is =
    (known-replay book (λ number. is_some (household_of book.accounts number)) is.owned book.table.sheets).trades
