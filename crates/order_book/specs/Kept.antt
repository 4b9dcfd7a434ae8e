-- What the indexes of a book keep of its journal.
use Rattle.std.specs.Prelude.{List, None, Option, false, nat_le, ℕ, ◌≡◌, ◌≤◌, ◌==◌, count_by, length, position}
use Rattle.agent_events.specs.declared.event.EventKind.{EventKind}
use Rattle.order_book.specs.Brought.{brings, brings_key}
use Rattle.order_book.specs.Indexes.{count_of, place_of, place_of_key}
use Rattle.order_book.specs.declared.identities.Identities.{Identities}
use Rattle.order_book.specs.declared.identity.Identity.{Identity}
use Rattle.order_book.specs.declared.keys.Keys.{Keys}
use Rattle.order_book.specs.declared.tally.Tally.{Tally}
use Rattle.register_machine.specs.journal.Journals.{Journal}
use Rattle.register_machine.specs.journal.Kinds.{accounts_of}
use Rattle.register_machine.specs.rules.Limits.{is_of_account}

-- the place of the first event that brings an identity
pub record KeepsPlaces (identities : Identities) (journal : Journal) : Type 0 where
  pub places : (identity : Identity) → place_of identities identity ≡ position (brings identity) journal

-- and of the first that brings a key, of a household or of a dealer
pub record KeepsKeys (chosen : EventKind → Option (List ℕ)) (keys : Keys) (journal : Journal) : Type 0 where
  pub places : (key : List ℕ) → length key ≤ 64 → place_of_key keys key ≡ position (brings_key chosen key) journal
  pub long : (key : List ℕ) → nat_le (length key) 64 ≡ false → position (brings_key chosen key) journal ≡ None

-- how many orders and cancels an account has
pub record CountsOrders (tally : Tally) (journal : Journal) : Type 0 where
  pub counts : (account : ℕ) → count_of tally account ≡ count_by (is_of_account account) journal

-- how many accounts a household has
pub record CountsAccounts (tally : Tally) (journal : Journal) : Type 0 where
  pub counts : (household : ℕ) → count_of tally household ≡ count_by (λ account. account.household == household) (accounts_of journal)
