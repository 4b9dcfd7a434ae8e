-- What stands of the accounts that a look names.
use Rattle.std.specs.Prelude.{is_some, true, ℕ, ◌≡◌}
use Rattle.agent_events.specs.declared.request.Request.{Request}
use Rattle.register_laws.specs.Households.{is_of_household}
use Rattle.register_machine.specs.journal.Journals.{Journal}
use Rattle.register_machine.specs.journal.Kinds.{account_numbered, accounts_of}

-- the journal has an account of this number
abbrev pub HasAccount : Journal → ℕ → Type 0
HasAccount journal account = is_some (account_numbered (accounts_of journal) account) ≡ true

-- the account is one of this household
abbrev pub IsOfHousehold : Journal → ℕ → ℕ → Type 0
IsOfHousehold journal household account = is_of_household (accounts_of journal) household account ≡ true

-- the request is a look, and the account that it names stands
abbrev pub NamesAnAccount : Journal → Request → Type 0
NamesAnAccount journal (Request.Show account) = HasAccount journal account
NamesAnAccount journal (Request.Trace form) = HasAccount journal form.account
NamesAnAccount journal (Request.Statement form) = HasAccount journal form.account
NamesAnAccount journal Request.Books = Unit {0}
NamesAnAccount journal _ = ⊥
