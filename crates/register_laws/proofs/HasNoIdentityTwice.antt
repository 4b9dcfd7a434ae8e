-- No identity of any kind stands twice in a lawful journal.
use Rattle.register_laws.proofs.NoIdentityTwice.{no_account_twice, no_class_twice, no_dealer_key_twice, no_dealer_twice, no_dividend_twice, no_fix_twice, no_household_key_twice, no_household_twice, no_key_twice, no_reference_twice}
use Rattle.register_laws.proofs.NoPricingTwice.{no_calendar_twice, no_closure_twice, no_sheet_twice}
use Rattle.register_laws.specs.Identities.{HasNoIdentityTwice}
use Rattle.register_machine.specs.journal.Journals.{Journal}
use Rattle.register_machine.specs.journal.Lawful.{IsLawful}

pub no_identity_twice : (journal : Journal) → IsLawful journal → HasNoIdentityTwice journal
no_identity_twice journal lawful = record {
  references = no_reference_twice journal lawful;
  fixes = no_fix_twice journal lawful;
  calendars = no_calendar_twice journal lawful;
  classes = no_class_twice journal lawful;
  dealers = no_dealer_twice journal lawful;
  households = no_household_twice journal lawful;
  accounts = no_account_twice journal lawful;
  dealer_keys = no_dealer_key_twice journal lawful;
  household_keys = no_household_key_twice journal lawful;
  keys = no_key_twice journal lawful;
  closures = no_closure_twice journal lawful;
  sheets = no_sheet_twice journal lawful;
  dividends = no_dividend_twice journal lawful;
}
