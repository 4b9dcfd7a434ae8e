-- What a lawful journal names stands in it: households and dealers of accounts, calendars of classes, accounts and classes of
-- orders as they are corrected.
use Rattle.std.specs.List.{list_all, list_any}
use Rattle.std.specs.Prelude.{Bool, true, ◌&&◌, ◌==◌, ◌||◌, ◌≡◌}
use Rattle.agent_events.specs.declared.order.Order.{Order}
use Rattle.agent_events.specs.declared.request.AccountForm.{AccountForm}
use Rattle.agent_events.specs.declared.request.ClassForm.{ClassForm}
use Rattle.register_laws.specs.Identities.{has_number, is_calendar, is_class, is_dealer, is_household}
use Rattle.register_machine.specs.journal.Journals.{Journal}
use Rattle.register_machine.specs.journal.Kinds.{accounts_of, calendars_of, classes_of, dealers_of, households_of}
use Rattle.register_machine.specs.pricing.CorrectedOrders.{orders_of}
use Rattle.register_machine.specs.pricing.OrderClasses.{classes_in}

-- its account stands, and so do its classes
abbrev pub is_placed_in : Journal → Order → Bool
is_placed_in journal order =
    list_any (has_number order.account) (accounts_of journal)
    && list_all (λ class. list_any (is_class class) (classes_of journal)) (classes_in order.body)

-- an account without a dealer has 0
abbrev pub has_its_dealer : Journal → AccountForm → Bool
has_its_dealer journal account = account.dealer == 0 || list_any (is_dealer account.dealer) (dealers_of journal)

abbrev pub has_its_household : Journal → AccountForm → Bool
has_its_household journal account = list_any (is_household account.household) (households_of journal)

abbrev pub has_its_calendar : Journal → ClassForm → Bool
has_its_calendar journal class = list_any (is_calendar class.calendar) (calendars_of journal)

pub record NamesStand (journal : Journal) : Type 0 where
  pub households : list_all (has_its_household journal) (accounts_of journal) ≡ true
  pub dealers : list_all (has_its_dealer journal) (accounts_of journal) ≡ true
  pub calendars : list_all (has_its_calendar journal) (classes_of journal) ≡ true
  pub orders : list_all (λ row. is_placed_in journal row.order) (orders_of journal) ≡ true
