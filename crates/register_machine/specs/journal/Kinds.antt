-- What the events of a journal say one by one, by their kinds, and what has a number among them.
use Rattle.std.specs.Prelude.{List, None, Option, Some, ℕ, ◌==◌, filter_map, find, option_map}
use Rattle.agent_events.specs.declared.event.EventKind.{EventKind}
use Rattle.agent_events.specs.declared.request.AccountForm.{AccountForm}
use Rattle.agent_events.specs.declared.request.CalendarForm.{CalendarForm}
use Rattle.agent_events.specs.declared.request.ClassForm.{ClassForm}
use Rattle.agent_events.specs.declared.request.CloseForm.{CloseForm}
use Rattle.agent_events.specs.declared.request.DealerForm.{DealerForm}
use Rattle.agent_events.specs.declared.request.DividendForm.{DividendForm}
use Rattle.agent_events.specs.declared.request.EntryForm.{EntryForm}
use Rattle.agent_events.specs.declared.request.FixPriceForm.{FixPriceForm}
use Rattle.agent_events.specs.declared.request.FixRateForm.{FixRateForm}
use Rattle.agent_events.specs.declared.request.HouseholdForm.{HouseholdForm}
use Rattle.agent_events.specs.declared.request.SheetForm.{SheetForm}
use Rattle.register_machine.specs.journal.Journals.{Journal}

-- the calendars that a journal brought, and the closures of their days
abbrev pub calendar_in : EventKind → Option CalendarForm
calendar_in (EventKind.Calendar form) = Some form
calendar_in _ = None

abbrev pub closure_in : EventKind → Option CloseForm
closure_in (EventKind.Close form) = Some form
closure_in _ = None

-- the fields of an event, where it is of the kind; these nine kinds are gathered from a journal by themselves
abbrev pub class_in : EventKind → Option ClassForm
class_in (EventKind.Class form) = Some form
class_in _ = None

abbrev pub dealer_in : EventKind → Option DealerForm
dealer_in (EventKind.Dealer form) = Some form
dealer_in _ = None

abbrev pub household_in : EventKind → Option HouseholdForm
household_in (EventKind.Household form) = Some form
household_in _ = None

abbrev pub account_in : EventKind → Option AccountForm
account_in (EventKind.Account form) = Some form
account_in _ = None

abbrev pub sheet_in : EventKind → Option SheetForm
sheet_in (EventKind.Sheet form) = Some form
sheet_in _ = None

abbrev pub dividend_in : EventKind → Option DividendForm
dividend_in (EventKind.Dividend form) = Some form
dividend_in _ = None

abbrev pub price_fix_in : EventKind → Option FixPriceForm
price_fix_in (EventKind.FixPrice form) = Some form
price_fix_in _ = None

abbrev pub rate_fix_in : EventKind → Option FixRateForm
rate_fix_in (EventKind.FixRate form) = Some form
rate_fix_in _ = None

abbrev pub replacement_in : EventKind → Option EntryForm
replacement_in (EventKind.Replace form) = Some form
replacement_in _ = None

-- what is chosen from the events of a journal, in their order: the fields of one kind, or what several kinds say
abbrev pub each_in : {X : Type 0} → (EventKind → Option X) → Journal → List X
each_in chosen journal = filter_map (λ event. chosen event.kind) journal

abbrev pub calendars_of : Journal → List CalendarForm
calendars_of journal = each_in calendar_in journal

abbrev pub closures_of : Journal → List CloseForm
closures_of journal = each_in closure_in journal

abbrev pub classes_of : Journal → List ClassForm
classes_of journal = each_in class_in journal

abbrev pub dealers_of : Journal → List DealerForm
dealers_of journal = each_in dealer_in journal

abbrev pub households_of : Journal → List HouseholdForm
households_of journal = each_in household_in journal

abbrev pub accounts_of : Journal → List AccountForm
accounts_of journal = each_in account_in journal

abbrev pub class_numbered : List ClassForm → ℕ → Option ClassForm
class_numbered classes number = find (λ class. class.class == number) classes

abbrev pub dealer_numbered : List DealerForm → ℕ → Option DealerForm
dealer_numbered dealers number = find (λ dealer. dealer.dealer == number) dealers

-- what has a number among these
abbrev pub account_numbered : List AccountForm → ℕ → Option AccountForm
account_numbered accounts number = find (λ account. account.account == number) accounts

-- the household of an account, where there is such an account
abbrev pub household_of : List AccountForm → ℕ → Option ℕ
household_of accounts number = option_map (λ account. account.household) (account_numbered accounts number)
