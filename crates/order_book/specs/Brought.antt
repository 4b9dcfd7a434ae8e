-- The identities that events bring: what is said once under one isn't said again.
use Rattle.std.specs.Option.{option_map_or}
use Rattle.std.specs.Prelude.{Bool, List, None, Option, Some, ℕ, ◌&&◌, ◌==◌, ◌||◌, bytes_eq, false}
use Rattle.agent_events.specs.Events.{Event}
use Rattle.agent_events.specs.declared.event.EventKind.{EventKind}
use Rattle.order_book.specs.declared.identity.Identity.{Identity}

-- two identities are the same
abbrev pub same_identity : Identity → Identity → Bool
same_identity (Identity.Reference account ref_no) (Identity.Reference other_account other_ref) =
    account == other_account && ref_no == other_ref
same_identity (Identity.Fix fix) (Identity.Fix other) = fix == other
same_identity (Identity.Calendar number) (Identity.Calendar other) = number == other
same_identity (Identity.Closure calendar day) (Identity.Closure other_calendar other_day) =
    calendar == other_calendar && day == other_day
same_identity (Identity.Class number) (Identity.Class other) = number == other
same_identity (Identity.Dealer number) (Identity.Dealer other) = number == other
same_identity (Identity.Household number) (Identity.Household other) = number == other
same_identity (Identity.Account number) (Identity.Account other) = number == other
same_identity (Identity.Sheet calendar moment) (Identity.Sheet other_calendar other_moment) =
    calendar == other_calendar && moment == other_moment
same_identity (Identity.Dividend class moment) (Identity.Dividend other_class other_moment) =
    class == other_class && moment == other_moment
same_identity _ _ = false

-- the identity that an event brings: a correction its number, an order and a cancel the reference of the account
abbrev pub identity_in : EventKind → Identity
identity_in (EventKind.Calendar form) = Identity.Calendar form.calendar
identity_in (EventKind.Close form) = Identity.Closure form.calendar form.day
identity_in (EventKind.Class form) = Identity.Class form.class
identity_in (EventKind.Dealer form) = Identity.Dealer form.dealer
identity_in (EventKind.Household form) = Identity.Household form.household
identity_in (EventKind.Account form) = Identity.Account form.account
identity_in (EventKind.Order placed) = Identity.Reference placed.order.account placed.order.ref_no
identity_in (EventKind.Cancel form) = Identity.Reference form.account form.ref_no
identity_in (EventKind.Sheet form) = Identity.Sheet form.calendar form.moment
identity_in (EventKind.Dividend form) = Identity.Dividend form.class form.moment
identity_in (EventKind.FixPrice form) = Identity.Fix form.fix
identity_in (EventKind.FixRate form) = Identity.Fix form.fix
identity_in (EventKind.Enter form) = Identity.Fix form.fix
identity_in (EventKind.Replace form) = Identity.Fix form.fix
identity_in (EventKind.Void form) = Identity.Fix form.fix

-- an entered order brings the reference of its account besides
abbrev pub reference_entered : EventKind → Option Identity
reference_entered (EventKind.Enter form) = Some (Identity.Reference form.order.account form.order.ref_no)
reference_entered _ = None

-- the kind of event brings the identity
abbrev pub brings_by : Identity → EventKind → Bool
brings_by identity kind =
    same_identity (identity_in kind) identity
    || option_map_or (λ entered. same_identity entered identity) (reference_entered kind) false

abbrev pub brings : Identity → Event → Bool
brings identity event = brings_by identity event.kind

-- the keys of the households and of the dealers that events bring
abbrev pub household_key_in : EventKind → Option (List ℕ)
household_key_in (EventKind.Household form) = Some form.key
household_key_in _ = None

abbrev pub dealer_key_in : EventKind → Option (List ℕ)
dealer_key_in (EventKind.Dealer form) = Some form.key
dealer_key_in _ = None

abbrev pub brings_key : (EventKind → Option (List ℕ)) → List ℕ → Event → Bool
brings_key chosen key event = option_map_or (λ own. bytes_eq own key) (chosen event.kind) false
