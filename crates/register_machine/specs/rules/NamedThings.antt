-- Refusal 3: the first field that names something absent.
use Rattle.std.specs.List.{list_any}
use Rattle.std.specs.Option.{option_map_or}
use Rattle.std.specs.Prelude.{Bool, List, Option, [], ℕ, ◌&&◌, ◌+◌, ◌==◌, ◌||◌, ◌∷◌, drop, false, find, nat_lt, is_some, map, not, option_map, option_to_list, true}
use Rattle.agent_events.specs.declared.order.Bearer.{Bearer}
use Rattle.agent_events.specs.declared.order.Order.{Order}
use Rattle.agent_events.specs.declared.reply.Refusal.{Refusal}
use Rattle.agent_events.specs.declared.request.EntryForm.{EntryForm}
use Rattle.agent_events.specs.declared.request.Request.{Request}
use Rattle.forward_price.specs.PriceTables.{calendar_numbered, is_priced_day}
use Rattle.forward_price.specs.Sheets.{lists_class}
use Rattle.forward_price.specs.declared.price_sheet.Opening.{Opening}
use Rattle.forward_price.specs.declared.price_sheet.Sheet.{Sheet}
use Rattle.fund_calendar.specs.PricingDays.{Listing}
use Rattle.register_machine.specs.journal.Kinds.{account_numbered, class_numbered, dealer_numbered, dealers_of, households_of}
use Rattle.register_machine.specs.pricing.CorrectedOrders.{order_named}
use Rattle.register_machine.specs.pricing.OrderClasses.{class_of, target_of}
use Rattle.register_machine.specs.rules.Situations.{Situation}

abbrev pub has_calendar : Situation → ℕ → Bool
has_calendar situation number = is_some (calendar_numbered situation.book.table.calendars number)

abbrev pub has_class : Situation → ℕ → Bool
has_class situation number = is_some (class_numbered situation.book.classes number)

abbrev pub has_dealer : Situation → ℕ → Bool
has_dealer situation number = is_some (dealer_numbered (dealers_of situation.journal) number)

abbrev pub has_household : Situation → ℕ → Bool
has_household situation number =
    list_any (λ form. form.household == number) (households_of situation.journal)

abbrev pub has_account : Situation → ℕ → Bool
has_account situation number = is_some (account_numbered situation.book.accounts number)

abbrev pub has_order : Situation → ℕ → ℕ → Bool
has_order situation account ref_no = is_some (order_named situation.book.orders account ref_no)

abbrev pub has_bearer : Situation → Bearer → Bool
has_bearer situation Bearer.Fund = true
has_bearer situation Bearer.Agent = true
has_bearer situation (Bearer.Dealer dealer) = has_dealer situation dealer

-- a pricing day of a calendar
abbrev pub has_day : Situation → ℕ → ℕ → Bool
has_day situation calendar day = list_any (is_priced_day calendar day) situation.book.table.calendars

-- a published sheet that lists the class
abbrev pub lists_at : ℕ → ℕ → Sheet → Bool
lists_at class moment sheet = sheet.moment == moment && lists_class sheet.prices class

abbrev pub has_price : Situation → ℕ → ℕ → Bool
has_price situation class moment = list_any (lists_at class moment) situation.book.table.sheets

-- a pricing moment of the class's calendar after its opening
abbrev pub prices_at : ℕ → Listing → Bool
prices_at moment listing = list_any (λ day. day.moment == moment) listing.days

abbrev pub opening_has_moment : List Listing → ℕ → ℕ → Opening → Bool
opening_has_moment calendars class moment opening =
    opening.class == class
    && (nat_lt opening.opened moment
    && option_map_or (prices_at moment) (calendar_numbered calendars opening.calendar) false)

abbrev pub has_moment : Situation → ℕ → ℕ → Bool
has_moment situation class moment =
    list_any (opening_has_moment situation.book.table.calendars class moment) situation.book.table.classes

-- what an order names, its first field at a place: the account, the class, and the class that an exchange goes to
abbrev pub named_in_order : Situation → ℕ → Order → List (ℕ × Bool)
named_in_order situation first order =
    (first, has_account situation order.account) ∷ (first + 2, has_class situation (class_of order.body))
    ∷ map (λ to. (first + 3, has_class situation to)) (option_to_list (target_of order.body))

abbrev pub named_in_replacement : Situation → EntryForm → List (ℕ × Bool)
named_in_replacement situation form =
    (5, has_account situation form.order.account) ∷ (6, has_order situation form.order.account form.order.ref_no)
    ∷ drop 1 (named_in_order situation 5 form.order)

-- the places of the fields that name something, and whether it is there
abbrev pub things_named : Situation → Request → List (ℕ × Bool)
things_named situation (Request.Calendar form) = []
things_named situation (Request.Close form) =
    (1, has_calendar situation form.calendar) ∷ (2, has_day situation form.calendar form.day) ∷ []
things_named situation (Request.Class form) = (2, has_calendar situation form.calendar) ∷ []
things_named situation (Request.Dealer form) = []
things_named situation (Request.Household form) = []
things_named situation (Request.Account form) =
    (2, has_household situation form.household) ∷ (3, form.dealer == 0 || has_dealer situation form.dealer) ∷ []
things_named situation (Request.Sheet form) = (1, has_calendar situation form.calendar) ∷ []
things_named situation (Request.Dividend form) =
    (1, has_class situation form.class) ∷ (2, has_moment situation form.class form.moment) ∷ []
things_named situation (Request.FixPrice form) =
    (2, has_bearer situation form.bearer) ∷ (3, has_class situation form.class)
    ∷ (4, has_price situation form.class form.moment) ∷ []
things_named situation (Request.FixRate form) =
    (2, has_bearer situation form.bearer) ∷ (3, has_class situation form.class)
    ∷ (4, has_price situation form.class form.moment) ∷ []
things_named situation (Request.Enter form) = (2, has_bearer situation form.bearer) ∷ named_in_order situation 5 form.order
things_named situation (Request.Replace form) = (2, has_bearer situation form.bearer) ∷ named_in_replacement situation form
things_named situation (Request.Void form) =
    (2, has_bearer situation form.bearer) ∷ (3, has_account situation form.account)
    ∷ (4, has_order situation form.account form.ref_no) ∷ []
things_named situation (Request.Order order) = named_in_order situation 1 order
things_named situation (Request.Cancel form) =
    (1, has_account situation form.account) ∷ (3, has_order situation form.account form.target) ∷ []
things_named situation (Request.Show account) = (1, has_account situation account) ∷ []
things_named situation (Request.Trace form) =
    (1, has_account situation form.account) ∷ (2, has_order situation form.account form.ref_no) ∷ []
things_named situation (Request.Statement form) = (1, has_account situation form.account) ∷ []
things_named situation Request.Books = []
things_named situation (Request.Line line) = named_in_order situation 3 line.order

abbrev pub none_such : Situation → Request → Option Refusal
none_such situation request =
    option_map (λ field. Refusal.NoSuch field.0) (find (λ field. not field.1) (things_named situation request))
