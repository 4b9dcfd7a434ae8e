-- The rules behind the repeat that a request of each verb can break, in the order in which they are tried: the machine's list
-- without those that say nothing of the verb.
use Rattle.std.specs.List.{list_any}
use Rattle.std.specs.Prelude.{Bool, List, None, Option, Some, [], ◌&&◌, find, if◌then◌else◌, length, nat_lt, not, option_map, ℕ, ◌==◌, ◌∷◌}
use Rattle.agent_events.specs.declared.reply.Refusal.{Refusal}
use Rattle.agent_events.specs.declared.request.ClassForm.{ClassForm}
use Rattle.agent_events.specs.declared.request.DividendForm.{DividendForm}
use Rattle.agent_events.specs.declared.request.Request.{Request}
use Rattle.class_terms.specs.Checking.{differs_in_family, lesser}
use Rattle.class_terms.specs.declared.form.TermsForm.{TermsForm}
use Rattle.register_machine.specs.journal.Choices.{when}
use Rattle.register_machine.specs.pricing.CorrectedBook.{Book, due_at, front_of}
use Rattle.register_machine.specs.pricing.DividendRates.{declares}
use Rattle.register_machine.specs.rules.Identities.{ref_used}
use Rattle.register_machine.specs.rules.Limits.{journal_full, orders_full, too_many}
use Rattle.register_machine.specs.rules.NamedThings.{none_such}
use Rattle.register_machine.specs.rules.Orders.{below_minimum, calendar_ended, cancel_late, late_for_dealer, not_offered, not_pending, receipt_ahead, refused_order}
use Rattle.register_machine.specs.rules.Sheets.{incomplete, out_of_turn, sheet_fault, too_soon}
use Rattle.register_machine.specs.rules.Situations.{Situation}
use Rattle.register_machine.specs.rules.Standing.{something_stands}
use Rattle.register_machine.specs.rules.Terms.{terms_of}

-- the refusal for the first of the fields that names something absent
abbrev pub absent_among : List (ℕ × Bool) → Option Refusal
absent_among fields = option_map (λ field. Refusal.NoSuch field.0) (find (λ field. not field.1) fields)

-- the refusal of a purchase of this gross below its minimum: the later one of the class where the account has bought it before,
-- else the first one
abbrev pub least_gross : ClassForm → Bool → ℕ
least_gross terms is_bought = if is_bought then terms.later_min else terms.first_min

abbrev pub below_least : ClassForm → Bool → ℕ → Option Refusal
below_least terms is_bought gross =
    when (nat_lt gross (least_gross terms is_bought)) (Refusal.BelowMinimum (least_gross terms is_bought))

-- the class has breakpoints
abbrev pub has_breakpoints : Book → ℕ → Bool
has_breakpoints book class = not (length (front_of book class) == 1)

-- the least class so far that differs from these terms in its family, and one class more
abbrev pub with_differing : TermsForm → Option ℕ → TermsForm → Option ℕ
with_differing form least_one other =
    if differs_in_family form other then lesser least_one other.class else least_one

abbrev pub with_class_at : TermsForm → Option ℕ → Option ClassForm → Option ℕ
with_class_at form least_one None = least_one
with_class_at form least_one (Some other) = with_differing form least_one (terms_of other)

-- the class is one of the calendar, with a dividend declared at the moment
abbrev pub class_declares : List DividendForm → ℕ → ℕ → ClassForm → Bool
class_declares declared calendar moment class =
    class.calendar == calendar && list_any (declares class.class moment) declared

-- the due moment of what a request orders
abbrev pub due_of_request : Situation → Request → Option ℕ
due_of_request situation (Request.Order order) = due_at situation.book order.body situation.now
due_of_request situation (Request.Line line) = due_at situation.book line.order.body line.receipt
due_of_request situation _ = None

-- what has a number of its own, and stands on nothing
abbrev pub number_rules : Situation → Request → List (Option Refusal)
number_rules situation request =
    something_stands situation request ∷ too_many situation request ∷ journal_full situation request ∷ []

-- what has a number of its own, and stands on what it names
abbrev pub member_rules : Situation → Request → List (Option Refusal)
member_rules situation request = none_such situation request ∷ number_rules situation request

-- what is said of a day or a pricing moment
abbrev pub day_rules : Situation → Request → List (Option Refusal)
day_rules situation request =
    none_such situation request ∷ something_stands situation request ∷ journal_full situation request ∷ []

-- a sheet
abbrev pub sheet_rules : Situation → Request → List (Option Refusal)
sheet_rules situation request =
    let fault = sheet_fault situation request in
    none_such situation request ∷ out_of_turn fault ∷ incomplete fault ∷ too_soon fault
    ∷ journal_full situation request ∷ []

-- a corrected price or dividend rate
abbrev pub fix_rules : Situation → Request → List (Option Refusal)
fix_rules situation request =
    none_such situation request ∷ ref_used situation request ∷ journal_full situation request ∷ []

-- what asks for an order, with the rules of its own verb
abbrev pub asking_rules : Situation → Request → List (Option Refusal) → List (Option Refusal)
asking_rules situation request own =
    none_such situation request ∷ ref_used situation request ∷ refused_order calendar_ended situation request
    ∷ refused_order below_minimum situation request ∷ refused_order not_offered situation request ∷ own

-- the rules of a request by its verb
abbrev pub rules_of : Situation → Request → List (Option Refusal)
rules_of situation (Request.Calendar form) = number_rules situation (Request.Calendar form)
rules_of situation (Request.Close form) = day_rules situation (Request.Close form)
rules_of situation (Request.Class form) = member_rules situation (Request.Class form)
rules_of situation (Request.Dealer form) = number_rules situation (Request.Dealer form)
rules_of situation (Request.Household form) = number_rules situation (Request.Household form)
rules_of situation (Request.Account form) = member_rules situation (Request.Account form)
rules_of situation (Request.Sheet form) = sheet_rules situation (Request.Sheet form)
rules_of situation (Request.Dividend form) = day_rules situation (Request.Dividend form)
rules_of situation (Request.FixPrice form) = fix_rules situation (Request.FixPrice form)
rules_of situation (Request.FixRate form) = fix_rules situation (Request.FixRate form)
rules_of situation (Request.Enter form) =
    asking_rules situation (Request.Enter form)
    (receipt_ahead situation (Request.Enter form) ∷ orders_full situation (Request.Enter form)
    ∷ journal_full situation (Request.Enter form) ∷ [])
rules_of situation (Request.Replace form) =
    asking_rules situation (Request.Replace form)
    (receipt_ahead situation (Request.Replace form) ∷ not_pending situation (Request.Replace form)
    ∷ journal_full situation (Request.Replace form) ∷ [])
rules_of situation (Request.Void form) =
    none_such situation (Request.Void form) ∷ ref_used situation (Request.Void form)
    ∷ not_pending situation (Request.Void form) ∷ journal_full situation (Request.Void form) ∷ []
rules_of situation (Request.Order order) =
    asking_rules situation (Request.Order order)
    (orders_full situation (Request.Order order) ∷ journal_full situation (Request.Order order) ∷ [])
rules_of situation (Request.Cancel form) =
    none_such situation (Request.Cancel form) ∷ ref_used situation (Request.Cancel form)
    ∷ cancel_late situation (Request.Cancel form) ∷ not_pending situation (Request.Cancel form)
    ∷ orders_full situation (Request.Cancel form) ∷ journal_full situation (Request.Cancel form) ∷ []
rules_of situation (Request.Show account) = none_such situation (Request.Show account) ∷ []
rules_of situation (Request.Trace form) = none_such situation (Request.Trace form) ∷ []
rules_of situation (Request.Statement form) = none_such situation (Request.Statement form) ∷ []
rules_of situation Request.Books = []
rules_of situation (Request.Line line) =
    asking_rules situation (Request.Line line)
    (late_for_dealer situation (Request.Line line) ∷ receipt_ahead situation (Request.Line line)
    ∷ orders_full situation (Request.Line line) ∷ journal_full situation (Request.Line line) ∷ [])
