-- The rules on orders: due moments, minimums, exchanges and letters, receipts, and cancels.
use Rattle.std.specs.List.{list_all, list_any}
use Rattle.std.specs.Option.{option_map_or}
use Rattle.std.specs.Prelude.{Bool, None, Option, Some, ℕ, ◌&&◌, ◌+◌, ◌==◌, ◌||◌, false, if◌then◌else◌, is_none, is_some, length, nat_le, nat_lt, not, option_and_then, option_map, true}
use Rattle.agent_events.specs.declared.order.Body.{Body}
use Rattle.agent_events.specs.declared.order.OrderRow.{OrderRow}
use Rattle.agent_events.specs.declared.reply.Refusal.{Refusal}
use Rattle.agent_events.specs.declared.request.LineForm.{LineForm}
use Rattle.agent_events.specs.declared.request.Request.{Request}
use Rattle.forward_price.specs.PriceTables.{number_at}
use Rattle.register_machine.specs.journal.Choices.{when}
use Rattle.register_machine.specs.journal.Kinds.{class_numbered, dealer_numbered, dealers_of}
use Rattle.register_machine.specs.pricing.CorrectedBook.{Book, calendar_of, due_at, due_moment, front_of}
use Rattle.register_machine.specs.pricing.CorrectedOrders.{order_named, row_as_sent, stands}
use Rattle.register_machine.specs.pricing.OrderClasses.{class_of, classes_in}
use Rattle.agent_events.specs.declared.verdict.Caller.{Caller}
use Rattle.register_machine.specs.rules.Situations.{Situation}

-- an order that is asked for, with its receipt and the place of its first event
abbrev pub row_asked : Situation → Request → Option OrderRow
row_asked situation (Request.Order order) =
    Some (row_as_sent (length situation.journal) situation.now order)
row_asked situation (Request.Line line) = Some (row_as_sent (length situation.journal) line.receipt line.order)
row_asked situation (Request.Enter form) = Some (row_as_sent (length situation.journal) form.receipt form.order)
row_asked situation (Request.Replace form) =
    option_map (λ row. row_as_sent row.place form.receipt form.order)
    (order_named situation.book.orders form.order.account form.order.ref_no)
row_asked situation _ = None

abbrev pub refused_order : (Book → OrderRow → Option Refusal) → Situation → Request → Option Refusal
refused_order rule situation request = option_and_then (rule situation.book) (row_asked situation request)

-- all classes of an order are of one calendar
abbrev pub is_of_calendar : Book → Option ℕ → ℕ → Bool
is_of_calendar book calendar class =
    option_map_or (λ own. option_map_or (λ other. other == own) calendar false) (calendar_of book class) false

abbrev pub has_one_calendar : Book → Body → Bool
has_one_calendar book body = list_all (is_of_calendar book (calendar_of book (class_of body))) (classes_in body)

-- Refusal 5. The classes have one calendar, and no due moment is left in it.
abbrev pub calendar_ended : Book → OrderRow → Option Refusal
calendar_ended book row =
    when (has_one_calendar book row.order.body && is_none (due_moment book row)) Refusal.CalendarEnded

-- an order to buy this class for this account that stands and was placed before, filled or not
abbrev pub buys_class : ℕ → Body → Bool
buys_class class (Body.Buy other gross) = other == class
buys_class class _ = false

abbrev pub ordered_before : OrderRow → ℕ → OrderRow → Bool
ordered_before row class other =
    other.order.account == row.order.account && (nat_lt other.place row.place
    && (stands other && buys_class class other.order.body))

-- the later minimum behind such an order, else the first one
abbrev pub minimum_of : Book → OrderRow → ℕ → ℕ
minimum_of book row class =
    option_map_or (λ terms. if list_any (ordered_before row class) book.orders then terms.later_min else terms.first_min)
    (class_numbered book.classes class) 0

-- Refusal 6. The gross of a purchase is below its minimum.
abbrev pub below_minimum_in : Book → OrderRow → Body → Option Refusal
below_minimum_in book row (Body.Buy class gross) =
    let least_gross = minimum_of book row class in
    when (nat_lt gross least_gross) (Refusal.BelowMinimum least_gross)
below_minimum_in book row _ = None

abbrev pub below_minimum : Book → OrderRow → Option Refusal
below_minimum book row = below_minimum_in book row row.order.body

-- an exchange goes between two classes of one family other than 0
abbrev pub family_of : Book → ℕ → ℕ
family_of book class = option_map_or (λ terms. terms.family) (class_numbered book.classes class) 0

abbrev pub is_exchangeable : Book → ℕ → ℕ → Bool
is_exchangeable book class to =
    not (class == to) && (not (family_of book class == 0) && family_of book class == family_of book to)

-- a letter is offered in a class with breakpoints
abbrev pub is_offered : Book → Body → Bool
is_offered book (Body.Exchange class to mils) = is_exchangeable book class to
is_offered book (Body.ExchangeAll class to) = is_exchangeable book class to
is_offered book (Body.Letter class amount) = not (length (front_of book class) == 1)
is_offered book _ = true

-- Refusal 7. The exchange or the letter isn't offered.
abbrev pub not_offered : Book → OrderRow → Option Refusal
not_offered book row = when (not (is_offered book row.order.body)) Refusal.NotOffered

-- Refusal 8. A dealer's line comes too late: its sheet is published, or its due moment is past by more than the window.
abbrev pub window_of : Situation → Caller → ℕ
window_of situation (Caller.Dealer dealer) =
    option_map_or (λ form. form.window) (dealer_numbered (dealers_of situation.journal) dealer) 0
window_of situation _ = 0

abbrev pub is_published_at : Book → ℕ → ℕ → Bool
is_published_at book class moment =
    option_map_or (λ calendar. is_some (number_at book.table.sheets calendar moment)) (calendar_of book class) false

abbrev pub is_late : Situation → LineForm → ℕ → Bool
is_late situation line due =
    is_published_at situation.book (class_of line.order.body) due
    || nat_lt (due + window_of situation situation.caller) situation.now

abbrev pub late_by : Situation → LineForm → Option ℕ → Option Refusal
late_by situation line None = None
late_by situation line (Some due) = when (is_late situation line due) (Refusal.LateForDealer due)

abbrev pub late_for_dealer : Situation → Request → Option Refusal
late_for_dealer situation (Request.Line line) =
    late_by situation line (due_at situation.book line.order.body line.receipt)
late_for_dealer situation _ = None

-- Refusal 9. The receipt is ahead of now.
abbrev pub receipt_ahead : Situation → Request → Option Refusal
receipt_ahead situation request =
    when (option_map_or (λ row. nat_lt situation.now row.receipt) (row_asked situation request) false)
    (Refusal.ReceiptAhead situation.now)

-- the order that a cancel, a replacement or a void is about
abbrev pub target_row : Situation → Request → Option OrderRow
target_row situation (Request.Cancel form) = order_named situation.book.orders form.account form.target
target_row situation (Request.Replace form) =
    order_named situation.book.orders form.order.account form.order.ref_no
target_row situation (Request.Void form) = order_named situation.book.orders form.account form.ref_no
target_row situation _ = None

-- Refusal 10. The order to cancel stands, and its due moment has come.
abbrev pub late_cancel_of : Situation → OrderRow → Option Refusal
late_cancel_of situation row =
    option_and_then (λ due. when (stands row && nat_le due situation.now) (Refusal.CancelLate due))
    (due_moment situation.book row)

abbrev pub cancel_late : Situation → Request → Option Refusal
cancel_late situation (Request.Cancel form) =
    option_and_then (late_cancel_of situation) (target_row situation (Request.Cancel form))
cancel_late situation _ = None

-- Refusal 11. The order is struck already.
abbrev pub not_pending : Situation → Request → Option Refusal
not_pending situation request =
    when (option_map_or (λ row. row.struck) (target_row situation request) false) Refusal.NotPending
