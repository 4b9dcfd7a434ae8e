-- The rules on a line behind the orders that earlier lines of its batch placed. Of a journal with these orders behind it only four
-- rules say something else than of the journal: the reference, the minimum, the account's orders and the journal's length. So the
-- first rule that is broken is the earlier one of two: the first broken at the journal, the minimum left out, and the first of these
-- four.
use Rattle.std.specs.Prelude.{Bool, List, None, Option, Some, [], if◌then◌else◌, count_by, length, nat_le, nat_lt, ℕ, ◌&&◌, ◌+◌, ◌-◌, ◌==◌, ◌||◌, ◌∷◌}
use Rattle.std.specs.List.{list_any}
use Rattle.std.specs.Option.{option_map_or}
use Rattle.agent_events.specs.declared.event.Placed.{Placed}
use Rattle.agent_events.specs.declared.order.Body.{Body}
use Rattle.agent_events.specs.declared.order.Order.{Order}
use Rattle.agent_events.specs.declared.order.OrderRow.{OrderRow}
use Rattle.agent_events.specs.declared.reply.Refusal.{Refusal}
use Rattle.agent_events.specs.declared.request.LineForm.{LineForm}
use Rattle.register_machine.specs.journal.Choices.{when}
use Rattle.register_machine.specs.journal.Journals.{Journal}
use Rattle.register_machine.specs.journal.Kinds.{class_numbered, classes_of}
use Rattle.register_machine.specs.pricing.CorrectedOrders.{orders_of, row_as_sent}
use Rattle.register_machine.specs.rules.Limits.{is_of_account}
use Rattle.register_machine.specs.rules.Orders.{buys_class, ordered_before}

-- ---- the order of the rules

-- the place of a refusal's rule among those that a line can break behind the repeat; 0 for the refusals of other requests
abbrev pub rule_place : Refusal → ℕ
rule_place (Refusal.NoSuch field) = 1
rule_place Refusal.RefUsed = 2
rule_place Refusal.CalendarEnded = 3
rule_place (Refusal.BelowMinimum least) = 4
rule_place Refusal.NotOffered = 5
rule_place (Refusal.LateForDealer due) = 6
rule_place (Refusal.ReceiptAhead now) = 7
rule_place (Refusal.OrdersFull limit) = 8
rule_place Refusal.JournalFull = 9
rule_place _ = 0

-- the refusal whose rule comes earlier
abbrev pub earlier_rule : Option Refusal → Option Refusal → Option Refusal
earlier_rule None other = other
earlier_rule (Some one) None = Some one
earlier_rule (Some one) (Some other) = if nat_lt (rule_place other) (rule_place one) then Some other else Some one

-- ---- the minimum left out

-- a sale of all shares of the class in place of a purchase has no minimum, and meets every other rule alike
abbrev pub sale_of : Body → Body
sale_of (Body.Buy class gross) = Body.SellAll class
sale_of body = body

abbrev pub without_minimum : LineForm → LineForm
without_minimum line = record {
  receipt = line.receipt;
  order = record { account = line.order.account; ref_no = line.order.ref_no; body = sale_of line.order.body };
}

-- ---- what the earlier orders add

-- an order of this name, one of this account, and one to buy the class for it
abbrev pub has_name : Order → Placed → Bool
has_name order placed = placed.order.account == order.account && placed.order.ref_no == order.ref_no

abbrev pub is_for : ℕ → Placed → Bool
is_for account placed = placed.order.account == account

abbrev pub buys_for : ℕ → ℕ → Placed → Bool
buys_for account class placed = placed.order.account == account && buys_class class placed.order.body

-- the line as a row behind all of them
abbrev pub row_behind : Journal → List Placed → LineForm → OrderRow
row_behind journal earlier line = row_as_sent (length journal + length earlier) line.receipt line.order

-- the later minimum counts where the account has bought the class before, in the journal or by an earlier line
abbrev pub has_bought : Journal → List Placed → LineForm → ℕ → Bool
has_bought journal earlier line class =
    list_any (ordered_before (row_behind journal earlier line) class) (orders_of journal)
    || list_any (buys_for line.order.account class) earlier

abbrev pub minimum_behind : Journal → List Placed → LineForm → ℕ → ℕ
minimum_behind journal earlier line class =
    option_map_or (λ terms. if has_bought journal earlier line class then terms.later_min else terms.first_min)
    (class_numbered (classes_of journal) class) 0

abbrev pub below_minimum_of : Journal → List Placed → LineForm → Body → Option Refusal
below_minimum_of journal earlier line (Body.Buy class gross) =
    let least_gross = minimum_behind journal earlier line class in
    when (nat_lt gross least_gross) (Refusal.BelowMinimum least_gross)
below_minimum_of journal earlier line _ = None

-- so many orders and cancels of the account are left, and so many events of the journal
abbrev pub are_orders_full : Journal → List Placed → ℕ → Bool
are_orders_full journal earlier account =
    nat_le (4096 - count_by (is_of_account account) journal) (count_by (is_for account) earlier)

abbrev pub is_journal_full : Journal → List Placed → Bool
is_journal_full journal earlier = nat_le (100000000 - length journal) (length earlier)

-- the four rules, in order
abbrev pub rules_of_earlier : Journal → List Placed → LineForm → List (Option Refusal)
rules_of_earlier journal earlier line =
    when (list_any (has_name line.order) earlier) Refusal.RefUsed
    ∷ below_minimum_of journal earlier line line.order.body
    ∷ when (are_orders_full journal earlier line.order.account) (Refusal.OrdersFull 4096)
    ∷ when (is_journal_full journal earlier) Refusal.JournalFull ∷ []
