-- Refusal 15, the last: after the correction some order is unfilled that was filled before, or that it enters or replaces.
use Rattle.std.specs.List.{list_any}
use Rattle.std.specs.Option.{option_map_or}
use Rattle.std.specs.Prelude.{Bool, List, None, Option, Some, ℕ, ◌&&◌, ◌==◌, ◌||◌, false, find, not, option_map, true}
use Rattle.agent_events.specs.Events.{Event}
use Rattle.agent_events.specs.declared.event.EventKind.{EventKind}
use Rattle.agent_events.specs.declared.order.Bearer.{Bearer}
use Rattle.agent_events.specs.declared.order.Order.{Order}
use Rattle.agent_events.specs.declared.reply.Refusal.{Refusal}
use Rattle.register_machine.specs.corrections.Payments.{bearer_in}
use Rattle.register_machine.specs.journal.Journals.{with_event}
use Rattle.register_machine.specs.pricing.CorrectedBook.{book_of}
use Rattle.register_machine.specs.replay.Replay.{replay}
use Rattle.agent_events.specs.declared.trade.Outcome.{Outcome}
use Rattle.agent_events.specs.declared.trade.Trade.{Trade}
use Rattle.register_machine.specs.rules.Situations.{Situation}

abbrev pub is_filled : Outcome → Bool
is_filled Outcome.Filled = true
is_filled (Outcome.Unfilled why) = false

abbrev pub is_trade_of : ℕ → ℕ → Trade → Bool
is_trade_of account ref_no trade = trade.account == account && trade.ref_no == ref_no

abbrev pub was_filled : List Trade → Trade → Bool
was_filled before trade =
    list_any (λ other. is_trade_of trade.account trade.ref_no other && is_filled other.outcome) before

-- the order that a correction enters or replaces
abbrev pub order_corrected : EventKind → Option Order
order_corrected (EventKind.Enter form) = Some form.order
order_corrected (EventKind.Replace form) = Some form.order
order_corrected _ = None

abbrev pub is_broken : Option Order → List Trade → Trade → Bool
is_broken order before trade =
    not (is_filled trade.outcome)
    && (was_filled before trade || option_map_or (λ own. is_trade_of own.account own.ref_no trade) order false)

abbrev pub breaks_between : Option Order → List Trade → List Trade → Option Refusal
breaks_between order before after =
    option_map (λ trade. Refusal.Breaks trade.account trade.ref_no) (find (is_broken order before) after)

abbrev pub breaks_by : Option Bearer → Situation → Event → Option Refusal
breaks_by None situation event = None
breaks_by (Some bearer) situation event =
    breaks_between (order_corrected event.kind) (replay situation.book).trades
    (replay (book_of situation.book.table (with_event situation.journal event))).trades

abbrev pub breaks : Situation → Event → Option Refusal
breaks situation event = breaks_by (bearer_in event.kind) situation event
