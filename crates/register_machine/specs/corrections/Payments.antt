-- Who pays the loss of a correction, and what is booked: the cash of all trades with these payments.
use Rattle.std.specs.Prelude.{List, None, Option, Some, [], ℕ, ℤ, ◌++◌, ◌∷◌, flat_map, negsuc, pos, suc}
use Rattle.agent_events.specs.Events.{Event}
use Rattle.agent_events.specs.declared.event.EventKind.{EventKind}
use Rattle.agent_events.specs.declared.order.Bearer.{Bearer}
use Rattle.agent_events.specs.declared.order.Party.{Party}
use Rattle.agent_events.specs.declared.reply_lists.ClassGain.{ClassGain}
use Rattle.forward_price.specs.PriceTables.{Table}
use Rattle.register_machine.specs.corrections.Cash.{Movement, cash_movement, movements_of}
use Rattle.register_machine.specs.corrections.Gains.{gains_at}
use Rattle.register_machine.specs.journal.Journals.{Journal, with_event}
use Rattle.register_machine.specs.pricing.PublishedTable.{empty_table, table_after}
use Rattle.register_machine.specs.replay.Trades.{Day}

-- who bears the loss of a correction
abbrev pub bearer_in : EventKind → Option Bearer
bearer_in (EventKind.FixPrice form) = Some form.bearer
bearer_in (EventKind.FixRate form) = Some form.bearer
bearer_in (EventKind.Enter form) = Some form.bearer
bearer_in (EventKind.Replace form) = Some form.bearer
bearer_in (EventKind.Void form) = Some form.bearer
bearer_in _ = None

-- the party that pays a loss, where it isn't the fund's own
abbrev pub payer : Bearer → Option Party
payer Bearer.Fund = None
payer Bearer.Agent = Some Party.Agent
payer (Bearer.Dealer dealer) = Some (Party.Dealer dealer)

-- a loss moves that cash to the class; a gain moves none
abbrev pub loss_payment : Party → ℕ → ℤ → List Movement
loss_payment party class (pos cents) = []
loss_payment party class (negsuc n) = cash_movement party (Party.Class class) (suc n) ∷ []

abbrev pub loss_payments : Option Party → List ClassGain → List Movement
loss_payments None gains = []
loss_payments (Some party) gains = flat_map (λ gain. loss_payment party gain.class gain.cents) gains

abbrev pub payments_for : Option Bearer → Table → Journal → Event → List Movement
payments_for None table journal event = []
payments_for (Some bearer) table journal event = loss_payments (payer bearer) (gains_at table journal event)

-- the payments of all corrections, each by the journal up to it
abbrev pub payments_from : Table → Journal → List Event → List Movement
payments_from table journal [] = []
payments_from table journal (event ∷ later) =
    payments_for (bearer_in event.kind) table journal event
    ++ payments_from (table_after table event) (with_event journal event) later

abbrev pub payments_of : Journal → List Movement
payments_of journal = payments_from empty_table [] journal

-- what is booked: the cash of all trades, and the payments of all corrections
abbrev pub booked_movements : Journal → Day → List Movement
booked_movements journal day = movements_of day.trades ++ payments_of journal
