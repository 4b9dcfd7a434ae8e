-- What is booked behind an event is what was booked before it, and what is posted of it.
use Rattle.std.proofs.Common.{List, None, Option, Some, [], ap, arith, refl, sym, ℕ, ℤ, ◌++◌, ◌+ℤ◌, ◌-ℤ◌, ◌∙◌, ◌∷◌, ◌≡◌}
use Rattle.std.proofs.lemmas.Int.{ints}
use Rattle.std.proofs.lemmas.List.Sums.{sum_by-append}
use Rattle.std.specs.List.{cons_option, filter_map}
use Rattle.agent_events.specs.Events.{Event}
use Rattle.agent_events.specs.declared.order.Bearer.{Bearer}
use Rattle.agent_events.specs.declared.order.Party.{Party}
use Rattle.agent_events.specs.declared.reply_lists.ClassGain.{ClassGain}
use Rattle.agent_events.specs.declared.totals.Changes.{Changes}
use Rattle.forward_price.specs.declared.price_sheet.Sheet.{Sheet}
use Rattle.register_machine.proofs.PaymentsMore.{payments-on}
use Rattle.register_machine.specs.corrections.Cash.{Movement, balance, cash_of, cents_paid_in, cents_received_in, movements_of}
use Rattle.register_machine.specs.corrections.Gains.{gain_of, gain_unless_same, gains_between, latest_nav}
use Rattle.register_machine.specs.corrections.Payments.{bearer_in, payments_for, payments_of}
use Rattle.register_machine.specs.journal.Journals.{Journal, with_event}
use Rattle.register_machine.specs.pricing.PublishedTable.{empty_table}
use Rattle.register_machine.specs.replay.Trades.{Day}
use Rattle.gain_loss_book.specs.Booked.{AreDifferences, BalancesAfter, correction_at, correction_by, table_behind}
use Rattle.gain_loss_book.specs.ClassGains.{class_flows, gain_of_flows, gains_in, mils_change}
use Rattle.gain_loss_book.specs.Posted.{cash_change, payments_by}

-- ---- gains

gain-by_differences : (changes : Changes) (before after : Day) (sheets : List Sheet) → AreDifferences changes before after → (class : ℕ) → gain_of_flows class (class_flows changes class) sheets ≡ gain_of before after (movements_of before.trades) (movements_of after.trades) sheets class
gain-by_differences changes before after sheets are class =
    ap (λ (cash : ℤ). gain_unless_same class cash (mils_change changes.outstanding class) (latest_nav sheets class)) (are.cash (Party.Class class))
    ∙ ap (λ (mils : ℤ). gain_unless_same class (cash_of after.trades (Party.Class class) -ℤ cash_of before.trades (Party.Class class)) mils (latest_nav sheets class)) (are.mils class)

pub gains-alike : (f g : ℕ → Option ClassGain) → ((q : ℕ) → f q ≡ g q) → (ns : List ℕ) → filter_map f ns ≡ filter_map g ns
gains-alike f g same [] = refl
gains-alike f g same (n ∷ ns) =
    ap (λ o. cons_option o (filter_map f ns)) (same n) ∙ ap (cons_option (g n)) (gains-alike f g same ns)

pub gains_between_are : (classes : List ℕ) (before after : Day) (sheets : List Sheet) (changes : Changes) → AreDifferences changes before after → gains_in changes sheets classes ≡ gains_between classes before after sheets
gains_between_are classes before after sheets changes are =
    gains-alike (λ class. gain_of_flows class (class_flows changes class) sheets) (gain_of before after (movements_of before.trades) (movements_of after.trades) sheets) (gain-by_differences changes before after sheets are) classes

-- ---- payments

-- they are those of its correction
paid-by : (bearer : Option Bearer) (journal : Journal) (event : Event) → payments_for bearer (table_behind journal) journal event ≡ payments_by (correction_by bearer journal event)
paid-by None journal event = refl
paid-by (Some bearer) journal event = refl

balance-append : (a b : List Movement) (party : Party) → balance (a ++ b) party ≡ balance a party +ℤ balance b party
balance-append a b party =
    omega (arith, ints, sum_by-append (cents_received_in party) a b, sum_by-append (cents_paid_in party) a b)

regroup : (before after change paid more : ℤ) → change ≡ after -ℤ before → after +ℤ (paid +ℤ more) ≡ (before +ℤ paid) +ℤ (change +ℤ more)
regroup before after change paid more is = omega (arith, ints, is)

pub balances_after : (journal : Journal) (event : Event) (before after : Day) (changes : Changes) → AreDifferences changes before after → BalancesAfter journal event before after changes
balances_after journal event before after changes are party =
    let later = payments_by (correction_at journal event) in
    let paid : payments_of (with_event journal event) ≡ payments_of journal ++ later =
    payments-on empty_table [] journal event ∙ ap (λ (ms : List Movement). payments_of journal ++ ms) (paid-by (bearer_in event.kind) journal event) in
    balance-append (movements_of after.trades) (payments_of (with_event journal event)) party
    ∙ (ap (λ (ms : List Movement). cash_of after.trades party +ℤ balance ms party) paid
    ∙ (ap (λ (z : ℤ). cash_of after.trades party +ℤ z) (balance-append (payments_of journal) later party)
    ∙ (regroup (cash_of before.trades party) (cash_of after.trades party) (cash_change changes.cash party) (balance (payments_of journal) party) (balance later party) (are.cash party)
    ∙ ap (λ (z : ℤ). z +ℤ (cash_change changes.cash party +ℤ balance later party)) (sym (balance-append (movements_of before.trades) (payments_of journal) party)))))
