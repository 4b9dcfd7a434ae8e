-- When a sheet does nothing to a household.
use Rattle.agent_events.specs.declared.order.Order.{Order}
use Rattle.dividend_reinvest.specs.declared.payment.Payment.{Payment}
use Rattle.dividend_reinvest.specs.declared.payment.Payment.TheVariants as pays
use Rattle.forward_price.specs.Sheets.{lists_class}
use Rattle.household_fold.specs.Facts.{Known, book_of_facts, sheet_at_hand}
use Rattle.register_machine.specs.pricing.DividendRates.{rate_at}
use Rattle.register_machine.specs.replay.Dividend.{payment_on}
use Rattle.register_machine.specs.replay.Letter.{has_letter_over}
use Rattle.register_machine.specs.replay.Positions.{Position, Register}
use Rattle.register_machine.specs.replay.Trades.{nav_of}
use Rattle.std.specs.List.{list_any}
use Rattle.std.specs.Prelude.{Bool, List, false, length, not, true, ℕ, ◌&&◌, ◌==◌}

abbrev pub is_payment : Payment → Bool
is_payment pays.Nothing = false
is_payment (pays.Cash cash) = true
is_payment (pays.Shares cash mils) = true

-- the payment of the sheet at hand on a position of this class
abbrev pub payment_of : Known → ℕ → Position → Payment
payment_of known class position =
    let sheet = sheet_at_hand known in
    payment_on (rate_at (book_of_facts known).rates class sheet.moment) (nav_of sheet class) position

-- the sheet lists the position's class, and pays on it
abbrev pub is_paid : Known → Position → Bool
is_paid known position =
    lists_class (sheet_at_hand known).prices position.class && is_payment (payment_of known position.class position)

-- there is no order, no position is paid on, and no letter ends
abbrev pub is_quiet_for : Known → List Order → Register → Bool
is_quiet_for known orders register =
    length orders == 0
    && (not (list_any (is_paid known) register) && not (list_any (has_letter_over (sheet_at_hand known)) register))
