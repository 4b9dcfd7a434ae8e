-- What a sheet does to the part of a household: nothing where it is quiet, and the rest of a replay from any sheet on.
use Rattle.std.specs.List.{list_any}
use Rattle.std.specs.Prelude.{Bool, List, [], drop, false, fold, not, take, true, ℕ, ◌&&◌, ◌++◌, ◌==◌, ◌∷◌, ◌≡◌, ◌≤◌}
use Rattle.agent_events.specs.declared.order.OrderRow.{OrderRow}
use Rattle.dividend_reinvest.specs.declared.payment.Payment.{Payment}
use Rattle.forward_price.specs.declared.price_sheet.Sheet.{Sheet}
use Rattle.register_laws.specs.Households.{own_book, own_orders, part_of}
use Rattle.register_machine.specs.pricing.CorrectedBook.{Book}
use Rattle.register_machine.specs.pricing.DividendRates.{rate_at}
use Rattle.register_machine.specs.replay.Dividend.{payment_on}
use Rattle.register_machine.specs.replay.Letter.{has_letter_over}
use Rattle.register_machine.specs.replay.Positions.{Position, Register}
use Rattle.register_machine.specs.replay.Replay.{day_after_sheet, orders_on, priced_orders, replay_over, replay_to}
use Rattle.register_machine.specs.replay.Trades.{Day}
use Rattle.dividend_reinvest.specs.declared.payment.Payment.TheVariants as pays

-- ---- Quiet sheets.

abbrev pub pays_something : Payment → Bool
pays_something pays.Nothing = false
pays_something (pays.Cash cash) = true
pays_something (pays.Shares cash mils) = true

-- a class of the sheet pays the position at this rate
abbrev pub is_paid_at : ℕ → ℕ × ℕ → Position → Bool
is_paid_at rate price position =
    position.class == price.0 && (not (rate == 0) && pays_something (payment_on rate price.1 position))

abbrev pub is_paid_in : Book → Sheet → Position → ℕ × ℕ → Bool
is_paid_in book sheet position price = is_paid_at (rate_at book.rates price.0 sheet.moment) price position

-- some class of the sheet pays the position
abbrev pub is_paid_on : Book → Sheet → Position → Bool
is_paid_on book sheet position = list_any (is_paid_in book sheet position) sheet.prices

-- no position is paid and none has a letter that ends, and there is no order
abbrev pub IsQuiet : Book → Sheet → List OrderRow → Register → Type 0
IsQuiet book sheet rows register =
    (rows ≡ []) × (list_any (is_paid_on book sheet) register ≡ false) × (list_any (has_letter_over sheet) register ≡ false)

-- A sheet on which a household has no order, no payment and no letter that ends leaves its part as it was.
abbrev pub QuietLeavesPart : Book → ℕ → List Sheet → Sheet → Type 0
QuietLeavesPart book household before sheet =
    IsQuiet book sheet (own_orders book.accounts household (orders_on (priced_orders book) sheet))
    (part_of book.accounts household (replay_over book before)).register
    → part_of book.accounts household (replay_over book (before ++ sheet ∷ []))
    ≡ part_of book.accounts household (replay_over book before)

-- ---- From a checkpoint.

-- the replay of some sheets from a day on
abbrev pub replay_from : Book → Day → List Sheet → Day
replay_from book day sheets = fold (day_after_sheet book (priced_orders book)) day sheets

-- the sheets behind so many, up to so many
abbrev pub sheets_between : Book → ℕ → ℕ → List Sheet
sheets_between book from to = drop from (take to book.table.sheets)

-- The part after some sheets is that of its own book's replay from its part after any of them.
abbrev pub PartGoesOn : Book → ℕ → ℕ → ℕ → Type 0
PartGoesOn book household from to =
    from ≤ to
    → part_of book.accounts household (replay_to book to)
    ≡ replay_from (own_book household book) (part_of book.accounts household (replay_to book from)) (sheets_between book from to)

-- And in a corrected book from the part in the other one, where the correction touches no sheet up to there.
abbrev pub CorrectedPartGoesOn : Book → Book → ℕ → ℕ → ℕ → Type 0
CorrectedPartGoesOn book other household from to =
    from ≤ to
    → part_of other.accounts household (replay_to other from) ≡ part_of other.accounts household (replay_to book from)
    → part_of other.accounts household (replay_to other to)
    ≡ replay_from (own_book household other) (part_of other.accounts household (replay_to book from)) (sheets_between other from to)
