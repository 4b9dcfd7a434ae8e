-- A day of a load: an order of every household an hour before the pricing moment, the sheet an hour behind it, and on every
-- tenth day a correction of the sheet of five days before.
use Rattle.std.specs.Prelude.{ℕ, zero, suc, ◌+◌, ◌-◌, ◌*◌, ◌/◌, ◌%◌, ◌==◌, if◌then◌else◌, List, [], ◌∷◌, Bool, unwrap_or}
use Rattle.agent_events.specs.declared.order.Bearer.{Bearer}
use Rattle.agent_events.specs.declared.order.Body.{Body}
use Rattle.agent_events.specs.declared.order.Order.{Order}
use Rattle.agent_events.specs.declared.request.FixPriceForm.{FixPriceForm}
use Rattle.agent_events.specs.declared.request.SheetForm.{SheetForm}
use Rattle.fund_calendar.specs.PricingDays.{Listing, next_after}
use Rattle.load_requests.specs.Draws.{draw_of, state_after}
use Rattle.load_requests.specs.Opening.{load_listing, opening_moment}
use Rattle.load_requests.specs.declared.load.Load.{Load}

-- the first pricing moment of a calendar after a moment, or this one where none is left
abbrev pub pricing_after : Listing → ℕ → ℕ
pricing_after listing moment = unwrap_or (next_after listing moment) moment

-- the pricing moment of a day: the day-th one after the opening
abbrev pub pricing_moment : ℕ → ℕ
pricing_moment zero = opening_moment
pricing_moment (suc day) = pricing_after load_listing (pricing_moment day)

-- the draw of a household on a day, and the state after it: each day every household has one, in turn
abbrev pub place_of_draw : ℕ → ℕ → ℕ → ℕ
place_of_draw households day household = (day - 1) * households + household

abbrev pub state_on : Load → ℕ → ℕ → ℕ
state_on load day household =
    state_after load.number (place_of_draw load.households day household)

-- the part of a draw that says how much: 0 to 999
abbrev pub size_of : ℕ → ℕ
size_of draw = draw / 4 % 1000

-- a purchase of a class for 100 to 1,099 dollars, and a sale of hundreds of mils of class 11
abbrev pub purchase_of : ℕ → ℕ → Body
purchase_of class draw = Body.Buy class (100 * (100 + size_of draw))

abbrev pub sale_of : ℕ → Body
sale_of draw = Body.Sell 11 (100 * (size_of draw + 1))

-- of four draws one buys class 12, one sells, and two buy class 11
abbrev pub body_of : ℕ → Body
body_of draw =
    if draw % 4 == 2 then purchase_of 12 draw
    else if draw % 4 == 3 then sale_of draw
    else purchase_of 11 draw

-- the order of a household, by the state after its draw; its reference is the day
abbrev pub order_by : ℕ → ℕ → ℕ → Order
order_by day household state =
    record { account = household; ref_no = day; body = body_of (draw_of state) }

abbrev pub order_on : Load → ℕ → ℕ → Order
order_on load day household = order_by day household (state_on load day household)

-- the net asset values of the two classes on a day, in cents
abbrev pub front_nav : ℕ → ℕ
front_nav day = 1000 + 7 * day % 100

abbrev pub deferred_nav : ℕ → ℕ
deferred_nav day = 2000 + 11 * day % 100

abbrev pub prices_on : ℕ → List (ℕ × ℕ)
prices_on day = (11, front_nav day) ∷ (12, deferred_nav day) ∷ []

-- the sheet of a day at its pricing moment
abbrev pub sheet_at : ℕ → ℕ → SheetForm
sheet_at day pricing = record { calendar = 1; moment = pricing; prices = prices_on day }

abbrev pub sheet_on : ℕ → SheetForm
sheet_on day = sheet_at day (pricing_moment day)

-- the correction raises class 11 by one cent on the sheet of five days before; the agent bears its loss
abbrev pub correction_at : ℕ → ℕ → FixPriceForm
correction_at day corrected = record {
  fix = day;
  bearer = Bearer.Agent;
  class = 11;
  moment = corrected;
  nav = front_nav (day - 5) + 1;
}

abbrev pub correction_on : ℕ → FixPriceForm
correction_on day = correction_at day (pricing_moment (day - 5))

-- every tenth day has a correction
abbrev pub is_corrected : ℕ → Bool
is_corrected day = day % 10 == 0
