-- Loads as examples.
use Rattle.std.specs.Prelude.{ℕ, List, [], ◌∷◌}
use Rattle.agent_events.specs.declared.order.Body.{Body}
use Rattle.agent_events.specs.declared.request.Request.{Request}
use Rattle.load_requests.specs.Requests.{account_sent, calendar_sent, deferred_class_sent, front_class_sent, household_sent, sent_at}
use Rattle.load_requests.specs.declared.load.Load.{Load}
use Rattle.load_requests.specs.declared.load.Sent.{Sent}

-- one household, and number 1
abbrev pub one_household_over : ℕ → Load
one_household_over days = record { number = 1; households = 1; days = days }

abbrev pub opening_of_one : List Sent
opening_of_one = calendar_sent ∷ front_class_sent ∷ deferred_class_sent ∷ household_sent 1 ∷ account_sent 1 ∷ []

-- on the first day it buys class 12 for 793 dollars, an hour before the price of 2024-01-02 16:00
abbrev pub first_order : Sent
first_order =
    sent_at 1704225600 (Request.Order (record { account = 1; ref_no = 1; body = Body.Buy 12 79300 }))

-- and the sheet comes an hour behind it, at 10.07 and 20.11
abbrev pub first_sheet : Sent
first_sheet =
    sent_at 1704232800
    (Request.Sheet (record { calendar = 1; moment = 1704229200; prices = (11, 1007) ∷ (12, 2011) ∷ [] }))
