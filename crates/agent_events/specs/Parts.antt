-- The numbers of a bearer and of what an order does, as many for each kind, zeros where it has fewer.
use Rattle.std.specs.Prelude.{ℕ, List, [], ◌∷◌}
use Rattle.agent_events.specs.Contents.{flag_number}
use Rattle.agent_events.specs.declared.order.Bearer.{Bearer}
use Rattle.agent_events.specs.declared.order.Body.{Body}

abbrev pub bearer_numbers : Bearer → List ℕ
bearer_numbers Bearer.Fund = 0 ∷ 0 ∷ []
bearer_numbers Bearer.Agent = 1 ∷ 0 ∷ []
bearer_numbers (Bearer.Dealer dealer) = 2 ∷ dealer ∷ []

abbrev pub body_numbers : Body → List ℕ
body_numbers (Body.Buy class gross) = 1 ∷ class ∷ gross ∷ 0 ∷ []
body_numbers (Body.Sell class mils) = 2 ∷ class ∷ mils ∷ 0 ∷ []
body_numbers (Body.SellCash class amount) = 3 ∷ class ∷ amount ∷ 0 ∷ []
body_numbers (Body.SellAll class) = 4 ∷ class ∷ 0 ∷ 0 ∷ []
body_numbers (Body.Exchange class to mils) = 5 ∷ class ∷ to ∷ mils ∷ []
body_numbers (Body.ExchangeAll class to) = 6 ∷ class ∷ to ∷ 0 ∷ []
body_numbers (Body.Letter class amount) = 7 ∷ class ∷ amount ∷ 0 ∷ []
body_numbers (Body.Elect class in_cash) = 8 ∷ class ∷ flag_number in_cash ∷ 0 ∷ []
