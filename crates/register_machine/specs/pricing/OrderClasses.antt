-- The classes of an order: its own, and the one that an exchange goes to.
use Rattle.std.specs.Prelude.{List, None, Option, Some, ℕ, ◌∷◌, option_to_list}
use Rattle.agent_events.specs.declared.order.Body.{Body}

-- the class of an order, the class that an exchange goes to, and all its classes

-- the class of an order, the class that an exchange goes to, and all its classes
abbrev pub class_of : Body → ℕ
class_of (Body.Buy class gross) = class
class_of (Body.Sell class mils) = class
class_of (Body.SellCash class amount) = class
class_of (Body.SellAll class) = class
class_of (Body.Exchange class to mils) = class
class_of (Body.ExchangeAll class to) = class
class_of (Body.Letter class amount) = class
class_of (Body.Elect class in_cash) = class

abbrev pub target_of : Body → Option ℕ
target_of (Body.Exchange class to mils) = Some to
target_of (Body.ExchangeAll class to) = Some to
target_of _ = None

abbrev pub classes_in : Body → List ℕ
classes_in body = class_of body ∷ option_to_list (target_of body)
