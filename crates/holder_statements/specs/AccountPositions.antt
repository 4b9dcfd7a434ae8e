-- What an account holds, found class by class in the register of its household.
use Rattle.std.specs.List.{list_any}
use Rattle.std.specs.Prelude.{AllPairs, All, List, None, Option, Some, [], if◌then◌else◌, length, map, nat_eq, option_and_then, true, ℕ, ◌==◌, ◌<◌, ◌≡◌}
use Rattle.agent_events.specs.declared.reply.Reply.{Reply}
use Rattle.agent_events.specs.declared.reply_lists.PositionText.{PositionText}
use Rattle.holder_statements.specs.Holdings.{holding_in}
use Rattle.household_fold.specs.Households.{Household}
use Rattle.register_machine.specs.queries.Show.{position_text, positions_of}
use Rattle.register_machine.specs.replay.Positions.{Register}
use Rattle.share_lots.specs.Lots.{Holding, cost_total, held_total, loose_total}

-- the register of a household, empty where nothing is kept of it
abbrev pub register_in : Option Household → Register
register_in None = []
register_in (Some household) = household.register

-- the lots of a class as a look shows them, where there are any
abbrev pub text_of_holding : ℕ → Holding → Option PositionText
text_of_holding class holding =
    if length holding.lots == 0 then None
    else Some (record {
      class = class;
      loose = loose_total holding;
      held = held_total holding;
      cost = cost_total holding;
    })

abbrev pub text_in : Register → ℕ → ℕ → Option PositionText
text_in register account class = option_and_then (text_of_holding class) (holding_in register account class)

-- the classes rise
abbrev pub AreRising : List ℕ → Type 0
AreRising classes = AllPairs (λ a b. a < b) classes

-- each class in which the account has a position is among them
abbrev pub AreListedOf : ℕ → List ℕ → Register → Type 0
AreListedOf account classes register =
    All (λ position. position.account ≡ account → list_any (nat_eq position.class) classes ≡ true) register

-- the reply to a look at an account, by a register
abbrev pub reply_of_holdings : Register → ℕ → Reply
reply_of_holdings register account = Reply.Show account (map position_text (positions_of register account))
