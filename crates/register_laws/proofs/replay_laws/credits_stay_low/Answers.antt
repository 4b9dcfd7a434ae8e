-- The proof of the law `credits_stay_low`.
use Rattle.std.proofs.lemmas.List.Elements.{All-weaker}
use Rattle.register_laws.proofs.HouseholdCredit.{credit-few}
use Rattle.register_laws.proofs.RegistersStand.{Stands}
use Rattle.register_laws.specs.ReplayKeeps.{IsKeptPosition}
use Rattle.register_laws.proofs.replay_laws.credits_stay_low.Goals as goal

pub returns : goal.returns
returns c book sheet register account within prices kept =
    credit-few book sheet register account within prices
    (record {
      in_order = kept.in_order;
      positions = All-weaker IsKeptPosition Stands (λ x is. record { holding = is.holding; held = is.held }) register kept.positions;
    })
