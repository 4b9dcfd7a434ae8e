-- The proof of the law `last_price_is_the_latest`.
use Rattle.std.proofs.Common.{subst}
use Rattle.forward_price.specs.Choices.{IsChoice}
use Rattle.forward_price.specs.PriceTables.{is_before, is_later}
use Rattle.forward_price.proofs.ChoiceFacts.{best-choice}
use Rattle.forward_price.proofs.TurnFacts.{later-order}
use Rattle.forward_price.proofs.PricingFacts.{last_by}
use Rattle.forward_price.proofs.laws.last_price_is_the_latest.Goals as goal

pub returns : goal.returns
returns c sheets class moment s e =
    last_by sheets class moment s (subst (IsChoice (is_before class moment) is_later sheets) e (best-choice (is_before class moment) is_later later-order sheets))
