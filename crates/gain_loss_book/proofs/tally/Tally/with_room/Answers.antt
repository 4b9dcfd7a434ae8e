-- That `Tally::with_room` keeps its contract.
use Rattle.std.proofs.Common.{Option, ap, refl, unwrap_or, ◌∙◌}
use Rattle.gain_loss_book.proofs.TallyFacts.{cash-as_before, nothing-within}
use Rattle.gain_loss_book.specs.Flows.{no_flow}
use Rattle.gain_loss_book.specs.declared.flows.Flow.{Flow}
use Rattle.gain_loss_book.specs.declared.tally.Tally.{Tally}
use Rattle.gain_loss_book.proofs.tally.Tally.with_room.Goals as goal

pub returns-clause-cash : goal.returns-clause-cash
returns-clause-cash c = λ party.
    cash-as_before c.new-tally.result (record { holders = c.reserve.new.self; classes = c.new-tally.result.classes; dealers = c.new-tally.result.dealers; underwriter = c.new-tally.result.underwriter; agent = c.new-tally.result.agent }) (λ q. ap (λ (o : Option Flow). unwrap_or o no_flow) (c.reserve.ensures.entries.2 q)) refl refl refl refl party
    ∙ c.new-tally.ensures.cash party

pub returns-clause-within : goal.returns-clause-within
returns-clause-within c =
    let tally : Tally = record { holders = c.reserve.new.self; classes = c.new-tally.result.classes; dealers = c.new-tally.result.dealers; underwriter = c.new-tally.result.underwriter; agent = c.new-tally.result.agent } in
    nothing-within tally (returns-clause-cash c) c.new-tally.ensures.mils
