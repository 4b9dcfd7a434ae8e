-- That `close_day` keeps its contract.
use Rattle.std.proofs.Common.{◌≡◌, ◌<◌, ◌||◌, take, length, sym, ap, ◌∙◌, arith}
use Rattle.std.specs.List.{list_any}
use Rattle.std.proofs.lemmas.List.{take_all}
use Rattle.std.proofs.lemmas.List.Folds.{list_any_more}
use Rattle.forward_price.proofs.ChoiceFacts.{or_true, or_false}
use Rattle.forward_price.specs.PriceTables.{closed_in, is_priced, is_priced_day}
use Rattle.forward_price.proofs.correcting.close_day.Goals as goal
use Rattle.forward_price.proofs.correcting.close_day.Goals.{then-close_in, else-close_in}
use Rattle.fund_calendar.proofs.ListFacts.{mapped-all, mapped-more, rest-set, same_rest}

pub loop-calendar-preserved : goal.loop-calendar-preserved
loop-calendar-preserved c =
    let f = closed_in c.args.number c.args.day in
    let p = is_priced_day c.args.number c.args.day in
    let first = c.args.calendars.now in
    let i = c.loop-calendar.calendar-index in
    let x = c.calendar-item.result in
    let short : i < length c.loop-calendar.calendars = omega arith in
    let same = same_rest c.loop-calendar.calendars first i x short c.loop-calendar-test.true c.loop-calendar.invariant.rest in
    let more = list_any_more p first i x c.loop-calendar-test.true in
    let before = list_any p (take i first) in
    let here : c.close_in.result ≡ p x = c.close_in.ensures.answer ∙ ap p (sym c.calendar-item.is) in
    let there = ap p (c.calendar-item.is ∙ same.0) in
    record {
      done = mapped-more f first c.loop-calendar.calendars i x c.close_in.new.calendar c.loop-calendar-test.true c.loop-calendar.invariant.done c.calendar-item.is (c.close_in.ensures.closed ∙ ap f (sym c.calendar-item.is));
      rest = rest-set c.loop-calendar.calendars first i c.close_in.new.calendar x short c.loop-calendar-test.true c.loop-calendar.invariant.rest;
      answer = elim c.if-close_in.branch [
        | then-close_in w ↦ w.closed-is ∙ sym (more ∙ ap (λ b. before || b) (sym there ∙ sym here ∙ w.if-close_in.true) ∙ or_true before)
        | else-close_in w ↦ w.closed-is ∙ c.loop-calendar.invariant.answer ∙ sym (more ∙ ap (λ b. before || b) (sym there ∙ sym here ∙ w.if-close_in.false) ∙ or_false before)
      ];
    }

pub returns-clause-closed : goal.returns-clause-closed
returns-clause-closed c = mapped-all (closed_in c.args.number c.args.day) c.args.calendars.now c.loop-calendar.calendars c.loop-calendar.calendar-index c.loop-calendar-test.false c.loop-calendar.invariant.done

pub returns-clause-answer : goal.returns-clause-answer
returns-clause-answer c =
    c.loop-calendar.invariant.answer ∙ ap (λ calendars. is_priced calendars c.args.number c.args.day) (take_all c.loop-calendar.calendar-index c.args.calendars.now (omega arith))
