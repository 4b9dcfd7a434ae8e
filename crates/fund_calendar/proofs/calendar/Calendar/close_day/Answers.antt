-- That `Calendar::close_day` keeps its contract.
use Rattle.std.proofs.Common.{◌==◌, sym, ap, ◌∙◌, refl, is_some}
use Rattle.fund_calendar.proofs.LookUpLemmas.{list_any-find, get_within, remove_day, filter-find_none}
use Rattle.fund_calendar.proofs.calendar.Calendar.close_day.Goals as goal

pub returns-in-Some-clause-answer : goal.returns-in-Some-clause-answer
returns-in-Some-clause-answer c =
    let found = rw c.deref.ensures.value at c.in-Some.ensures.value in
    let place = rw c.deref.ensures.value at c.in-Some.ensures.bound in
    rw (← c.self.view_is) (sym (list_any-find (λ e. e.day == c.args.day) c.self.inside.listed.items ∙ ap is_some (sym found ∙ get_within c.self.inside.listed.items c.in-Some.place c.remove.result place)))

pub returns-in-Some-clause-closed : goal.returns-in-Some-clause-closed
returns-in-Some-clause-closed c =
    let found = rw c.deref.ensures.value at c.in-Some.ensures.value in
    let place = rw c.deref.ensures.value at c.in-Some.ensures.bound in
    let rest = c.remove.ensures.items ∙ remove_day c.self.inside.listed.items c.args.day c.in-Some.place c.self.invariant.days_rise place found in
    rw (← c.self.view_is, rest) refl

pub returns-in-None-clause-answer : goal.returns-in-None-clause-answer
returns-in-None-clause-answer c =
    let found = rw c.deref.ensures.value at c.in-None.ensures.value in
    rw (← c.self.view_is) (sym (list_any-find (λ e. e.day == c.args.day) c.self.inside.listed.items ∙ ap is_some (sym found)))

pub returns-in-None-clause-closed : goal.returns-in-None-clause-closed
returns-in-None-clause-closed c =
    let found = rw c.deref.ensures.value at c.in-None.ensures.value in
    rw (← c.self.view_is, filter-find_none (λ e. e.day == c.args.day) c.self.inside.listed.items (sym found)) refl
