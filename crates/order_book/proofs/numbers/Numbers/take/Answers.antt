-- That `Numbers::take` keeps its contract.
use Rattle.std.proofs.Common.{add-zero, append-nil, arith, refl, sym, ◌+◌}
use Rattle.agent_events.specs.declared.event.EventKind.{EventKind}
use Rattle.order_book.proofs.NumbersTaken.{none-opened, numbers-left, numbers-taken}
use Rattle.order_book.proofs.numbers.Numbers.take.Goals as goal

pub returns-in-Calendar-clause-kept : goal.returns-in-Calendar-clause-kept
returns-in-Calendar-clause-kept c = λ journal moment at kept.
    numbers-taken c.args.self.now (record { calendars = c.args.self.now.calendars + 1; classes = c.args.self.now.classes; dealers = c.args.self.now.dealers; households = c.args.self.now.households })
    journal moment c.args.place c.args.kind.now (EventKind.Calendar c.in-Calendar.field-0) c.in-Calendar.is at
    refl (sym (append-nil c.args.self.now.classes.items)) (sym (append-nil c.args.self.now.dealers.items)) (sym (add-zero c.args.self.now.households)) kept

pub returns-in-Class-clause-kept : goal.returns-in-Class-clause-kept
returns-in-Class-clause-kept c = λ journal moment at kept.
    numbers-taken c.args.self.now (record { calendars = c.args.self.now.calendars; classes = c.push_within.new.items; dealers = c.args.self.now.dealers; households = c.args.self.now.households })
    journal moment c.args.place c.args.kind.now (EventKind.Class c.in-Class.field-0) c.in-Class.is at
    (sym (add-zero c.args.self.now.calendars)) c.push_within.ensures.items (sym (append-nil c.args.self.now.dealers.items)) (sym (add-zero c.args.self.now.households)) kept

pub returns-in-Dealer-clause-kept : goal.returns-in-Dealer-clause-kept
returns-in-Dealer-clause-kept c = λ journal moment at kept.
    numbers-taken c.args.self.now (record { calendars = c.args.self.now.calendars; classes = c.args.self.now.classes; dealers = c.push_within-in-Dealer.new.items; households = c.args.self.now.households })
    journal moment c.args.place c.args.kind.now (EventKind.Dealer c.in-Dealer.field-0) c.in-Dealer.is at
    (sym (add-zero c.args.self.now.calendars)) (sym (append-nil c.args.self.now.classes.items)) c.push_within-in-Dealer.ensures.items (sym (add-zero c.args.self.now.households)) kept

pub returns-in-Household-clause-kept : goal.returns-in-Household-clause-kept
returns-in-Household-clause-kept c = λ journal moment at kept.
    numbers-taken c.args.self.now (record { calendars = c.args.self.now.calendars; classes = c.args.self.now.classes; dealers = c.args.self.now.dealers; households = c.args.self.now.households + 1 })
    journal moment c.args.place c.args.kind.now (EventKind.Household c.in-Household.field-0) c.in-Household.is at
    (sym (add-zero c.args.self.now.calendars)) (sym (append-nil c.args.self.now.classes.items)) (sym (append-nil c.args.self.now.dealers.items)) refl kept

pub returns-in_default : goal.returns-in_default
returns-in_default c =
    let d = c.in_default in
    record {
      kept = λ journal moment at kept. numbers-left c.args.self.now journal moment c.args.place c.args.kind.now
          (none-opened c.args.kind.now d.not-Calendar d.not-Class d.not-Dealer d.not-Household) at kept;
      room = λ n room. record { classes = omega (arith, room.classes); dealers = omega (arith, room.dealers) };
    }
