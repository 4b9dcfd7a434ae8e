-- That `note_classes` keeps its contract.
use Rattle.std.proofs.Common.{All, subst, sym, take, take_all}
use Rattle.std.proofs.lemmas.List.Elements.{All-push, All-weaker}
use Rattle.std.proofs.lemmas.List.{take_more}
use Rattle.agent_events.specs.declared.event.Placed.{Placed}
use Rattle.desk_books.specs.NotedClasses.{IsOrderNoted}
use Rattle.register_desk.proofs.noted_lines.note_classes.Goals as goal
use Rattle.register_machine.specs.journal.Kinds.{accounts_of}

-- One order more is listed, and those before it still are.
pub loop-line-preserved : goal.loop-line-preserved
loop-line-preserved c =
    let accounts = accounts_of c.args.book.now.journal in
    let line = c.line-item.result in
    let index = c.loop-line.line-index in
    record {
      noted =
          subst (All (λ (one : Placed). IsOrderNoted c.note_order.new.classes accounts one.order)) (sym (take_more c.args.placed.now index line c.loop-line-test.true))
          (All-push (λ (one : Placed). IsOrderNoted c.note_order.new.classes accounts one.order) (take index c.args.placed.now) _
          (All-weaker (λ (one : Placed). IsOrderNoted c.loop-line.classes accounts one.order) (λ (one : Placed). IsOrderNoted c.note_order.new.classes accounts one.order)
          (λ one noted household class found names. c.note_order.ensures.kept class household (noted household class found names)) (take index c.args.placed.now) c.loop-line.invariant.noted)
          (subst (λ (one : Placed). IsOrderNoted c.note_order.new.classes accounts one.order) c.line-item.is c.in_ok-note_order.ensures.noted));
      kept = λ class household listed. c.note_order.ensures.kept class household (c.loop-line.invariant.kept class household listed);
    }

pub returns-clause-noted : goal.returns-clause-noted
returns-clause-noted c =
    subst (All (λ (one : Placed). IsOrderNoted c.loop-line.classes (accounts_of c.args.book.now.journal) one.order)) (take_all c.loop-line.line-index c.args.placed.now c.loop-line-test.false) c.loop-line.invariant.noted
