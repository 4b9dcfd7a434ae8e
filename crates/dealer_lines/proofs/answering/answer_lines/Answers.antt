-- That `answer_lines` keeps its contract.
use Rattle.std.proofs.Common.{ap, subst, sym, ◌++◌, ◌∙◌, ◌≡◌}
use Rattle.agent_events.specs.declared.verdict.Caller.{Caller}
use Rattle.dealer_lines.proofs.JournalBehind.{lawful_more}
use Rattle.dealer_lines.proofs.LineByLine.{taken_more}
use Rattle.dealer_lines.proofs.answering.answer_lines.Goals as goal
use Rattle.dealer_lines.specs.Answers.{lines_given}
use Rattle.dealer_lines.specs.Lines.{line_events}
use Rattle.order_intake.proofs.LawfulFits.{lawful_fits, own_situation}
use Rattle.register_laws.specs.Lawful.{own_at}
use Rattle.register_machine.specs.journal.Lawful.{IsLawful}
use Rattle.register_machine.specs.rules.Situations.{Situation}
use Rattle.register_machine.specs.run.Batches.{BatchAnswer, batch_after_line}

pub new-inquiry-requires : goal.new-inquiry-requires
new-inquiry-requires c = lawful_fits c.args.prices.now.table c.args.book.now.journal c.requires.lawful c.requires.prices

-- One line more is answered behind those before it, and what it brings is lawful there.
pub loop-asked-preserved : goal.loop-asked-preserved
loop-asked-preserved c =
    let journal = c.args.book.now.journal in
    let caller = Caller.Dealer c.args.dealer in
    let before = c.loop-asked.answered in
    let asked = c.asked-item.result in
    let own = c.new-inquiry.ensures ∙ own_situation c.args.prices.now.table journal c.args.moment caller c.requires.prices in
    let given : lines_given c.answer_asked.new.answered ≡ batch_after_line (own_at journal c.args.moment caller) (lines_given before) asked =
    subst (λ (situation : Situation). lines_given c.answer_asked.new.answered ≡ batch_after_line situation (lines_given before) asked) own
    c.in_ok-answer_asked.ensures.given in
    record {
      moment = c.answer_asked.ensures.moment ∙ c.loop-asked.invariant.moment;
      given =
          taken_more (own_at journal c.args.moment caller) c.args.lines.now c.loop-asked.asked-index asked (lines_given before) (lines_given c.answer_asked.new.answered)
          c.loop-asked-test.true c.asked-item.is c.loop-asked.invariant.given given;
      lawful =
          subst (λ (answered : BatchAnswer). IsLawful (journal ++ answered.events)) (sym given)
          (lawful_more journal c.args.moment c.args.dealer (lines_given before) before.placed asked
          (ap (λ m. line_events m before.placed) c.loop-asked.invariant.moment)
          c.requires.dealer c.requires.moment c.loop-asked.invariant.lawful);
    }
