-- That `add_trade_line` keeps its contract.
use Rattle.std.proofs.Common.{List, [], ap, ℕ, ◌++◌, ◌∙◌, ◌∷◌}
use Rattle.agent_events.specs.AnswerTexts.{day_text}
use Rattle.register_machine.specs.queries.Statement.{trade_words}
use Rattle.holder_statements.specs.Words.{with_words}
use Rattle.holder_statements.proofs.WordLines.{line_of}
use Rattle.holder_statements.proofs.trade_lines.add_trade_line.Goals as goal

pub returns : goal.returns
returns c =
    let trade = c.args.trade.now in
    let words = trade_words trade trade.outcome in
    c.in_ok-end_line.ensures
    ∙ (ap (λ (t : List ℕ). t ++ 10 ∷ []) (c.in_ok-add_trade.ensures ∙ ap (λ (t : List ℕ). with_words t words) c.in_ok-begin_with_day.ensures)
    ∙ line_of c.args.out.now.items (day_text trade.day) words)
