-- That `show_reply` keeps its contract.
use Rattle.std.proofs.Common.{List, ap, ◌∙◌}
use Rattle.std.specs.List.{filter_map}
use Rattle.std.specs.Option.{option_copied}
use Rattle.agent_events.specs.declared.reply.Reply.{Reply}
use Rattle.agent_events.specs.declared.reply_lists.PositionText.{PositionText}
use Rattle.holder_statements.proofs.AccountPositions.{shown-by_classes}
use Rattle.holder_statements.specs.AccountPositions.{register_in, text_in}
use Rattle.holder_statements.proofs.account_looks.show_reply.Goals as goal

pub returns : goal.returns
returns c =
    let register = register_in (option_copied c.args.state) in
    let account = c.number.ensures.value in
    ap (λ (texts : List PositionText). Reply.Show c.args.account texts)
    (c.in_ok-positions.ensures
    ∙ (ap (λ n. filter_map (text_in register n) c.args.classes.now) account
    ∙ shown-by_classes c.args.account register c.args.classes.now c.requires.order c.requires.rising c.requires.listed))
