-- That `broken_of` keeps its contract.
use Rattle.std.proofs.Common.{List, ap, find, take, ◌++◌, ◌∙◌}
use Rattle.std.proofs.Common.{sym}
use Rattle.std.proofs.lemmas.Result.{IfOk-weaker}
use Rattle.std.specs.Option.{option_map_or}
use Rattle.std.specs.Prelude.{[]}
use Rattle.agent_events.specs.declared.trade.Trade.{Trade}
use Rattle.checkpoint_replay.specs.Parts.{part_in}
use Rattle.register_machine.specs.rules.Breaks.{is_broken, order_corrected}
use Rattle.desk_books.proofs.KeptUnbroken.{seen_behind}
use Rattle.desk_books.proofs.OneMoved.{moved_trades}
use Rattle.desk_books.proofs.breaking.broken_of.Goals as goal

pub returns : goal.returns
returns c =
    let parts = c.args.books.now.ledger.parts in
    let moved = c.args.moved.now in
    let old = (part_in parts c.args.household).trades in
    let back = c.as_slice.result.now in
    let named = order_corrected c.args.event.now.kind in
    let all = c.trades_seen-stay.result.now ++ back in
    let order = c.order_corrected-order.ensures ∙ ap order_corrected c.kind.ensures.kind in
    let before = c.trades-before.ensures in
    let stay =
    c.trades_seen-stay.ensures
    ∙ (ap (λ o. option_map_or (λ own. take moved.kept c.trades-before.result.now) o []) order
    ∙ ap (λ (ts : List Trade). option_map_or (λ own. take moved.kept ts) named []) before) in
    let whole =
    seen_behind named moved.kept old back c.requires.unbroken
    ∙ ap (find (is_broken named old))
    (ap (λ (xs : List Trade). take moved.kept old ++ xs) c.as_slice.ensures
    ∙ sym (moved_trades parts moved c.args.household c.requires.only)) in
    IfOk-weaker c.first_broken.result _ _
    (λ broken is.
    is
    ∙ (ap (λ o. find (is_broken o c.trades-before.result.now) all) order
    ∙ (ap (λ (ts : List Trade). find (is_broken named ts) all) before
    ∙ (ap (λ (xs : List Trade). find (is_broken named old) (xs ++ back)) stay
    ∙ whole))))
    c.first_broken.ensures
