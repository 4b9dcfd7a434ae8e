-- That `keep_naming` keeps its contract.
use Rattle.std.proofs.Common.{List, ap, filter, rules, ◌∙◌}
use Rattle.std.proofs.lemmas.Fn.{filter_same}
use Rattle.agent_events.specs.declared.order.OrderRow.{OrderRow}
use Rattle.desk_books.specs.Naming.{is_naming}
use Rattle.desk_books.proofs.naming.keep_naming.Goals as goal

pub returns : goal.returns
returns c =
    filter_same _ (is_naming c.args.class c.orders-rows.result.now c.args.index.now.owners) _ (λ x b f k. search rules) _ _ c.retain.ensures.filtered
    ∙ ap (λ (rows : List OrderRow). filter (is_naming c.args.class rows c.args.index.now.owners) c.args.households.now.items) c.orders-rows.ensures
