-- That `row_named` keeps its contract.
use Rattle.std.proofs.Common.{Option, None, Some, ap, option_map, option_to_list, sym, ℕ, ◌∙◌, ◌≡◌, length}
use Rattle.std.specs.Option.{option_copied, option_or}
use Rattle.agent_events.specs.declared.order.OrderRow.{OrderRow}
use Rattle.desk_books.proofs.TrialNames.{named-on-trial}
use Rattle.order_book.specs.Trials.{row_begun, row_on_trial}
use Rattle.register_machine.specs.pricing.CorrectedOrders.{order_named, orders_of}
use Rattle.desk_books.proofs.turns.row_named.Goals as goal

pub returns-in-Some : goal.returns-in-Some
returns-in-Some c =
    let trial = option_copied c.args.trial in
    let begun = order_named (option_to_list (row_begun (length c.args.book.now.journal) trial)) c.args.account c.args.ref_no in
    let found : order_named (orders_of c.args.book.now.journal) c.args.account c.args.ref_no ≡ Some c.in-Some.row.now = sym c.order.ensures ∙ ap option_copied c.in-Some.is in
    sym (named-on-trial c.args.book.now.journal trial c.requires c.args.account c.args.ref_no
    ∙ (ap (λ (f : Option OrderRow). option_or (option_map (row_on_trial trial) f) begun) found
    ∙ ap (λ (r : OrderRow). Some r) (sym c.row_on_trial.ensures)))

pub returns-in-None : goal.returns-in-None
returns-in-None c =
    let trial = option_copied c.args.trial in
    let begun = order_named (option_to_list (row_begun (length c.args.book.now.journal) trial)) c.args.account c.args.ref_no in
    let found : order_named (orders_of c.args.book.now.journal) c.args.account c.args.ref_no ≡ None = sym c.order.ensures ∙ ap option_copied c.in-None.is in
    c.row_where.ensures
    ∙ (ap (λ (f : Option OrderRow). order_named (option_to_list f) c.args.account c.args.ref_no) (c.row_begun.ensures ∙ ap (λ (n : ℕ). row_begun n trial) c.len.ensures)
    ∙ sym (named-on-trial c.args.book.now.journal trial c.requires c.args.account c.args.ref_no
    ∙ ap (λ (f : Option OrderRow). option_or (option_map (row_on_trial trial) f) begun) found))
