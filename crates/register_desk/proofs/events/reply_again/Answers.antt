-- That `reply_again` keeps its contract.
use Rattle.std.proofs.Common.{List, Option, ap, subst, sym, take, ◌∙◌}
use Rattle.std.specs.Option.{option_copied}
use Rattle.agent_events.specs.declared.event.EventKind.{EventKind}
use Rattle.agent_events.specs.declared.reply_lists.ClassGain.{ClassGain}
use Rattle.holder_statements.proofs.SheetNumbers.{stands_as_numbered}
use Rattle.holder_statements.specs.EventReplies.{AreKeptFor, StandsAsNumbered}
use Rattle.forward_price.specs.PriceTables.{Table}
use Rattle.register_machine.specs.run.Replies.{first_reply}
use Rattle.register_desk.proofs.events.reply_again.Goals as goal

pub returns : goal.returns
returns c =
    let books = c.args.books.now in
    let journal = books.book.journal in
    let event = c.args.event.now in
    let before = take c.args.place journal in
    let numbered = subst (λ (kind : EventKind). StandsAsNumbered books.prices.table.sheets before kind) (sym c.kind.ensures.kind)
    (subst (λ (t : Table). StandsAsNumbered t.sheets before event.kind) (sym c.requires.books.prices) (stands_as_numbered journal c.args.place event c.requires.books.lawful c.requires.there)) in
    let kept = subst (λ (gains : Option (List ClassGain)). AreKeptFor before event gains) (sym c.gains_of-gains.ensures) (c.requires.books.cash.gains c.args.place event c.requires.there) in
    c.in_ok-reply.ensures before event.moment numbered
    (subst (λ (kind : EventKind). AreKeptFor before (record { moment = event.moment; kind = kind }) (option_copied c.gains_of-gains.result)) (sym c.kind.ensures.kind) kept)
    ∙ ap (λ (kind : EventKind). first_reply before (record { moment = event.moment; kind = kind })) c.kind.ensures.kind
