-- That `Keys::take_dealer` keeps its contract.
use Rattle.std.proofs.Common.{ap, refl, ◌∙◌}
use Rattle.agent_events.specs.declared.event.EventKind.{EventKind}
use Rattle.order_book.proofs.KeysTaken.{key-taken, keys-left, no-dealer-key, short-dealer}
use Rattle.order_book.specs.Brought.{dealer_key_in}
use Rattle.order_book.specs.Indexes.{key_text}
use Rattle.order_book.proofs.keys.Keys.take_dealer.Goals as goal

pub returns-in-Dealer-clause-kept : goal.returns-in-Dealer-clause-kept
returns-in-Dealer-clause-kept c = λ journal moment at kept.
    key-taken dealer_key_in c.args.self.now (record { places = c.put_first.new.places }) journal moment c.args.place c.args.kind.now (EventKind.Dealer c.in-Dealer.form)
    c.in-Dealer.form.key c.key_text-key.result c.in-Dealer.is refl (short-dealer c.in-Dealer.form.key (rw c.as_slice.ensures.value at c.as_slice.ensures.form)) at (c.key_text-key.ensures ∙ ap key_text c.as_slice.ensures.value)
    c.put_first.ensures.places kept

pub returns-in_default-clause-kept : goal.returns-in_default-clause-kept
returns-in_default-clause-kept c = λ journal moment at kept. keys-left dealer_key_in c.args.self.now journal (record { moment = moment; kind = c.args.kind.now }) (no-dealer-key c.args.kind.now c.in_default.not-Dealer) kept
