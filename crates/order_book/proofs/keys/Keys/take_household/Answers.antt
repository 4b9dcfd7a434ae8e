-- That `Keys::take_household` keeps its contract.
use Rattle.std.proofs.Common.{ap, refl, ◌∙◌}
use Rattle.agent_events.specs.declared.event.EventKind.{EventKind}
use Rattle.order_book.proofs.KeysTaken.{key-taken, keys-left, no-household-key, short-household}
use Rattle.order_book.specs.Brought.{household_key_in}
use Rattle.order_book.specs.Indexes.{key_text}
use Rattle.order_book.proofs.keys.Keys.take_household.Goals as goal

pub returns-in-Household-clause-kept : goal.returns-in-Household-clause-kept
returns-in-Household-clause-kept c = λ journal moment at kept.
    key-taken household_key_in c.args.self.now (record { places = c.put_first.new.places }) journal moment c.args.place c.args.kind.now (EventKind.Household c.in-Household.form)
    c.in-Household.form.key c.key_text-key.result c.in-Household.is refl (short-household c.in-Household.form.key (rw c.as_slice.ensures.value at c.as_slice.ensures.form)) at (c.key_text-key.ensures ∙ ap key_text c.as_slice.ensures.value)
    c.put_first.ensures.places kept

pub returns-in_default-clause-kept : goal.returns-in_default-clause-kept
returns-in_default-clause-kept c = λ journal moment at kept. keys-left household_key_in c.args.self.now journal (record { moment = moment; kind = c.args.kind.now }) (no-household-key c.args.kind.now c.in_default.not-Household) kept
