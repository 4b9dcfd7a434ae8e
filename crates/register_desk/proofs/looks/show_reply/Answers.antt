-- That `show_reply` keeps its contract.
use Rattle.std.proofs.Common.{List, ap, subst, sym, ℕ, ◌∙◌}
use Rattle.holder_statements.proofs.ClassesListed.{lists_holdings}
use Rattle.holder_statements.proofs.FitForLooks.{fit_for_looks}
use Rattle.holder_statements.proofs.PartsLookedAt.{shows_by_part}
use Rattle.holder_statements.specs.AccountPositions.{AreListedOf, AreRising, reply_of_holdings}
use Rattle.register_desk.specs.NamedAccounts.{IsOfHousehold}
use Rattle.household_positions.specs.Register.{AreInOrder}
use Rattle.holder_statements.specs.HouseholdLooks.{part_in}
use Rattle.register_laws.specs.Lawful.{book_behind, own_at}
use Rattle.register_machine.specs.replay.Positions.{Register}
use Rattle.register_desk.proofs.looks.show_reply.Goals as goal

pub show_reply-requires-clause-order : goal.show_reply-requires-clause-order
show_reply-requires-clause-order c =
    let journal = c.args.books.now.book.journal in
    subst AreInOrder (sym c.state_of-state.ensures.register) (fit_for_looks journal c.household_of-household.result c.requires.books.lawful).in_order

pub show_reply-requires-clause-rising : goal.show_reply-requires-clause-rising
show_reply-requires-clause-rising c =
    let journal = c.args.books.now.book.journal in
    subst AreRising (sym (c.deref.ensures.value ∙ c.in_ok-classes.ensures)) (lists_holdings journal c.household_of-household.result c.requires.books.lawful).rise

pub show_reply-requires-clause-listed : goal.show_reply-requires-clause-listed
show_reply-requires-clause-listed c =
    let journal = c.args.books.now.book.journal in
    let listed = (lists_holdings journal c.household_of-household.result c.requires.books.lawful).listed c.args.account in
    subst (λ (register : Register). AreListedOf c.args.account c.deref.result.now register) (sym c.state_of-state.ensures.register)
    (subst (λ (classes : List ℕ). AreListedOf c.args.account classes (part_in (book_behind journal) c.household_of-household.result).register) (sym (c.deref.ensures.value ∙ c.in_ok-classes.ensures)) listed)

pub returns : goal.returns
returns c = λ now caller.
    let journal = c.args.books.now.book.journal in
    let of = subst (λ n. IsOfHousehold journal c.household_of-household.result n) c.number.ensures.value c.household_of-household.ensures in
    c.in_ok-reply.ensures
    ∙ (ap (λ (register : Register). reply_of_holdings register c.args.account) c.state_of-state.ensures.register
    ∙ shows_by_part (own_at journal now caller) c.household_of-household.result c.args.account of)
