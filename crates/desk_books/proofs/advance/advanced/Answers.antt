-- That `advanced` keeps its contract.
use Rattle.desk_books.proofs.advance.advanced.Goals as goal

pub advance_all-requires-clause-households : goal.advance_all-requires-clause-households
advance_all-requires-clause-households g c =
    rw (c.terms.ensures.value, c.accounts.ensures.value, c.rates.ensures.value) c.requires.households
