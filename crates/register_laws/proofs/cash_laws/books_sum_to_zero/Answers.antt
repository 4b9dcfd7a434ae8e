-- The proof of the law `books_sum_to_zero`.
use Rattle.std.proofs.Common.{refl}
use Rattle.register_laws.proofs.NoIdentityTwice.{no_account_twice}
use Rattle.register_laws.specs.Lawful.{own_at}
use Rattle.register_laws.proofs.BooksSumToZero.{answers-books, booked-zero, all-known}
use Rattle.register_laws.proofs.cash_laws.books_sum_to_zero.Goals as goal

pub returns : goal.returns
returns c journal lawful now caller books e =
    let situation = own_at journal now caller in
    booked-zero situation refl (all-known journal lawful) (no_account_twice journal lawful) books (answers-books situation books e)
