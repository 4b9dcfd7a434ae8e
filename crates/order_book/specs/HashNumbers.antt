-- The number of each key from which a table of the book finds its place: equal keys have the same.
use Rattle.std.specs.Prelude.{bit_xor, ℕ, ◌*◌, ◌+◌}
use Rattle.order_book.specs.declared.identity.Identity.{Identity}
use Rattle.order_book.specs.declared.order_index.OrderName.{OrderName}
use Rattle.order_book.specs.declared.rates.RateName.{RateName}

-- of a kind below 16, a number of 32 bits and one of 64
abbrev pub mixed_number : ℕ → ℕ → ℕ → ℕ
mixed_number kind first second = bit_xor (first * 4294967296 + kind * 268435456) second

abbrev pub identity_number : Identity → ℕ
identity_number (Identity.Reference account ref_no) = mixed_number 0 account ref_no
identity_number (Identity.Fix fix) = mixed_number 1 0 fix
identity_number (Identity.Calendar number) = mixed_number 2 number 0
identity_number (Identity.Closure calendar day) = mixed_number 3 calendar day
identity_number (Identity.Class number) = mixed_number 4 number 0
identity_number (Identity.Dealer number) = mixed_number 5 number 0
identity_number (Identity.Household number) = mixed_number 6 number 0
identity_number (Identity.Account number) = mixed_number 7 number 0
identity_number (Identity.Sheet calendar moment) = mixed_number 8 calendar moment
identity_number (Identity.Dividend class moment) = mixed_number 9 class moment

abbrev pub name_number : OrderName → ℕ
name_number name = mixed_number 0 name.account name.ref_no

abbrev pub rate_number : RateName → ℕ
rate_number name = mixed_number 0 name.class name.moment
