-- What a dividend pays on a position, and in what it is paid. A rate is millionths of a dollar per share; shares are
-- whole mils, money and NAV whole cents. All mils of a position count together, loose and held, and are rounded once.
use Rattle.std.specs.Prelude.{ℕ, ◌*◌, ◌≤◌, Bool, ◌||◌, ◌==◌, nat_lt, if◌then◌else◌}
use Rattle.money_units.specs.Rounding.{half}
use Rattle.dividend_reinvest.specs.declared.payment.Payment.{Payment}
use Rattle.dividend_reinvest.specs.declared.payment.Payment.TheVariants.{Nothing, Cash, Shares}

-- the cents that a rate pays on mils: a mil is a thousandth of a share, and ten thousand millionths are a cent
abbrev pub cash_of : ℕ → ℕ → ℕ
cash_of mils rate = half (mils * rate) 10000000

-- the mils that cents buy at a NAV: a reinvested dividend has no load
abbrev pub mils_of : ℕ → ℕ → ℕ
mils_of cash nav = half (1000 * cash) nav

-- the position may not gain so many mils and so many cents of cost
abbrev pub passes_ceiling : ℕ → ℕ → ℕ → ℕ → Bool
passes_ceiling mils cash room cost_room = nat_lt room mils || nat_lt cost_room cash

-- cents that buy mils are reinvested, unless the holder elected cash, no mil results or the ceiling would be passed
abbrev pub payment_of_cash : Bool → ℕ → ℕ → ℕ → ℕ → Payment
payment_of_cash in_cash cash mils room cost_room =
    if in_cash || mils == 0 || passes_ceiling mils cash room cost_room then Cash cash else Shares cash mils

-- the payment on the mils of a position; there is none of 0 cents
abbrev pub payment : ℕ → ℕ → ℕ → Bool → ℕ → ℕ → Payment
payment mils rate nav in_cash room cost_room =
    if cash_of mils rate == 0 then Nothing
    else payment_of_cash in_cash (cash_of mils rate) (mils_of (cash_of mils rate) nav) room cost_room

-- the cents of a payment, in whatever it is paid
abbrev pub cents_of : Payment → ℕ
cents_of Nothing = 0
cents_of (Cash cash) = cash
cents_of (Shares cash mils) = cash

-- what is reinvested keeps the position within its ceiling
abbrev pub KeepsCeiling : ℕ → ℕ → Payment → Type 0
KeepsCeiling room cost_room Nothing = Unit {0}
KeepsCeiling room cost_room (Cash cash) = Unit {0}
KeepsCeiling room cost_room (Shares cash mils) = (mils ≤ room) × (cash ≤ cost_room)

-- what is reinvested is a mil or more
abbrev pub BuysMils : Payment → Type 0
BuysMils Nothing = Unit {0}
BuysMils (Cash cash) = Unit {0}
BuysMils (Shares cash mils) = 1 ≤ mils
