-- The range of each field, as its type keeps it.
use Rattle.std.specs.Prelude.{◌≡◌, ℕ, ◌≤◌, Bool, true, List, length}
use Rattle.std.specs.List.{AllByRecursion}
use Rattle.agent_events.specs.declared.order.Bearer.{Bearer}

abbrev pub Between : ℕ → ℕ → ℕ → Type 0
Between low high n = (low ≤ n) × (n ≤ high)

-- the number of a calendar, class, fund, dealer, household or account, and the same or 0 for none
abbrev pub IsIdentifier : ℕ → Type 0
IsIdentifier n = Between 1 4294967295 n

abbrev pub IsIdentifierOrNone : ℕ → Type 0
IsIdentifierOrNone n = Between 0 4294967295 n

-- what an account calls an order, or the number of a correction
abbrev pub IsReference : ℕ → Type 0
IsReference n = Between 1 9999999999999999999 n

-- seconds since 1970-01-01 00:00 UTC, to the end of 2199; dates by their day numbers
abbrev pub IsMoment : ℕ → Type 0
IsMoment n = Between 0 7258118399 n

abbrev pub IsDay : ℕ → Type 0
IsDay n = Between 0 84005 n

-- the cents of an order or a letter, of a minimum, and of a net asset value
abbrev pub IsAmount : ℕ → Type 0
IsAmount n = Between 1 1000000000000 n

abbrev pub IsMinimum : ℕ → Type 0
IsMinimum n = Between 0 1000000000000 n

abbrev pub IsNav : ℕ → Type 0
IsNav n = Between 1 10000000 n

-- the mils of an order
abbrev pub IsQuantity : ℕ → Type 0
IsQuantity n = Between 1 1000000000000 n

-- the rate of a dividend, and of one that is corrected, in millionths of a dollar per share
abbrev pub IsDividendRate : ℕ → Type 0
IsDividendRate n = Between 1 1000000000 n

abbrev pub IsCorrectedRate : ℕ → Type 0
IsCorrectedRate n = Between 0 1000000000 n

-- minutes after midnight, a dealer's window in seconds, a rate of charge in basis points
abbrev pub IsTimeOfDay : ℕ → Type 0
IsTimeOfDay n = Between 0 1439 n

abbrev pub IsWindow : ℕ → Type 0
IsWindow n = Between 0 86400 n

abbrev pub IsBps : ℕ → Type 0
IsBps n = Between 0 65535 n

-- a text whose form is a test
abbrev pub Passes : {A : Type 0} → (A → Bool) → A → Type 0
Passes test x = test x ≡ true

-- at most 65,535 items, each in its range
abbrev pub AreListed : {A : Type 0} → (A → Type 0) → List A → Type 0
AreListed fits items = (length items ≤ 65535) × AllByRecursion fits items

-- who bears a loss
abbrev pub IsBearer : Bearer → Type 0
IsBearer Bearer.Fund = Unit {0}
IsBearer Bearer.Agent = Unit {0}
IsBearer (Bearer.Dealer dealer) = IsIdentifier dealer
