-- How single fields stand in a stored row: numbers with the high byte first, texts and lists behind their count.
use Rattle.std.specs.Prelude.{ℕ, ◌/◌, ◌%◌, Bool, if◌then◌else◌, List, [], ◌∷◌, ◌++◌, length}
use Rattle.std.specs.List.{flat_map}
use Rattle.std.specs.Int.{w16, w32, w64, to_be_bytes}
use Rattle.agent_events.specs.declared.order.Bearer.{Bearer}

-- a version, a kind, a tag
abbrev pub one_byte : ℕ → List ℕ
one_byte n = n ∷ []

-- a rate of charge, minutes after midnight, a count of items
unfoldable pub two_bytes : ℕ → List ℕ
two_bytes n = to_be_bytes w16 n

-- the number of a calendar, class, fund, dealer, household, account or lot, a date as its day number, a count of seconds
unfoldable pub four_bytes : ℕ → List ℕ
four_bytes n = to_be_bytes w32 n

-- a reference, the number of a correction, a moment, cents, mils, a dividend rate
unfoldable pub eight_bytes : ℕ → List ℕ
eight_bytes n = to_be_bytes w64 n

-- the credit at the start of a letter, the high half first
unfoldable pub sixteen_bytes : ℕ → List ℕ
sixteen_bytes n = eight_bytes (n / 18446744073709551616) ++ eight_bytes (n % 18446744073709551616)

-- 00 for no, 01 for yes
unfoldable pub flag : Bool → List ℕ
flag answer = one_byte (if answer then 1 else 0)

-- its length, and its bytes
unfoldable pub text : List ℕ → List ℕ
text bytes = two_bytes (length bytes) ++ bytes

-- the count of its items, and each item
unfoldable pub list_bytes : {A : Type 0} → (A → List ℕ) → List A → List ℕ
list_bytes item items = two_bytes (length items) ++ flat_map item items

-- 00 the fund, 01 the agent, 02 and the dealer
unfoldable pub bearer : Bearer → List ℕ
bearer Bearer.Fund = one_byte 0
bearer Bearer.Agent = one_byte 1
bearer (Bearer.Dealer dealer) = one_byte 2 ++ four_bytes dealer
