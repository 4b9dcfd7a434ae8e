-- The indexes of the book as look-up functions, and the room in them.
use Rattle.std.specs.HashMap.{get, spare}
use Rattle.std.specs.Prelude.{Bool, List, Option, false, if◌then◌else◌, true, ℕ, ◌&&◌, ◌*◌, ◌++◌, ◌==◌, ◌≤◌, bytes_eq, drop, length, nat_eq, replicate, unwrap_or}
use Rattle.order_book.specs.Brought.{same_identity}
use Rattle.order_book.specs.declared.identities.Identities.{Identities}
use Rattle.order_book.specs.declared.identity.Identity.{Identity}
use Rattle.order_book.specs.declared.keys.KeyText.{KeyText}
use Rattle.order_book.specs.declared.keys.Keys.{Keys}
use Rattle.order_book.specs.declared.tally.Tally.{Tally}

-- what an account calls an order or a cancel
abbrev pub is_reference : Identity → Bool
is_reference (Identity.Reference account ref_no) = true
is_reference _ = false

-- the place that is kept of an identity, among the references or among the others
abbrev pub place_of : Identities → Identity → Option ℕ
place_of identities identity =
    if is_reference identity
    then get same_identity identities.references identity
    else get same_identity identities.others identity

-- so many events more can be taken in; each brings at most two identities
abbrev pub HasRoom : Identities → ℕ → Type 0
HasRoom identities events = (2 * events ≤ spare identities.references) × (2 * events ≤ spare identities.others)

-- a key as it is kept: 64 bytes, the key in front, and its length
abbrev pub key_text : List ℕ → KeyText
key_text key = record { bytes = key ++ drop (length key) (replicate 64 0); len = length key }

abbrev pub same_text : KeyText → KeyText → Bool
same_text a b = bytes_eq a.bytes b.bytes && a.len == b.len

-- the place that is kept of a key
abbrev pub place_of_key : Keys → List ℕ → Option ℕ
place_of_key keys key = get same_text keys.places (key_text key)

abbrev pub HasKeyRoom : Keys → ℕ → Type 0
HasKeyRoom keys events = events ≤ spare keys.places

-- how often a number was counted
abbrev pub count_of : Tally → ℕ → ℕ
count_of tally number = unwrap_or (get nat_eq tally.counts number) 0

abbrev pub HasTallyRoom : Tally → ℕ → Type 0
HasTallyRoom tally events = events ≤ spare tally.counts
