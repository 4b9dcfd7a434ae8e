-- Reading from left to right: a reader answers the value at the front of the bytes and what is left behind it, or nothing
-- where no value in its form stands there.
use Rattle.std.specs.Prelude.{◌≡◌, ℕ, zero, suc, Bool, nat_lt, nat_le, ◌==◌, ◌&&◌, if◌then◌else◌, List, [], ◌∷◌, ◌++◌, length, take, drop, Option, Some, None, option_map, option_and_then, Result, Ok, Err}
use Rattle.std.specs.Int.{Width, w16, byte_len, from_be_bytes}
use Rattle.event_rows.specs.declared.fault.RowFault.{RowFault}
use Rattle.event_rows.specs.declared.fault.RowFault.TheVariants as faults

-- What a call answered and left is what the reader gives, unless memory ran out.
abbrev pub Fails : {Y : Type 0} → RowFault → Option Y → Type 0
Fails faults.Memory read = Unit {0}
Fails faults.Wrong read = read ≡ None

abbrev pub Reads : {X : Type 0} → Result X RowFault → List ℕ → Option (X × List ℕ) → Type 0
Reads (Ok x) rest read = read ≡ Some (x, rest)
Reads (Err fault) rest read = Fails fault read

-- the same of a call that answers a value behind a reference
abbrev pub ReadsAs : {X Y : Type 0} → (X → Y) → Result X RowFault → List ℕ → Option (Y × List ℕ) → Type 0
ReadsAs view (Ok x) rest read = read ≡ Some (view x, rest)
ReadsAs view (Err fault) rest read = Fails fault read

-- one field and then another
infixr 30 ◌&◌
abbrev pub ◌&◌ : {A B : Type 0} → (List ℕ → Option (A × List ℕ)) → (List ℕ → Option (B × List ℕ)) → List ℕ → Option ((A × B) × List ℕ)
(first & second) bytes = option_and_then (λ x. option_map (λ y. ((x.0, y.0), y.1)) (second x.1)) (first bytes)

-- the value that is made of what was read
abbrev pub map_read : {A B : Type 0} → (A → B) → (List ℕ → Option (A × List ℕ)) → List ℕ → Option (B × List ℕ)
map_read make read bytes = option_map (λ x. (make x.0, x.1)) (read bytes)

-- only a value that passes the test
abbrev pub kept : {A : Type 0} → (A → Bool) → (List ℕ → Option (A × List ℕ)) → List ℕ → Option (A × List ℕ)
kept test read bytes = option_and_then (λ x. if test x.0 then Some x else None) (read bytes)

-- a byte that says how to read what stands behind it
abbrev pub behind : {A : Type 0} → (ℕ → List ℕ → Option (A × List ℕ)) → Option (ℕ × List ℕ) → Option (A × List ℕ)
behind read tag = option_and_then (λ x. read x.0 x.1) tag

-- a byte, and a number of several bytes
abbrev pub byte_at : List ℕ → Option (ℕ × List ℕ)
byte_at [] = None
byte_at (byte ∷ rest) = Some (byte, rest)

unfoldable pub number_at : Width → List ℕ → Option (ℕ × List ℕ)
number_at w bytes =
    if nat_lt (length bytes) (byte_len w) then None
    else Some (from_be_bytes w (take (byte_len w) bytes), drop (byte_len w) bytes)

-- a number in its range
abbrev pub is_between : ℕ → ℕ → ℕ → Bool
is_between low high n = nat_le low n && nat_le n high

abbrev pub number_between : Width → ℕ → ℕ → List ℕ → Option (ℕ × List ℕ)
number_between w low high = kept (is_between low high) (number_at w)

-- so many bytes
abbrev pub bytes_at : ℕ → List ℕ → Option (List ℕ × List ℕ)
bytes_at count bytes = if nat_lt (length bytes) count then None else Some (take count bytes, drop count bytes)

-- so many items
abbrev pub with_front : {A : Type 0} → List A → Option (List A × List ℕ) → Option (List A × List ℕ)
with_front front read = option_map (λ x. (front ++ x.0, x.1)) read

unfoldable pub items_at : {A : Type 0} → (List ℕ → Option (A × List ℕ)) → ℕ → List ℕ → Option (List A × List ℕ)
items_at item zero bytes = Some ([], bytes)
items_at item (suc count) bytes =
    option_and_then (λ first. with_front (first.0 ∷ []) (items_at item count first.1)) (item bytes)

-- a list behind its count
unfoldable pub list_at : {A : Type 0} → (List ℕ → Option (A × List ℕ)) → List ℕ → Option (List A × List ℕ)
list_at item bytes = option_and_then (λ count. items_at item count.0 count.1) (number_at w16 bytes)

-- a value behind which nothing stands
abbrev pub if_whole : {A : Type 0} → Option (A × List ℕ) → Option A
if_whole None = None
if_whole (Some x) = if length x.1 == 0 then Some x.0 else None
