-- What the fields of a head say. Names of fields are compared without regard to ASCII case, values have no white space around them.
use Rattle.std.specs.Prelude.{ℕ, ◌+◌, Bool, ◌&&◌, ◌||◌, nat_lt, nat_le, ◌==◌, if◌then◌else◌, List, [], length, map, Option, Some, None, Result, Ok, Err, codes}
use Rattle.std.specs.List.{fold, list_all, list_any}
use Rattle.std.specs.Char.{is_ascii_digit}
use Rattle.std.specs.Str.{str_eq_ignore_ascii_case}
use Rattle.std.specs.Str.Parse.{digits_value}
use Rattle.httparse.specs.Grammar.{RequestHead}
use Rattle.httparse.specs.Spans.{name_and_value}
use Rattle.http_stream.specs.declared.fault.HttpFault.{HttpFault}

-- a field's name and its value
abbrev pub Pair : Type 0
Pair = List ℕ × List ℕ

-- how many fields have a name, and the value of the last of them
pub record Named : Type 0 where
  pub count : ℕ
  pub value : List ℕ

abbrev pub none_named : Named
none_named = record { count = 0; value = [] }

abbrev pub named_with : List ℕ → Named → Pair → Named
named_with name found pair =
    if str_eq_ignore_ascii_case pair.0 name then record { count = found.count + 1; value = pair.1 } else found

abbrev pub fields_named : List ℕ → List Pair → Named
fields_named name pairs = fold (named_with name) none_named pairs

abbrev pub key_name : List ℕ
key_name = codes "x-agent-key"

abbrev pub length_name : List ℕ
length_name = codes "content-length"

abbrev pub coding_name : List ℕ
coding_name = codes "transfer-encoding"

abbrev pub connection_name : List ℕ
connection_name = codes "connection"

-- the value of the one field
abbrev pub only_value : Named → List ℕ
only_value found = if found.count == 1 then found.value else []

-- a field `Connection` whose whole value is `close`
abbrev pub is_close : Pair → Bool
is_close pair = str_eq_ignore_ascii_case pair.0 connection_name && str_eq_ignore_ascii_case pair.1 (codes "close")

-- a body has at most so many bytes
abbrev pub body_limit : ℕ
body_limit = 1048576

-- 1 to 10 digits
abbrev pub is_length : List ℕ → Bool
is_length text = list_all is_ascii_digit text && (nat_le 1 (length text) && nat_le (length text) 10)

abbrev pub within_limit : ℕ → Result (Option ℕ) HttpFault
within_limit size = if nat_le size body_limit then Ok (Some size) else Err HttpFault.S413

abbrev pub length_of : List ℕ → Result (Option ℕ) HttpFault
length_of text = if is_length text then within_limit (digits_value 10 text) else Err HttpFault.S400

-- the length that the fields of this name say, if one does
abbrev pub said_length : Named → Result (Option ℕ) HttpFault
said_length found =
    if found.count == 0 then Ok None else if found.count == 1 then length_of found.value else Err HttpFault.S400

-- how many bytes the body has, where a field says so, or the fault that closes the connection. The faults are tried in this
-- order: a coding of the body, two lengths or one not in its form, a length past the limit
abbrev pub length_by : List Pair → Result (Option ℕ) HttpFault
length_by pairs =
    if nat_lt 0 (fields_named coding_name pairs).count then Err HttpFault.S501 else said_length (fields_named length_name pairs)

abbrev pub pairs_of : RequestHead → List Pair
pairs_of head = map name_and_value head.fields

abbrev pub key_of : RequestHead → List ℕ
key_of head = only_value (fields_named key_name (pairs_of head))

abbrev pub body_length : RequestHead → Result (Option ℕ) HttpFault
body_length head = length_by (pairs_of head)

-- a reply to HTTP/1.0 is the last of its connection, and so is one to a head that says so
abbrev pub closes : RequestHead → Bool
closes head = head.minor == 0 || list_any is_close (pairs_of head)
