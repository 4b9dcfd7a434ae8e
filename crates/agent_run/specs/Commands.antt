-- The commands: which options each has, what the value of each has to be, and what command the words give.
use Rattle.std.specs.Prelude.{ℕ, nat_le, ◌&&◌, ◌==◌, if◌then◌else◌, List, [], ◌∷◌, length, Option, Some, None, option_and_then, codes, bytes_eq}
use Rattle.agent_events.specs.Fields.{operator_key}
use Rattle.money_units.specs.Texts.{number}
use Rattle.agent_run.specs.Options.{Text, values_of}

-- a command as its words give it: the path of the store and a key are texts
pub record Apply : Type 0 where
  pub store : Text
  pub key : Text

pub record Load : Type 0 where
  pub number : ℕ
  pub households : ℕ
  pub days : ℕ

pub record Serve : Type 0 where
  pub store : Text
  pub port : ℕ
  pub key : Text
  pub connections : ℕ

pub data Command : Type 0 where
  apply : Apply → Command
  load : Load → Command
  serve : Serve → Command

-- the names of each command's options
abbrev pub apply_options : List Text
apply_options = codes "store" ∷ codes "key" ∷ []

abbrev pub load_options : List Text
load_options = codes "number" ∷ codes "households" ∷ codes "days" ∷ []

abbrev pub serve_options : List Text
serve_options = codes "store" ∷ codes "port" ∷ codes "key" ∷ codes "connections" ∷ []

-- the path of a store isn't empty
abbrev pub path : Text → Option Text
path text = if length text == 0 then None else Some text

-- a number in its one form, from `least` to `most`
abbrev pub within : ℕ → ℕ → ℕ → Option ℕ
within least most n = if nat_le least n && nat_le n most then Some n else None

abbrev pub number_within : ℕ → ℕ → Text → Option ℕ
number_within least most text = option_and_then (within least most) (number text)

infixl 10 ◌>>=◌
abbrev pub ◌>>=◌ : {A B : Type 0} → Option A → (A → Option B) → Option B
o >>= f = option_and_then f o

-- what each command makes of its options' values
abbrev pub apply_of : (Text → Option Text) → Option Command
apply_of value = do
  store ← value (codes "store") >>= path
  key ← value (codes "key") >>= operator_key
  Some (apply (record { store = store; key = key }))

abbrev pub load_of : (Text → Option Text) → Option Command
load_of value = do
  number ← value (codes "number") >>= number_within 0 4294967295
  households ← value (codes "households") >>= number_within 1 1000
  days ← value (codes "days") >>= number_within 0 2000
  Some (load (record { number = number; households = households; days = days }))

abbrev pub serve_of : (Text → Option Text) → Option Command
serve_of value = do
  store ← value (codes "store") >>= path
  port ← value (codes "port") >>= number_within 1 65535
  key ← value (codes "key") >>= operator_key
  connections ← value (codes "connections") >>= number_within 1 1000000
  Some (serve (record { store = store; port = port; key = key; connections = connections }))

-- the command of a name with these options
abbrev pub command_named : Text → List Text → Option Command
command_named name words =
    if bytes_eq name (codes "apply") then values_of apply_options words >>= apply_of
    else if bytes_eq name (codes "load") then values_of load_options words >>= load_of
    else if bytes_eq name (codes "serve") then values_of serve_options words >>= serve_of
    else None

-- the command that the words give: the first word names it, and the rest are its options
abbrev pub command_of : List Text → Option Command
command_of [] = None
command_of (name ∷ words) = command_named name words
