-- The forms of the verbs: what the fields of a verb ask, or the place of the first field that isn't in its form, from 1.
-- Place 0 is an unknown verb or a wrong number of fields.
use Rattle.std.specs.Prelude.{ℕ, ◌-◌, Bool, ◌&&◌, nat_le, ◌==◌, if◌then◌else◌, List, [], length, slice_index_or, Option, Some, None, Result, Ok, Err}
use Rattle.std.specs.List.{list_all}
use Rattle.class_terms.specs.declared.lists.Bracket.{Bracket}
use Rattle.agent_events.specs.declared.request.ClassForm.{ClassForm}
use Rattle.agent_events.specs.declared.request.SheetForm.{SheetForm}
use Rattle.agent_events.specs.declared.request.Request.{Request}
use Rattle.agent_events.specs.Fields.{identifier, identifier_or_none, moment, minimum, flag, label, brackets, rates, prices}
use Rattle.money_units.specs.ByteTexts.{is_visible}

-- the field at this place, from 1
abbrev pub field : List (List ℕ) → ℕ → List ℕ
field fields place = slice_index_or fields (place - 1) []

-- a field in its form, or its place
abbrev pub at : {A : Type 0} → ℕ → Option A → Result A ℕ
at place None = Err place
at place (Some x) = Ok x

infixl 10 ◌>>=◌
abbrev pub ◌>>=◌ : {A B : Type 0} → Result A ℕ → (A → Result B ℕ) → Result B ℕ
(Ok x) >>= f = f x
(Err place) >>= f = Err place

-- the numbers and the name of a class
unfoldable pub class_names : List (List ℕ) → Result (ℕ × ℕ × ℕ × List ℕ × ℕ) ℕ
class_names fields = do
  class ← at 1 (identifier (field fields 1))
  calendar ← at 2 (identifier (field fields 2))
  fund ← at 3 (identifier (field fields 3))
  name ← at 4 (label (field fields 4))
  family ← at 5 (identifier_or_none (field fields 5))
  Ok (class, calendar, fund, name, family)

-- whether it counts, its minimums and its loads
unfoldable pub class_loads : List (List ℕ) → Result (Bool × ℕ × ℕ × List Bracket × List ℕ) ℕ
class_loads fields = do
  counts ← at 6 (flag (field fields 6))
  first_min ← at 7 (minimum (field fields 7))
  later_min ← at 8 (minimum (field fields 8))
  front ← at 9 (brackets (field fields 9))
  deferred ← at 10 (rates (field fields 10))
  Ok (counts, first_min, later_min, front, deferred)

unfoldable pub class_form : List (List ℕ) → Result ClassForm ℕ
class_form fields = do
  names ← class_names fields
  loads ← class_loads fields
  Ok (record {
    class = names.0;
    calendar = names.1;
    fund = names.2;
    name = names.3;
    family = names.4;
    counts = loads.0;
    first_min = loads.1;
    later_min = loads.2;
    front = loads.3;
    deferred = loads.4;
  })

unfoldable pub sheet_form : List (List ℕ) → Result SheetForm ℕ
sheet_form fields = do
  calendar ← at 1 (identifier (field fields 1))
  priced ← at 2 (moment (field fields 2))
  listed ← at 3 (prices (field fields 3))
  Ok (record { calendar = calendar; moment = priced; prices = listed })

-- a wrong number of fields is place 0
abbrev pub of_length : ℕ → (List (List ℕ) → Result Request ℕ) → List (List ℕ) → Result Request ℕ
of_length count form fields = if length fields == count then form fields else Err 0

-- at most 64 visible bytes, none too
abbrev pub is_key_text : List ℕ → Bool
is_key_text key = nat_le (length key) 64 && list_all is_visible key
