-- What a JSON body asks: one object, whose members are the verb's fields by name.
use Rattle.std.specs.Prelude.{ℕ, List, [], ◌∷◌, nat_le, if◌then◌else◌, Option, Some, None, Err, option_and_then}
use Rattle.std.specs.Str.{is_utf8}
use Rattle.serde_json.specs.Data.{Data, Members, Num, array, boolean, float, member, negative, no_members, null, number, object, string, unsigned}
use Rattle.serde_json.specs.Find.{as_object}
use Rattle.serde_json.specs.Read.{read}
use Rattle.money_units.specs.Texts.{number_text}
use Rattle.agent_events.specs.JsonForms.{Member, asked_by_members}
use Rattle.agent_events.specs.VerbForms.{Asked}

-- a whole number stands for its digits, up to the greatest number of the text forms
abbrev pub whole_text : ℕ → Option (List ℕ)
whole_text n = if nat_le n 9999999999999999999 then Some (number_text n) else None

abbrev pub num_text : Num → Option (List ℕ)
num_text (unsigned n) = whole_text n
num_text (negative z) = None
num_text (float x) = None

-- the text of a value: a string, or the digits of a whole number
abbrev pub text_of : Data → Option (List ℕ)
text_of null = None
text_of (boolean b) = None
text_of (number n) = num_text n
text_of (string s) = Some s
text_of (array ds) = None
text_of (object ms) = None

-- the members of an object as fields
abbrev pub members_in : Members → List Member
members_in no_members = []
members_in (member name value rest) = record { name = name; text = text_of value } ∷ members_in rest

-- the object that a body is, where it is one
abbrev pub object_in : List ℕ → Option Members
object_in body = if is_utf8 body then option_and_then as_object (read body) else None

abbrev pub asked_by_object : List ℕ → Option Members → Asked
asked_by_object verb None = Err 0
asked_by_object verb (Some members) = asked_by_members verb (members_in members)

-- what a body asks of a verb; a body that is no object is place 0
abbrev pub asked_by_body : List ℕ → List ℕ → Asked
asked_by_body verb body = asked_by_object verb (object_in body)
