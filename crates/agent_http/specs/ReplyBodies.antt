-- The body of a reply: the compact JSON object (RFC 8259) of its texts, all as strings, with its members in the order of the bytes
-- of their names. A statement's body is its own text.
use Rattle.std.specs.Prelude.{ℕ, List, [], ◌∷◌, if◌then◌else◌, codes, bytes_eq, Option, Some, None}
use Rattle.std.specs.List.{fold, zip}
use Rattle.serde_json.specs.Data.{Data, Members, no_members, object, put, string}
use Rattle.serde_json.specs.Written.{compact_text}
use Rattle.agent_events.specs.AnswerTexts.{answer_texts}
use Rattle.agent_events.specs.declared.reply.Reply.{Reply}

-- the name of the member that has the reply's own name, or `no`
abbrev pub first_name : List ℕ
first_name = codes "reply"

abbrev pub number_name : List (List ℕ)
number_name = first_name ∷ codes "number" ∷ []

abbrev pub trace_names : List (List ℕ)
trace_names =
    first_name ∷ codes "account" ∷ codes "ref" ∷ codes "state" ∷ codes "receipt" ∷ codes "due" ∷ codes "price"
    ∷ codes "shares" ∷ codes "cash" ∷ codes "charge" ∷ codes "loose" ∷ []

abbrev pub books_names : List (List ℕ)
books_names =
    first_name ∷ codes "classes" ∷ codes "underwriter" ∷ codes "agent" ∷ codes "dealers" ∷ codes "holders" ∷ []

-- the names of a reply's texts in order
abbrev pub names_of : Reply → List (List ℕ)
names_of (Reply.Order order) = first_name ∷ codes "account" ∷ codes "ref" ∷ codes "receipt" ∷ codes "due" ∷ []
names_of (Reply.Cancel form) = first_name ∷ codes "account" ∷ codes "ref" ∷ codes "target" ∷ []
names_of (Reply.Calendar number) = number_name
names_of (Reply.Class number) = number_name
names_of (Reply.Dealer number) = number_name
names_of (Reply.Household number) = number_name
names_of (Reply.Account number) = number_name
names_of (Reply.Close form) = first_name ∷ codes "calendar" ∷ codes "date" ∷ []
names_of (Reply.Dividend class moment) = first_name ∷ codes "class" ∷ codes "moment" ∷ []
names_of (Reply.Sheet number) = number_name
names_of (Reply.Fix fix gains) = first_name ∷ codes "fix" ∷ codes "gains" ∷ []
names_of (Reply.Show account positions) = first_name ∷ codes "account" ∷ codes "positions" ∷ []
names_of (Reply.Trace traced) = trace_names
names_of (Reply.Statement account text) = first_name ∷ codes "account" ∷ codes "text" ∷ []
names_of (Reply.Books books) = books_names
names_of (Reply.Refused _) = first_name ∷ codes "code" ∷ codes "value" ∷ codes "second" ∷ []

-- the texts of a script's line without its `ok`
abbrev pub without_ok : List (List ℕ) → List (List ℕ)
without_ok [] = []
without_ok (first ∷ texts) = if bytes_eq first (codes "ok") then texts else first ∷ texts

abbrev pub put_text : Members → List ℕ × List ℕ → Members
put_text members pair = put pair.0 (string pair.1) members

-- the object that has these texts by their names
abbrev pub object_of : List (List ℕ × List ℕ) → Data
object_of pairs = object (fold put_text no_members pairs)

abbrev pub json_body : Reply → List ℕ
json_body reply = compact_text (object_of (zip (names_of reply) (without_ok (answer_texts reply))))

-- the text that is sent as it is
abbrev pub plain_text : Reply → Option (List ℕ)
plain_text (Reply.Statement account text) = Some text
plain_text reply = None
