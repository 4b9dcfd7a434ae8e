-- Members of JSON objects as examples: what they ask, and that they ask what the fields of a script ask.
use Rattle.std.specs.Prelude.{Bool, List, Ok, Some, [], ℕ, ◌∷◌, ◌≡◌, codes, map, reverse, true, unwrap_or}
use Rattle.std.specs.Result.{is_ok}
use Rattle.agent_events.specs.Items.{asked_by}
use Rattle.agent_events.specs.JsonForms.{Member, asked_by_members}
use Rattle.agent_events.specs.VerbForms.{Asked}
use Rattle.agent_events.specs.declared.order.Body.{Body}
use Rattle.agent_events.specs.declared.request.Request.{Request}

-- a member of a JSON object by its name and its text
abbrev pub member : List ℕ → List ℕ → Member
member name text = record { name = name; text = Some text }

-- the members that all order verbs have, and what an order with this body asks
abbrev pub lead : List Member
lead =
    member (codes "account") (codes "101") ∷ member (codes "ref") (codes "1") ∷ member (codes "class") (codes "11") ∷ []

abbrev pub asks_for : Body → Asked
asks_for body = Ok (Request.Order (record { account = 101; ref_no = 1; body = body }))

-- the members of a verb in the order of its fields are sent in the reverse order: they ask what the fields ask, which is in
-- the form
abbrev pub texts_of : List Member → List (List ℕ)
texts_of members = map (λ sent. unwrap_or sent.text []) members

abbrev pub AskTheSame : List ℕ → List Member → Type 0
AskTheSame verb members =
    ◌≡◌ {A = Asked × Bool} (asked_by_members verb (reverse members), is_ok (asked_by verb (texts_of members)))
    (asked_by verb (texts_of members), true)
