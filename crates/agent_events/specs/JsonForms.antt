-- The forms of the verbs as members of a JSON object: each member has the name of a field, and its value is a text in the
-- field's form. A missing member has its field's place, and a member with another name is place 0.
use Rattle.std.specs.Prelude.{ℕ, Bool, ◌||◌, List, [], ◌∷◌, ◌++◌, map, if◌then◌else◌, Some, None, Err, codes, bytes_eq, fold, Option, unwrap_or, option_and_then}
use Rattle.std.specs.List.{list_all, list_any}
use Rattle.agent_events.specs.Items.{asked_by}
use Rattle.agent_events.specs.OrderForms.{order_count}
use Rattle.agent_events.specs.VerbForms.{Asked}

-- a member by its name, and its text where its value is a string or a whole number, which stands for its digits
pub record Member : Type 0 where
  pub name : List ℕ
  pub text : Option (List ℕ)

-- a text that is in no field's form stands for what is missing
abbrev pub no_text : List ℕ
no_text = 0 ∷ []

abbrev pub member_named : List Member → List ℕ → Option Member
member_named members name = fold (λ found member. if bytes_eq member.name name then Some member else found) None members

abbrev pub text_named : List Member → List ℕ → List ℕ
text_named members name = unwrap_or (option_and_then (λ member. member.text) (member_named members name)) no_text

-- the fields of these names, in order
abbrev pub texts_named : List Member → List (List ℕ) → List (List ℕ)
texts_named members names = map (text_named members) names

-- every member has one of these names
abbrev pub are_named : List (List ℕ) → List Member → Bool
are_named names members = list_all (λ member. list_any (bytes_eq member.name) names) members

-- the names of the fields of an order verb, of which the first three are common to all
abbrev pub lead_names : List (List ℕ)
lead_names = codes "account" ∷ codes "ref" ∷ codes "class" ∷ []

abbrev pub order_names : List ℕ → List (List ℕ)
order_names verb =
    if bytes_eq verb (codes "buy") then lead_names ++ codes "gross" ∷ []
    else if bytes_eq verb (codes "sell") then lead_names ++ codes "shares" ∷ []
    else if bytes_eq verb (codes "sellcash") then lead_names ++ codes "amount" ∷ []
    else if bytes_eq verb (codes "sellall") then lead_names
    else if bytes_eq verb (codes "exchange") then lead_names ++ codes "to" ∷ codes "shares" ∷ []
    else if bytes_eq verb (codes "exchangeall") then lead_names ++ codes "to" ∷ []
    else if bytes_eq verb (codes "letter") then lead_names ++ codes "amount" ∷ []
    else lead_names ++ codes "pay" ∷ []

abbrev pub class_field_names : List (List ℕ)
class_field_names =
    codes "class" ∷ codes "calendar" ∷ codes "fund" ∷ codes "name" ∷ codes "family" ∷ codes "counts"
    ∷ codes "first_min" ∷ codes "later_min" ∷ codes "front" ∷ codes "deferred" ∷ []

-- the names of the fields of a verb, but for `enter` and `replace`, whose order verb brings its own
abbrev pub field_names : List ℕ → List (List ℕ)
field_names verb =
    if bytes_eq verb (codes "calendar")
    then codes "calendar" ∷ codes "zone" ∷ codes "time" ∷ codes "first" ∷ codes "last" ∷ codes "holidays" ∷ []
    else if bytes_eq verb (codes "close") then codes "calendar" ∷ codes "date" ∷ []
    else if bytes_eq verb (codes "class") then class_field_names
    else if bytes_eq verb (codes "dealer") then codes "dealer" ∷ codes "key" ∷ codes "window" ∷ []
    else if bytes_eq verb (codes "household") then codes "household" ∷ codes "key" ∷ []
    else if bytes_eq verb (codes "account")
    then codes "account" ∷ codes "household" ∷ codes "dealer" ∷ codes "name" ∷ []
    else if bytes_eq verb (codes "sheet") then codes "calendar" ∷ codes "moment" ∷ codes "prices" ∷ []
    else if bytes_eq verb (codes "dividend") then codes "class" ∷ codes "moment" ∷ codes "rate" ∷ []
    else if bytes_eq verb (codes "fixprice")
    then codes "fix" ∷ codes "bearer" ∷ codes "class" ∷ codes "moment" ∷ codes "nav" ∷ []
    else if bytes_eq verb (codes "fixrate")
    then codes "fix" ∷ codes "bearer" ∷ codes "class" ∷ codes "moment" ∷ codes "rate" ∷ []
    else if bytes_eq verb (codes "void") then codes "fix" ∷ codes "bearer" ∷ codes "account" ∷ codes "ref" ∷ []
    else if bytes_eq verb (codes "cancel") then codes "account" ∷ codes "ref" ∷ codes "target" ∷ []
    else order_names verb

-- the fields of these names, where no member has another
abbrev pub asked_by_names : List ℕ → List (List ℕ) → List Member → Asked
asked_by_names verb names members =
    if are_named names members then asked_by verb (texts_named members names) else Err 0

abbrev pub entry_names : List (List ℕ)
entry_names = codes "fix" ∷ codes "bearer" ∷ codes "receipt" ∷ codes "verb" ∷ []

-- the members of an order verb stand beside the others; where that verb is missing or unknown, other members are passed over
abbrev pub entry_by_verb : Option ℕ → List ℕ → List ℕ → List Member → Asked
entry_by_verb None verb order_verb members = asked_by verb (texts_named members entry_names)
entry_by_verb (Some count) verb order_verb members =
    asked_by_names verb (entry_names ++ order_names order_verb) members

abbrev pub entry_members : List ℕ → List ℕ → List Member → Asked
entry_members verb order_verb members = entry_by_verb (order_count order_verb) verb order_verb members

-- the verbs that a body may carry besides `enter` and `replace`
abbrev pub posted_verbs : List (List ℕ)
posted_verbs =
    codes "calendar" ∷ codes "close" ∷ codes "class" ∷ codes "dealer" ∷ codes "household" ∷ codes "account"
    ∷ codes "sheet" ∷ codes "dividend" ∷ codes "fixprice" ∷ codes "fixrate" ∷ codes "void" ∷ codes "buy"
    ∷ codes "sell" ∷ codes "sellcash" ∷ codes "sellall" ∷ codes "exchange" ∷ codes "exchangeall" ∷ codes "letter"
    ∷ codes "elect" ∷ codes "cancel" ∷ []

abbrev pub is_posted : List ℕ → Bool
is_posted verb = list_any (bytes_eq verb) posted_verbs

-- what a verb asks by its members
abbrev pub asked_by_members : List ℕ → List Member → Asked
asked_by_members verb members =
    if bytes_eq verb (codes "enter") || bytes_eq verb (codes "replace")
    then entry_members verb (text_named members (codes "verb")) members
    else if is_posted verb then asked_by_names verb (field_names verb) members
    else Err 0
