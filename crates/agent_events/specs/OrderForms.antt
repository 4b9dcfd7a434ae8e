-- The forms of the order verbs, and of the verbs that carry one: a dealer's line and the corrections that enter or replace an
-- order. Their number of fields is what the order verb needs, and places count over the whole record.
use Rattle.std.specs.Prelude.{ℕ, ◌+◌, List, length, if◌then◌else◌, nat_lt, Some, None, Ok, Err, codes, bytes_eq, Option, Result, option_map}
use Rattle.agent_events.specs.Fields.{amount, bearer, identifier, moment, pay, quantity, reference}
use Rattle.agent_events.specs.Forms.{at, field, ◌>>=◌, of_length}
use Rattle.agent_events.specs.declared.order.Body.{Body}
use Rattle.agent_events.specs.declared.request.EntryForm.{EntryForm}
use Rattle.agent_events.specs.declared.order.Order.{Order}
use Rattle.agent_events.specs.declared.request.Request.{Request}
use Rattle.agent_events.specs.VerbForms.{Asked}

-- how many fields an order verb has, where it is one
abbrev pub order_count : List ℕ → Option ℕ
order_count verb =
    if bytes_eq verb (codes "buy") then Some 4
    else if bytes_eq verb (codes "sell") then Some 4
    else if bytes_eq verb (codes "sellcash") then Some 4
    else if bytes_eq verb (codes "sellall") then Some 3
    else if bytes_eq verb (codes "exchange") then Some 5
    else if bytes_eq verb (codes "exchangeall") then Some 4
    else if bytes_eq verb (codes "letter") then Some 4
    else if bytes_eq verb (codes "elect") then Some 4
    else None

-- an exchange of some shares, by its target and its mils
abbrev pub exchange_form : ℕ → ℕ → List (List ℕ) → Result Body ℕ
exchange_form before class fields = do
  to ← at (before + 4) (identifier (field fields (before + 4)))
  mils ← at (before + 5) (quantity (field fields (before + 5)))
  Ok (Body.Exchange class to mils)

-- what an order of a class does, by the fields behind its class, where so many fields stand before its first
abbrev pub body_form : List ℕ → ℕ → ℕ → List (List ℕ) → Result Body ℕ
body_form verb before class fields =
    if bytes_eq verb (codes "buy")
    then at (before + 4) (option_map (Body.Buy class) (amount (field fields (before + 4))))
    else if bytes_eq verb (codes "sell")
    then at (before + 4) (option_map (Body.Sell class) (quantity (field fields (before + 4))))
    else if bytes_eq verb (codes "sellcash")
    then at (before + 4) (option_map (Body.SellCash class) (amount (field fields (before + 4))))
    else if bytes_eq verb (codes "sellall") then Ok (Body.SellAll class)
    else if bytes_eq verb (codes "exchange") then exchange_form before class fields
    else if bytes_eq verb (codes "exchangeall")
    then at (before + 4) (option_map (Body.ExchangeAll class) (identifier (field fields (before + 4))))
    else if bytes_eq verb (codes "letter")
    then at (before + 4) (option_map (Body.Letter class) (amount (field fields (before + 4))))
    else at (before + 4) (option_map (Body.Elect class) (pay (field fields (before + 4))))

-- an order: its account, its reference, its class and the rest
abbrev pub order_form : List ℕ → ℕ → List (List ℕ) → Result Order ℕ
order_form verb before fields = do
  account ← at (before + 1) (identifier (field fields (before + 1)))
  ref_no ← at (before + 2) (reference (field fields (before + 2)))
  class ← at (before + 3) (identifier (field fields (before + 3)))
  body ← body_form verb before class fields
  Ok (record { account = account; ref_no = ref_no; body = body })

abbrev pub order_asked : List ℕ → List (List ℕ) → Asked
order_asked verb fields = order_form verb 0 fields >>= λ order. Ok (Request.Order order)

-- the order behind so many fields, of which the last is its verb
abbrev pub carried_order : ℕ → List (List ℕ) → Result Order ℕ
carried_order before fields = order_form (field fields before) before fields

-- a verb with lead fields, the last of them an order verb: the number of fields counts only where that verb is known
abbrev pub counted_by : Option ℕ → ℕ → (List (List ℕ) → Asked) → List (List ℕ) → Asked
counted_by None lead form fields = form fields
counted_by (Some count) lead form fields = of_length (lead + count) form fields

abbrev pub with_order : ℕ → (List (List ℕ) → Asked) → List (List ℕ) → Asked
with_order lead form fields =
    if nat_lt (length fields) lead then Err 0 else counted_by (order_count (field fields lead)) lead form fields

abbrev pub line_asked : List (List ℕ) → Asked
line_asked fields = do
  receipt ← at 1 (moment (field fields 1))
  count ← at 2 (order_count (field fields 2))
  order ← carried_order 2 fields
  Ok (Request.Line (record { receipt = receipt; order = order }))

abbrev pub entry_form : List (List ℕ) → Result EntryForm ℕ
entry_form fields = do
  fix ← at 1 (reference (field fields 1))
  borne ← at 2 (bearer (field fields 2))
  receipt ← at 3 (moment (field fields 3))
  count ← at 4 (order_count (field fields 4))
  order ← carried_order 4 fields
  Ok (record { fix = fix; bearer = borne; receipt = receipt; order = order })

abbrev pub enter_asked : List (List ℕ) → Asked
enter_asked fields = entry_form fields >>= λ form. Ok (Request.Enter form)

abbrev pub replace_asked : List (List ℕ) → Asked
replace_asked fields = entry_form fields >>= λ form. Ok (Request.Replace form)

-- an order verb by itself, or no verb at all
abbrev pub order_or_unknown : Option ℕ → List ℕ → List (List ℕ) → Asked
order_or_unknown None verb fields = Err 0
order_or_unknown (Some count) verb fields = of_length count (order_asked verb) fields
