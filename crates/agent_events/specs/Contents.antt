-- Equal content: the verb and all fields as they were first sent, for a dealer's line its receipt too. The content of a
-- request is a list of lists of numbers: a number for its verb (one for all order verbs, whose own is told by the body), then its
-- fields; two requests are the same where their contents are. Who sent a request isn't part of it.
use Rattle.std.specs.Prelude.{ℕ, Bool, List, [], ◌∷◌, if◌then◌else◌, bytes_eq, flat_map}
use Rattle.std.specs.Cmp.Lexicographic.{pointwise}
use Rattle.class_terms.specs.declared.lists.Bracket.{Bracket}
use Rattle.agent_events.specs.declared.order.Bearer.{Bearer}
use Rattle.agent_events.specs.declared.order.Body.{Body}
use Rattle.agent_events.specs.declared.request.ClassForm.{ClassForm}
use Rattle.agent_events.specs.declared.request.EntryForm.{EntryForm}
use Rattle.agent_events.specs.declared.order.Order.{Order}
use Rattle.agent_events.specs.declared.request.Request.{Request}

abbrev pub flag_number : Bool → ℕ
flag_number flag = if flag then 1 else 0

abbrev pub bearer_content : Bearer → List ℕ
bearer_content Bearer.Fund = 0 ∷ []
bearer_content Bearer.Agent = 1 ∷ []
bearer_content (Bearer.Dealer dealer) = 2 ∷ dealer ∷ []

abbrev pub body_content : Body → List ℕ
body_content (Body.Buy class gross) = 1 ∷ class ∷ gross ∷ []
body_content (Body.Sell class mils) = 2 ∷ class ∷ mils ∷ []
body_content (Body.SellCash class amount) = 3 ∷ class ∷ amount ∷ []
body_content (Body.SellAll class) = 4 ∷ class ∷ []
body_content (Body.Exchange class to mils) = 5 ∷ class ∷ to ∷ mils ∷ []
body_content (Body.ExchangeAll class to) = 6 ∷ class ∷ to ∷ []
body_content (Body.Letter class amount) = 7 ∷ class ∷ amount ∷ []
body_content (Body.Elect class in_cash) = 8 ∷ class ∷ flag_number in_cash ∷ []

abbrev pub order_content : Order → List (List ℕ)
order_content order = (order.account ∷ order.ref_no ∷ []) ∷ body_content order.body ∷ []

abbrev pub brackets_content : List Bracket → List ℕ
brackets_content rows = flat_map (λ row. row.floor ∷ row.rate ∷ []) rows

abbrev pub prices_content : List (ℕ × ℕ) → List ℕ
prices_content prices = flat_map (λ price. price.0 ∷ price.1 ∷ []) prices

abbrev pub class_content : ClassForm → List (List ℕ)
class_content form =
    (form.class ∷ form.calendar ∷ form.fund ∷ []) ∷ form.name ∷ (form.family ∷ flag_number form.counts ∷ [])
    ∷ (form.first_min ∷ form.later_min ∷ []) ∷ brackets_content form.front ∷ form.deferred ∷ []

abbrev pub entry_content : EntryForm → List (List ℕ)
entry_content form = (form.fix ∷ form.receipt ∷ []) ∷ bearer_content form.bearer ∷ order_content form.order

abbrev pub content : Request → List (List ℕ)
content (Request.Calendar form) =
    (1 ∷ []) ∷ (form.calendar ∷ form.minute ∷ form.first ∷ form.last ∷ []) ∷ form.zone ∷ form.holidays ∷ []
content (Request.Close form) = (2 ∷ []) ∷ (form.calendar ∷ form.day ∷ []) ∷ []
content (Request.Class form) = (3 ∷ []) ∷ class_content form
content (Request.Dealer form) = (4 ∷ []) ∷ (form.dealer ∷ form.window ∷ []) ∷ form.key ∷ []
content (Request.Household form) = (5 ∷ []) ∷ (form.household ∷ []) ∷ form.key ∷ []
content (Request.Account form) =
    (6 ∷ []) ∷ (form.account ∷ form.household ∷ form.dealer ∷ []) ∷ form.name ∷ []
content (Request.Sheet form) = (7 ∷ []) ∷ (form.calendar ∷ form.moment ∷ []) ∷ prices_content form.prices ∷ []
content (Request.Dividend form) = (8 ∷ []) ∷ (form.class ∷ form.moment ∷ form.rate ∷ []) ∷ []
content (Request.FixPrice form) =
    (9 ∷ []) ∷ (form.fix ∷ form.class ∷ form.moment ∷ form.nav ∷ []) ∷ bearer_content form.bearer ∷ []
content (Request.FixRate form) =
    (10 ∷ []) ∷ (form.fix ∷ form.class ∷ form.moment ∷ form.rate ∷ []) ∷ bearer_content form.bearer ∷ []
content (Request.Enter form) = (11 ∷ []) ∷ entry_content form
content (Request.Replace form) = (12 ∷ []) ∷ entry_content form
content (Request.Void form) =
    (13 ∷ []) ∷ (form.fix ∷ form.account ∷ form.ref_no ∷ []) ∷ bearer_content form.bearer ∷ []
content (Request.Order order) = (14 ∷ []) ∷ order_content order
content (Request.Cancel form) = (15 ∷ []) ∷ (form.account ∷ form.ref_no ∷ form.target ∷ []) ∷ []
content (Request.Show account) = (16 ∷ []) ∷ (account ∷ []) ∷ []
content (Request.Trace form) = (17 ∷ []) ∷ (form.account ∷ form.ref_no ∷ []) ∷ []
content (Request.Statement form) = (18 ∷ []) ∷ (form.account ∷ form.first ∷ form.last ∷ []) ∷ []
content Request.Books = (19 ∷ []) ∷ []
content (Request.Line line) = (20 ∷ []) ∷ (line.receipt ∷ []) ∷ order_content line.order

abbrev pub same_request : Request → Request → Bool
same_request first second = pointwise bytes_eq (content first) (content second)
