-- That `flat_members` keeps its contract.
use Rattle.std.proofs.Common.{◌≡◌, [], ◌∷◌, ◌∙◌, Some, map, sym, ap}
use Rattle.json.specs.Lex.{tokens}
use Rattle.json.specs.Reads.{token_of}
use Rattle.json.specs.Token.{Token}
use Rattle.agent_http.specs.Views.{member_view}
use Rattle.agent_http.proofs.FlatReads.{flat-asks, kept, none-there}
use Rattle.agent_http.proofs.flat.flat_members.Goals as goal

pub returns : goal.returns
returns c =
    let body = c.args.body.now in
    let rest = c.next.new.self in
    let read = c.in-Ok.ensures.cases in
    let opened : tokens body ≡ Token.begin_object ∷ rest =
    ap tokens (sym read.0) ∙ sym c.in_ok-reader.ensures.ok ∙ c.in-Some-BeginObject.ensures.value
    ∙ ap (λ t. token_of t ∷ rest) c.in-Some-BeginObject.field-0-is in
    let all : c.members_behind.new.reader ≡ [] =
    (none-there _ _ c.next-2.result (sym c.if-is_some.false ∙ c.is_some.ensures) c.next-2.ensures.value).0 in
    kept _ _ c.in_ok-found.found
    (λ members h. flat-asks body rest (map member_view members.items) h.0 read.1 opened (h.1 ∙ ap (λ left. Some (h.0, left)) all) h.2)
    c.in_ok-found.ensures
