-- Requests of one content ask under one identity, which stands in the content.
use Rattle.std.proofs.Common.{List, None, Option, Some, [], ap, cond, get_or, refl, sym, true, ℕ, ◌==◌, ◌∙◌, ◌≡◌}
use Rattle.std.proofs.lemmas.Slice.Eq.{bytes_eq-Decides}
use Rattle.std.specs.Cmp.Lexicographic.{pointwise_decides}
use Rattle.agent_events.specs.Contents.{content, same_request}
use Rattle.agent_events.specs.Events.{order_request, request_of}
use Rattle.agent_events.specs.declared.event.EventKind.{EventKind}
use Rattle.agent_events.specs.declared.event.Source.{Source}
use Rattle.agent_events.specs.declared.request.Request.{Request}
use Rattle.order_book.specs.Brought.{identity_in}
use Rattle.order_book.specs.declared.identity.Identity.{Identity}
use Rattle.order_intake.specs.Requested.{identity_asked}

abbrev number_in : List (List ℕ) → ℕ → ℕ → ℕ
number_in lists row place = get_or (get_or lists row []) place 0

-- the identity by the number of the verb, and the numbers behind it
abbrev identity_by : ℕ → List (List ℕ) → Option Identity
identity_by verb lists =
    cond (verb == 1) (Some (Identity.Calendar (number_in lists 1 0)))
    (cond (verb == 2) (Some (Identity.Closure (number_in lists 1 0) (number_in lists 1 1)))
    (cond (verb == 3) (Some (Identity.Class (number_in lists 1 0)))
    (cond (verb == 4) (Some (Identity.Dealer (number_in lists 1 0)))
    (cond (verb == 5) (Some (Identity.Household (number_in lists 1 0)))
    (cond (verb == 6) (Some (Identity.Account (number_in lists 1 0)))
    (cond (verb == 7) (Some (Identity.Sheet (number_in lists 1 0) (number_in lists 1 1)))
    (cond (verb == 8) (Some (Identity.Dividend (number_in lists 1 0) (number_in lists 1 1)))
    (cond (verb == 9) (Some (Identity.Fix (number_in lists 1 0)))
    (cond (verb == 10) (Some (Identity.Fix (number_in lists 1 0)))
    (cond (verb == 11) (Some (Identity.Fix (number_in lists 1 0)))
    (cond (verb == 12) (Some (Identity.Fix (number_in lists 1 0)))
    (cond (verb == 13) (Some (Identity.Fix (number_in lists 1 0)))
    (cond (verb == 14) (Some (Identity.Reference (number_in lists 1 0) (number_in lists 1 1)))
    (cond (verb == 15) (Some (Identity.Reference (number_in lists 1 0) (number_in lists 1 1)))
    (cond (verb == 20) (Some (Identity.Reference (number_in lists 2 0) (number_in lists 2 1)))
    None)))))))))))))))

identity-in-content : (request : Request) → identity_by (number_in (content request) 0 0) (content request) ≡ identity_asked request
identity-in-content (Request.Calendar form) = refl
identity-in-content (Request.Close form) = refl
identity-in-content (Request.Class form) = refl
identity-in-content (Request.Dealer form) = refl
identity-in-content (Request.Household form) = refl
identity-in-content (Request.Account form) = refl
identity-in-content (Request.Sheet form) = refl
identity-in-content (Request.Dividend form) = refl
identity-in-content (Request.FixPrice form) = refl
identity-in-content (Request.FixRate form) = refl
identity-in-content (Request.Enter form) = refl
identity-in-content (Request.Replace form) = refl
identity-in-content (Request.Void form) = refl
identity-in-content (Request.Order order) = refl
identity-in-content (Request.Cancel form) = refl
identity-in-content (Request.Show account) = refl
identity-in-content (Request.Trace form) = refl
identity-in-content (Request.Statement form) = refl
identity-in-content Request.Books = refl
identity-in-content (Request.Line line) = refl

same-content : (first second : Request) → same_request first second ≡ true → content first ≡ content second
same-content first second same = (pointwise_decides bytes_eq-Decides (content first) (content second)).0 same

pub one_identity : (first second : Request) → same_request first second ≡ true → identity_asked first ≡ identity_asked second
one_identity first second same =
    sym (identity-in-content first)
    ∙ (ap (λ (lists : List (List ℕ)). identity_by (number_in lists 0 0) lists) (same-content first second same)
    ∙ identity-in-content second)

-- an event brings the identity under which its request asks
pub identity_brought : (kind : EventKind) → identity_asked (request_of kind) ≡ Some (identity_in kind)
identity_brought (EventKind.Calendar form) = refl
identity_brought (EventKind.Close form) = refl
identity_brought (EventKind.Class form) = refl
identity_brought (EventKind.Dealer form) = refl
identity_brought (EventKind.Household form) = refl
identity_brought (EventKind.Account form) = refl
identity_brought (EventKind.Order placed) = by_source placed.source
  where
    by_source : (source : Source) → identity_asked (order_request source placed.receipt placed.order) ≡ Some (Identity.Reference placed.order.account placed.order.ref_no)
    by_source Source.Direct = refl
    by_source Source.Dealer = refl
identity_brought (EventKind.Cancel form) = refl
identity_brought (EventKind.Sheet form) = refl
identity_brought (EventKind.Dividend form) = refl
identity_brought (EventKind.FixPrice form) = refl
identity_brought (EventKind.FixRate form) = refl
identity_brought (EventKind.Enter form) = refl
identity_brought (EventKind.Replace form) = refl
identity_brought (EventKind.Void form) = refl
