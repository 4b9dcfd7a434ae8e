-- Under what identity a request asks: the one that its event would bring. A request of the same content has the same one, so a
-- repeat is found by its identity alone.
use Rattle.std.specs.Option.{option_map_or}
use Rattle.std.specs.Prelude.{None, Option, Some, false, option_and_then, position, slice_get, ℕ}
use Rattle.agent_events.specs.declared.request.Request.{Request}
use Rattle.order_book.specs.Brought.{brings}
use Rattle.order_book.specs.declared.identity.Identity.{Identity}
use Rattle.register_machine.specs.journal.Choices.{when}
use Rattle.register_machine.specs.journal.Journals.{Journal}
use Rattle.register_machine.specs.run.Verdicts.{repeats}

abbrev pub identity_asked : Request → Option Identity
identity_asked (Request.Calendar form) = Some (Identity.Calendar form.calendar)
identity_asked (Request.Close form) = Some (Identity.Closure form.calendar form.day)
identity_asked (Request.Class form) = Some (Identity.Class form.class)
identity_asked (Request.Dealer form) = Some (Identity.Dealer form.dealer)
identity_asked (Request.Household form) = Some (Identity.Household form.household)
identity_asked (Request.Account form) = Some (Identity.Account form.account)
identity_asked (Request.Sheet form) = Some (Identity.Sheet form.calendar form.moment)
identity_asked (Request.Dividend form) = Some (Identity.Dividend form.class form.moment)
identity_asked (Request.FixPrice form) = Some (Identity.Fix form.fix)
identity_asked (Request.FixRate form) = Some (Identity.Fix form.fix)
identity_asked (Request.Enter form) = Some (Identity.Fix form.fix)
identity_asked (Request.Replace form) = Some (Identity.Fix form.fix)
identity_asked (Request.Void form) = Some (Identity.Fix form.fix)
identity_asked (Request.Order order) = Some (Identity.Reference order.account order.ref_no)
identity_asked (Request.Cancel form) = Some (Identity.Reference form.account form.ref_no)
identity_asked (Request.Show account) = None
identity_asked (Request.Trace form) = None
identity_asked (Request.Statement form) = None
identity_asked Request.Books = None
identity_asked (Request.Line line) = Some (Identity.Reference line.order.account line.order.ref_no)

-- the event at a place was brought by a request of this content
abbrev pub repeats_at : Request → Journal → ℕ → Option ℕ
repeats_at request journal place =
    when (option_map_or (repeats request) (slice_get journal place) false) place

-- the place of the first event of the identity, where its content is this one
abbrev pub place_asked : Request → Journal → Option ℕ
place_asked request journal =
    option_and_then (λ identity. option_and_then (repeats_at request journal) (position (brings identity) journal))
    (identity_asked request)
