-- A repeat is found by its identity.
use Rattle.std.proofs.Common.{Bool, None, Option, Some, [], ap, cond, false, option_map, position, refl, suc, sym, true, ◌&&◌, ◌==◌, ◌||◌, ◌∙◌, ◌∷◌, ◌≡◌, eq-eqb}
use Rattle.std.proofs.lemmas.Bool.{true≢false}
use Rattle.std.specs.Option.{option_map_or}
use Rattle.std.specs.Prelude.{option_and_then}
use Rattle.agent_events.specs.Events.{Event, request_of}
use Rattle.agent_events.specs.declared.request.Request.{Request}
use Rattle.order_book.specs.Brought.{brings, identity_in, reference_entered, same_identity}
use Rattle.order_book.specs.declared.identity.Identity.{Identity}
use Rattle.order_intake.proofs.Contents.{identity_brought, one_identity}
use Rattle.order_intake.proofs.Once.{brought_once}
use Rattle.order_intake.proofs.Places.{first_narrow, place-cons}
use Rattle.order_intake.specs.Requested.{identity_asked, place_asked, repeats_at}
use Rattle.register_laws.specs.Identities.{HasNoIdentityTwice}
use Rattle.register_machine.specs.journal.Journals.{Journal}
use Rattle.register_machine.specs.run.Verdicts.{repeats}

both : (a b : Bool) → a ≡ true → b ≡ true → (a && b) ≡ true
both true true e h = refl
both true false e h = h
both false b e h = absurd (true≢false (sym e))

-- an identity is the same as itself
same-itself : (identity : Identity) → same_identity identity identity ≡ true
same-itself (Identity.Reference account ref_no) = both (account == account) (ref_no == ref_no) (eq-eqb account account refl) (eq-eqb ref_no ref_no refl)
same-itself (Identity.Fix fix) = eq-eqb fix fix refl
same-itself (Identity.Calendar n) = eq-eqb n n refl
same-itself (Identity.Closure c d) = both (c == c) (d == d) (eq-eqb c c refl) (eq-eqb d d refl)
same-itself (Identity.Class n) = eq-eqb n n refl
same-itself (Identity.Dealer n) = eq-eqb n n refl
same-itself (Identity.Household n) = eq-eqb n n refl
same-itself (Identity.Account n) = eq-eqb n n refl
same-itself (Identity.Sheet c m) = both (c == c) (m == m) (eq-eqb c c refl) (eq-eqb m m refl)
same-itself (Identity.Dividend c m) = both (c == c) (m == m) (eq-eqb c c refl) (eq-eqb m m refl)

first-of : (a b : Bool) → a ≡ true → (a || b) ≡ true
first-of true b e = refl
first-of false b e = absurd (true≢false (sym e))

some-same : {X : Type 0} {x y : X} → Some x ≡ Some y → x ≡ y
some-same e = cc

-- an event of the content brings the identity
brings-asked : (request : Request) (identity : Identity) (event : Event) → identity_asked request ≡ Some identity → repeats request event ≡ true → brings identity event ≡ true
brings-asked request identity event asked same =
    let one : identity_in event.kind ≡ identity = some-same (sym (identity_brought event.kind) ∙ (one_identity (request_of event.kind) request same ∙ asked)) in
    first-of (same_identity (identity_in event.kind) identity) (option_map_or (λ (entered : Identity). same_identity entered identity) (reference_entered event.kind) false)
    (ap (λ (other : Identity). same_identity other identity) one ∙ same-itself identity)

-- nothing has the content of a request that asks under no identity
none-asked : (request : Request) (journal : Journal) → identity_asked request ≡ None → position (repeats request) journal ≡ None
none-asked request [] asked = refl
none-asked request (event ∷ journal) asked =
    place-cons (repeats request) event journal
    ∙ by_test (repeats request event) refl (none-asked request journal asked)
  where
    by_test : (b : Bool) → repeats request event ≡ b → position (repeats request) journal ≡ None → cond b (Some 0) (option_map suc (position (repeats request) journal)) ≡ None
    by_test true same later = absurd (none-some (sym asked ∙ (sym (one_identity (request_of event.kind) request same) ∙ identity_brought event.kind)))
      where
        none-some : {X : Type 0} {x : X} → None ≡ Some x → ⊥
        none-some e = cc
    by_test false other later = ap (option_map suc) later

pub found_by_identity : (request : Request) (journal : Journal) → HasNoIdentityTwice journal → place_asked request journal ≡ position (repeats request) journal
found_by_identity request journal once = by_asked (identity_asked request) refl
  where
    by_asked : (asked : Option Identity) → identity_asked request ≡ asked → option_and_then (λ (identity : Identity). option_and_then (repeats_at request journal) (position (brings identity) journal)) asked ≡ position (repeats request) journal
    by_asked None e = sym (none-asked request journal e)
    by_asked (Some identity) e =
        sym (first_narrow (repeats request) (brings identity) journal (λ event same. brings-asked request identity event e same) (brought_once journal once identity))
