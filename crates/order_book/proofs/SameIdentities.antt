-- The equality of identities in the code is that of the definitions.
use Rattle.std.proofs.Common.{Bool, None, Option, Some, ap, cond, false, not, refl, sym, true, ◌==◌, ◌∙◌, ◌≡◌, ℕ}
use Rattle.std.proofs.lemmas.Bool.{and_parts, eqb-true}
use Rattle.std.specs.Option.{option_or, unwrap_or}
use Rattle.std.specs.HashMap.{HashMap, Updates, get, get_by}
use Rattle.order_book.proofs.Places.{put-or-kept}
use Rattle.order_book.specs.Brought.{same_identity}
use Rattle.order_book.specs.contracts.identity.IdentityPartialEq.TheImpl.{eq-value}
use Rattle.order_book.specs.Indexes.{is_reference, place_of}
use Rattle.order_book.specs.declared.identities.Identities.{Identities}
use Rattle.order_book.specs.declared.identity.Identity.{Identity}
use Rattle.register_machine.proofs.FoundFacts.{option_or-none}

pub same-identity : (a b : Identity) → eq-value.it a b ≡ same_identity a b
same-identity (Identity.Reference account ref_no) (Identity.Reference other_account other_ref) = refl
same-identity (Identity.Fix fix) (Identity.Fix other) = refl
same-identity (Identity.Calendar number) (Identity.Calendar other) = refl
same-identity (Identity.Closure calendar day) (Identity.Closure other_calendar other_day) = refl
same-identity (Identity.Class number) (Identity.Class other) = refl
same-identity (Identity.Dealer number) (Identity.Dealer other) = refl
same-identity (Identity.Household number) (Identity.Household other) = refl
same-identity (Identity.Account number) (Identity.Account other) = refl
same-identity (Identity.Sheet calendar moment) (Identity.Sheet other_calendar other_moment) = refl
same-identity (Identity.Dividend class moment) (Identity.Dividend other_class other_moment) = refl
same-identity _ _ = refl

pub got-by : {X S : Type 0} (places : HashMap Identity X S) (identity : Identity) → get_by (eq-value.it identity) places ≡ get same_identity places identity
got-by places identity = λ i. get_by (λ other. same-identity identity other i) places

-- identities that are the same are one
pub one-identity : (a b : Identity) → same_identity a b ≡ true → a ≡ b
one-identity (Identity.Reference account ref_no) (Identity.Reference other_account other_ref) e =
    let both = and_parts (account == other_account) (ref_no == other_ref) e in
    ap (λ own. Identity.Reference own ref_no) (eqb-true account other_account both.0)
    ∙ ap (Identity.Reference other_account) (eqb-true ref_no other_ref both.1)
one-identity (Identity.Fix fix) (Identity.Fix other) e = ap Identity.Fix (eqb-true fix other e)
one-identity (Identity.Calendar number) (Identity.Calendar other) e = ap Identity.Calendar (eqb-true number other e)
one-identity (Identity.Closure calendar day) (Identity.Closure other_calendar other_day) e =
    let both = and_parts (calendar == other_calendar) (day == other_day) e in
    ap (λ own. Identity.Closure own day) (eqb-true calendar other_calendar both.0)
    ∙ ap (Identity.Closure other_calendar) (eqb-true day other_day both.1)
one-identity (Identity.Class number) (Identity.Class other) e = ap Identity.Class (eqb-true number other e)
one-identity (Identity.Dealer number) (Identity.Dealer other) e = ap Identity.Dealer (eqb-true number other e)
one-identity (Identity.Household number) (Identity.Household other) e = ap Identity.Household (eqb-true number other e)
one-identity (Identity.Account number) (Identity.Account other) e = ap Identity.Account (eqb-true number other e)
one-identity (Identity.Sheet calendar moment) (Identity.Sheet other_calendar other_moment) e =
    let both = and_parts (calendar == other_calendar) (moment == other_moment) e in
    ap (λ own. Identity.Sheet own moment) (eqb-true calendar other_calendar both.0)
    ∙ ap (Identity.Sheet other_calendar) (eqb-true moment other_moment both.1)
one-identity (Identity.Dividend class moment) (Identity.Dividend other_class other_moment) e =
    let both = and_parts (class == other_class) (moment == other_moment) e in
    ap (λ own. Identity.Dividend own moment) (eqb-true class other_class both.0)
    ∙ ap (Identity.Dividend other_class) (eqb-true moment other_moment both.1)
one-identity _ _ e = cc

-- what stands in a table of places once a key keeps its place, or else has the place that is put
pub place-entered : {S : Type 0} (old new : HashMap Identity ℕ S) (identity : Identity) (place kept : ℕ)
    → kept ≡ unwrap_or (get_by (eq-value.it identity) old) place
    → Updates eq-value.it old new identity (Some kept)
    → (q : Identity) → get same_identity new q
    ≡ option_or (get same_identity old q) (cond (same_identity identity q) (Some place) None)
place-entered old new identity place kept is put =
    put-or-kept same_identity one-identity (get same_identity old) (get same_identity new)
    identity place kept
    (is ∙ ap (λ found. unwrap_or found place) (got-by old identity))
    (λ q.
    sym (got-by new q)
    ∙ (put.0 q
    ∙ (ap (λ is. cond is (Some kept) (get_by (eq-value.it q) old)) (same-identity identity q)
    ∙ ap (λ found. cond (same_identity identity q) (Some kept) found) (got-by old q))))

-- what stands in two tables, of which each identity has its own, once one of them keeps a place
pub put-apart : (mine : Identity → Bool) (old new other : Identity → Option ℕ) (identity : Identity) (place : ℕ) → mine identity ≡ true
    → ((q : Identity) → new q ≡ option_or (old q) (cond (same_identity identity q) (Some place) None))
    → (q : Identity) → cond (mine q) (new q) (other q)
    ≡ option_or (cond (mine q) (old q) (other q)) (cond (same_identity identity q) (Some place) None)
put-apart mine old new other identity place own put q = by_mine (mine q) refl
  where
    by_same : (same : Bool) → same_identity identity q ≡ same → mine q ≡ false
        → other q ≡ option_or (other q) (cond same (Some place) None)
    by_same true e none = let clash : true ≡ false = sym own ∙ (ap mine (one-identity identity q e) ∙ none) in cc
    by_same false e none = sym (option_or-none (other q))

    by_mine : (is : Bool) → mine q ≡ is → cond is (new q) (other q)
        ≡ option_or (cond is (old q) (other q)) (cond (same_identity identity q) (Some place) None)
    by_mine true e = put q
    by_mine false e = by_same (same_identity identity q) refl e

-- one of two, the other way round
pub turned : {X : Type 0} (is : Bool) (x y : X) → cond (not is) x y ≡ cond is y x
turned true x y = refl
turned false x y = refl

-- two tables that keep what they kept
pub same-tables : (old new : Identities)
    → ((q : Identity) → get same_identity new.references q ≡ get same_identity old.references q)
    → ((q : Identity) → get same_identity new.others q ≡ get same_identity old.others q)
    → (q : Identity) → place_of new q ≡ place_of old q
same-tables old new references others q =
    ap (λ (found : Option ℕ). cond (is_reference q) found (get same_identity new.others q)) (references q)
    ∙ ap (λ (found : Option ℕ). cond (is_reference q) (get same_identity old.references q) found) (others q)
