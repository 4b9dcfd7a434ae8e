-- What becomes of a letter over all that happens on its account and class.
use Rattle.std.proofs.Common.{◌≡◌, ℕ, ◌+◌, ◌<◌, ◌≤◌, Bool, true, false, ◌||◌, List, [], ◌∷◌, refl, ◌∙◌, ap, subst, arith, if◌then◌else◌, fold}
use Rattle.std.proofs.lemmas.List.Sums.{sum_by-cons}
use Rattle.std.proofs.lemmas.Bool.Decides.{nat_tests}
use Rattle.std.specs.List.{list_any}
use Rattle.class_terms.specs.declared.lists.Bracket.{Bracket}
use Rattle.letter_of_intent.specs.declared.letter.Letter.{Letter}
use Rattle.letter_of_intent.specs.Letters.{IsLetter, new_letter, is_reached, has_expired}
use Rattle.letter_of_intent.specs.Purchases.{Purchase, after, after_all, gross_total}
use Rattle.letter_of_intent.specs.Cases.{Event, Bought, Priced, Fate, Stands, Reached, Expired, when_priced, happens, fate, purchases_of, is_past}
use Rattle.letter_of_intent.proofs.LetterFacts.{bought_begun, stays-after}

-- what becomes of a fate
abbrev from : Fate → List Event → Fate
from f events = fold happens f events

-- a letter that has ended stays as it ended
reached-stays : (letter : Letter) (events : List Event) → from (Reached letter) events ≡ Reached letter
reached-stays letter [] = refl
reached-stays letter (e ∷ es) = reached-stays letter es

expired-stays : (letter : Letter) (events : List Event) → from (Expired letter) events ≡ Expired letter
expired-stays letter [] = refl
expired-stays letter (e ∷ es) = expired-stays letter es

-- where it stands in the end, it has stood before
stands-bought : (next now : Letter) (es : List Event) (b : Bool) → from (if b then Reached next else Stands next) es ≡ Stands now
    → (b ≡ false) × (fate next es ≡ Stands now)
stands-bought next now es true h = let stays = reached-stays next es in cc
stands-bought next now es false h = (refl, h)

stands-priced : (letter now : Letter) (es : List Event) (b : Bool) → from (when_priced letter b) es ≡ Stands now
    → fate letter es ≡ Stands now
stands-priced letter now es true h = let stays = expired-stays letter es in cc
stands-priced letter now es false h = h

-- and is the letter with the purchases noted
pub stands_fate : (letter : Letter) (events : List Event) (now : Letter) → fate letter events ≡ Stands now
    → now ≡ after_all letter (purchases_of events)
stands_fate letter [] now h = cc
stands_fate letter (Bought p ∷ es) now h =
    stands_fate (after letter p) es now (stands-bought (after letter p) now es (is_reached (after letter p)) h).1
stands_fate letter (Priced day ∷ es) now h =
    stands_fate letter es now (stands-priced letter now es (has_expired letter day) h)

pub stands_begun : (amount day start : ℕ) (front : List Bracket) (events : List Event) (now : Letter)
    → fate (new_letter amount day start front) events ≡ Stands now → now.bought ≡ gross_total (purchases_of events)
stands_begun amount day start front events now h =
    ap (λ (letter : Letter). letter.bought) (stands_fate (new_letter amount day start front) events now h)
    ∙ bought_begun amount day start front (purchases_of events)

-- a purchase that doesn't reach the amount leaves it within its limits
short-bought : (letter : Letter) (p : Purchase) → IsLetter letter → is_reached (after letter p) ≡ false → IsLetter (after letter p)
short-bought letter p h short = stays-after letter p h (grind (arith, nat_tests))

pub limits_fate : (letter : Letter) (events : List Event) (now : Letter) → IsLetter letter → fate letter events ≡ Stands now
    → IsLetter now
limits_fate letter [] now within h = let same : letter ≡ now = cc in subst IsLetter same within
limits_fate letter (Bought p ∷ es) now within h =
    let step = stands-bought (after letter p) now es (is_reached (after letter p)) h in
    limits_fate (after letter p) es now (short-bought letter p within step.0) step.1
limits_fate letter (Priced day ∷ es) now within h =
    limits_fate letter es now within (stands-priced letter now es (has_expired letter day) h)

-- it ends reached by a purchase that makes the amount
reached-bought : (next ended : Letter) (es : List Event) (b : Bool) → is_reached next ≡ b
    → from (if b then Reached next else Stands next) es ≡ Reached ended
    → (fate next es ≡ Reached ended → ended.amount ≤ ended.bought) → ended.amount ≤ ended.bought
reached-bought next ended es true e h later =
    let stays = reached-stays next es in
    let same : next ≡ ended = cc in
    subst (λ (letter : Letter). letter.amount ≤ letter.bought) same (grind (arith, nat_tests))
reached-bought next ended es false e h later = later h

reached-priced : (letter ended : Letter) (es : List Event) (b : Bool) → from (when_priced letter b) es ≡ Reached ended
    → fate letter es ≡ Reached ended
reached-priced letter ended es true h = let stays = expired-stays letter es in cc
reached-priced letter ended es false h = h

pub reached_fate : (letter : Letter) (events : List Event) (ended : Letter) → fate letter events ≡ Reached ended
    → ended.amount ≤ ended.bought
reached_fate letter [] ended h = cc
reached_fate letter (Bought p ∷ es) ended h =
    reached-bought (after letter p) ended es (is_reached (after letter p)) refl h (reached_fate (after letter p) es ended)
reached_fate letter (Priced day ∷ es) ended h =
    reached_fate letter es ended (reached-priced letter ended es (has_expired letter day) h)

-- it ends by date at a sheet past its months, and short of its amount
expired-bought : (next ended : Letter) (es : List Event) (b : Bool)
    → from (if b then Reached next else Stands next) es ≡ Expired ended → (b ≡ false) × (fate next es ≡ Expired ended)
expired-bought next ended es true h = let stays = reached-stays next es in cc
expired-bought next ended es false h = (refl, h)

expired-priced : (letter ended : Letter) (es : List Event) (b rest : Bool) → from (when_priced letter b) es ≡ Expired ended
    → (fate letter es ≡ Expired ended → rest ≡ true) → (b || rest) ≡ true
expired-priced letter ended es true rest h later = refl
expired-priced letter ended es false rest h later = later h

pub expired_fate : (letter : Letter) (events : List Event) (ended : Letter) → fate letter events ≡ Expired ended
    → list_any (is_past letter) events ≡ true
expired_fate letter [] ended h = cc
expired_fate letter (Bought p ∷ es) ended h =
    expired_fate (after letter p) es ended (expired-bought (after letter p) ended es (is_reached (after letter p)) h).1
expired_fate letter (Priced day ∷ es) ended h =
    expired-priced letter ended es (has_expired letter day) (list_any (is_past letter) es) h (expired_fate letter es ended)

short-priced : (letter ended : Letter) (es : List Event) (b : Bool) → IsLetter letter → from (when_priced letter b) es ≡ Expired ended
    → (fate letter es ≡ Expired ended → IsLetter ended) → IsLetter ended
short-priced letter ended es true within h later =
    let stays = expired-stays letter es in
    let same : letter ≡ ended = cc in
    subst IsLetter same within
short-priced letter ended es false within h later = later h

pub short_fate : (letter : Letter) (events : List Event) (ended : Letter) → IsLetter letter → fate letter events ≡ Expired ended
    → IsLetter ended
short_fate letter [] ended within h = cc
short_fate letter (Bought p ∷ es) ended within h =
    let step = expired-bought (after letter p) ended es (is_reached (after letter p)) h in
    short_fate (after letter p) es ended (short-bought letter p within step.0) step.1
short_fate letter (Priced day ∷ es) ended within h =
    short-priced letter ended es (has_expired letter day) within h (short_fate letter es ended within)

-- without a sheet past its months the amount alone decides
neither : (b rest : Bool) → (b || rest) ≡ false → (b ≡ false) × (rest ≡ false)
neither true rest h = cc
neither false rest h = (refl, h)

pub stands_short : (letter : Letter) (events : List Event) → list_any (is_past letter) events ≡ false
    → letter.bought + gross_total (purchases_of events) < letter.amount
    → fate letter events ≡ Stands (after_all letter (purchases_of events))
stands_short letter [] none short = refl
stands_short letter (Bought p ∷ es) none short =
    let first : gross_total (p ∷ purchases_of es) ≡ p.gross + gross_total (purchases_of es) = sum_by-cons _ p (purchases_of es) in
    let below : letter.bought + p.gross < letter.amount = omega arith in
    let open_still : is_reached (after letter p) ≡ false = grind (arith, nat_tests) in
    rw open_still (stands_short (after letter p) es none (omega arith))
stands_short letter (Priced day ∷ es) none short =
    let parts = neither (has_expired letter day) (list_any (is_past letter) es) none in
    rw parts.0 (stands_short letter es parts.1 short)

reached-step : (next : Letter) (es : List Event) (b : Bool) → is_reached next ≡ b
    → (next.bought < next.amount → (ended : Letter) × (fate next es ≡ Reached ended))
    → (ended : Letter) × (from (if b then Reached next else Stands next) es ≡ Reached ended)
reached-step next es true e later = (next, reached-stays next es)
reached-step next es false e later = later (grind (arith, nat_tests))

pub reached_by : (letter : Letter) (events : List Event) → list_any (is_past letter) events ≡ false
    → letter.bought < letter.amount → letter.amount ≤ letter.bought + gross_total (purchases_of events)
    → (ended : Letter) × (fate letter events ≡ Reached ended)
reached_by letter [] none short reached = absurd (omega arith)
reached_by letter (Bought p ∷ es) none short reached =
    let first : gross_total (p ∷ purchases_of es) ≡ p.gross + gross_total (purchases_of es) = sum_by-cons _ p (purchases_of es) in
    reached-step (after letter p) es (is_reached (after letter p)) refl
    (λ below. reached_by (after letter p) es none below (omega arith))
reached_by letter (Priced day ∷ es) none short reached =
    let parts = neither (has_expired letter day) (list_any (is_past letter) es) none in
    rw parts.0 (reached_by letter es parts.1 short reached)
