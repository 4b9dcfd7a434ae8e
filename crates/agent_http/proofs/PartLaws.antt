-- The first seven parts of a path tell its route, and all that its route reads.
use Rattle.std.proofs.Common.{◌≡◌, ◌≤◌, ◌<◌, ℕ, ◌+◌, Bool, true, false, cond, eqb, leb, ◌&&◌, List, [], ◌∷◌, ◌++◌, length, take, drop, map, Option, refl, sym, ap, ◌∙◌, arith, append_assoc, length-append, length-drop, Bor, slice_set}
use Rattle.std.specs.List.{list_all, slice_split, position_or_len}
use Rattle.std.proofs.lemmas.Bool.Decides.{nat_tests}
use Rattle.std.proofs.lemmas.List.{take_all, take-append-le, take_more_set, length-take, map-append}
use Rattle.std.proofs.Math.ListN.{length-map}
use Rattle.std.proofs.lemmas.List.Splits.{slice_split_first, slice_split_none}
use Rattle.std.proofs.lemmas.List.Sums.{fails_before_first}
use Rattle.agent_http.specs.declared.routes.Route.{Route}
use Rattle.agent_http.specs.Calls.{answered_at, answered_by, is_filled, is_rooted, is_slash, route_in, route_of}

no-choice : (b : Bool) (x : Route) → x ≡ Route.Missing → cond b x Route.Missing ≡ Route.Missing
no-choice true x e = e
no-choice false x e = refl

none-in : (parts : List (List ℕ)) → 4 < length parts → route_in parts ≡ Route.Missing
none-in parts many =
    let one : eqb (length parts) 1 ≡ false = grind (arith, nat_tests) in
    let two : eqb (length parts) 2 ≡ false = grind (arith, nat_tests) in
    let three : eqb (length parts) 3 ≡ false = grind (arith, nat_tests) in
    let four : eqb (length parts) 4 ≡ false = grind (arith, nat_tests) in
    rw (one, two, three, four) refl

-- no route has seven parts
none-of : (parts : List (List ℕ)) → 6 < length parts → route_of parts ≡ Route.Missing
none-of parts many =
    let behind : 4 < length (drop 2 parts) = rw length-drop (omega arith) in
    no-choice (is_rooted parts && list_all is_filled (drop 2 parts)) (route_in (drop 2 parts)) (none-in (drop 2 parts) behind)

answered-none : (parts : List (List ℕ)) (method : List ℕ) (size : Option ℕ) (body : List ℕ) → 6 < length parts
    → answered_by parts method size body ≡ answered_at Route.Missing parts method size body
answered-none parts method size body many = ap (λ route. answered_at route parts method size body) (none-of parts many)

by-size : (parts : List (List ℕ)) (method : List ℕ) (size : Option ℕ) (body : List ℕ) (few : Bool) → leb (length parts) 7 ≡ few
    → answered_by (take 7 parts) method size body ≡ answered_by parts method size body
by-size parts method size body true e =
    let within : length parts ≤ 7 = grind (arith, nat_tests) in
    ap (λ ps. answered_by ps method size body) (take_all 7 parts within)
by-size parts method size body false e =
    let many : 6 < length parts = grind (arith, nat_tests) in
    let first : 6 < length (take 7 parts) = rw length-take (omega arith) in
    answered-none (take 7 parts) method size body first ∙ sym (answered-none parts method size body many)

pub by-first-parts : (parts : List (List ℕ)) (method : List ℕ) (size : Option ℕ) (body : List ℕ)
    → answered_by (take 7 parts) method size body ≡ answered_by parts method size body
by-first-parts parts method size body = by-size parts method size body (leb (length parts) 7) refl

-- one part more
pub parts-more : (path rest : List ℕ) (parts : List (List ℕ)) (at : ℕ) → parts ++ slice_split is_slash rest ≡ slice_split is_slash path
    → at ≡ position_or_len is_slash rest → at < length rest
    → (parts ++ take at rest ∷ []) ++ slice_split is_slash (drop (at + 1) rest) ≡ slice_split is_slash path
parts-more path rest parts at is found within =
    let first : slice_split is_slash rest ≡ take at rest ∷ slice_split is_slash (drop (at + 1) rest) =
    rw found (slice_split_first is_slash rest 0 (rw (← found) within)) in
    append_assoc parts (take at rest ∷ []) (slice_split is_slash (drop (at + 1) rest)) ∙ ap (λ more. parts ++ more) (sym first) ∙ is

-- the last part
pub parts-end : (path rest : List ℕ) (parts : List (List ℕ)) (at : ℕ) → parts ++ slice_split is_slash rest ≡ slice_split is_slash path
    → at ≡ position_or_len is_slash rest → at ≡ length rest → length parts < 7
    → parts ++ take at rest ∷ [] ≡ take 7 (slice_split is_slash path)
parts-end path rest parts at is found whole few =
    let none : slice_split is_slash rest ≡ rest ∷ [] =
    slice_split_none is_slash rest (λ k d within. fails_before_first is_slash rest k d (omega arith)) in
    let one : take at rest ≡ rest = take_all at rest (omega arith) in
    let all : parts ++ take at rest ∷ [] ≡ slice_split is_slash path = rw one (ap (λ more. parts ++ more) (sym none) ∙ is) in
    let size : length (parts ++ take at rest ∷ []) ≤ 7 = rw length-append (omega arith) in
    sym (take_all 7 (parts ++ take at rest ∷ []) size) ∙ ap (take 7) all

-- as many as are told apart
pub parts-full : (path rest : List ℕ) (parts : List (List ℕ)) → parts ++ slice_split is_slash rest ≡ slice_split is_slash path → length parts ≡ 7
    → parts ≡ take 7 (slice_split is_slash path)
parts-full path rest parts is full =
    sym (take_all 7 parts (omega arith)) ∙ sym (take-append-le 7 parts (slice_split is_slash rest) (omega arith)) ∙ ap (take 7) is

-- a part more in the room
placed : (room : List (Bor (List ℕ))) (place : ℕ) (part : Bor (List ℕ)) (text : List ℕ) → place < length room → part.now ≡ text
    → map (λ p. p.now) (take (place + 1) (slice_set room place part)) ≡ map (λ p. p.now) (take place room) ++ text ∷ []
placed room place part text within is =
    ap (map (λ p. p.now)) (take_more_set room place part within) ∙ map-append (λ p. p.now) (take place room) (part ∷ [])
    ∙ ap (λ t. map (λ p. p.now) (take place room) ++ t ∷ []) is

pub room-more : (path rest left : List ℕ) (room : List (Bor (List ℕ))) (place at : ℕ) (part : Bor (List ℕ)) → place < length room
    → map (λ p. p.now) (take place room) ++ slice_split is_slash rest ≡ slice_split is_slash path
    → at ≡ position_or_len is_slash rest → at < length rest → part.now ≡ take at rest → left ≡ drop (at + 1) rest
    → map (λ p. p.now) (take (place + 1) (slice_set room place part)) ++ slice_split is_slash left ≡ slice_split is_slash path
room-more path rest left room place at part within is found inside part-is left-is =
    ap (λ parts. parts ++ slice_split is_slash left) (placed room place part (take at rest) within part-is)
    ∙ ap (λ more. (map (λ p. p.now) (take place room) ++ take at rest ∷ []) ++ slice_split is_slash more) left-is
    ∙ parts-more path rest (map (λ p. p.now) (take place room)) at is found inside

pub room-end : (path rest : List ℕ) (room : List (Bor (List ℕ))) (place at : ℕ) (part : Bor (List ℕ)) → place < 7 → length room ≡ 7
    → map (λ p. p.now) (take place room) ++ slice_split is_slash rest ≡ slice_split is_slash path
    → at ≡ position_or_len is_slash rest → at ≡ length rest → part.now ≡ take at rest
    → map (λ p. p.now) (take (place + 1) (slice_set room place part)) ≡ take 7 (slice_split is_slash path)
room-end path rest room place at part few size is found whole part-is =
    let within : place < length room = omega arith in
    let count : length (map (λ p. p.now) (take place room)) < 7 = rw (length-map, length-take) (omega arith) in
    placed room place part (take at rest) within part-is
    ∙ parts-end path rest (map (λ p. p.now) (take place room)) at is found whole count
