-- What clap makes of all the words: it takes those that give each of a command's options once, and no other, and its
-- matches have the values that were given.
use Rattle.std.proofs.Common.{◌≡◌, ◌∙◌, ◌&&◌, ◌||◌, ◌⊎◌, Bool, cond, true, false, not, refl, sym, ap, ap₂, subst, List, [], ◌∷◌, ◌++◌, map, Option, Some, None, inl, inr, true≢false, append-nil, append_assoc, option_map, ⊎_elim, Result, Ok, Err, IfOk, ◌≢◌}
use Rattle.std.specs.Prelude.{option_and_then}
use Rattle.std.specs.List.{fold, list_all}
use Rattle.clap.specs.Walk.{Held, Row, Rule, Text, Walk, finished, first_of, nothing_held, option, rows_after, rows_of, settled, used, used_by_id, walk_from, walked}
use Rattle.clap.specs.Simple.{App, HasMatchesOf, Shape, is_simple, matches_of, names_of}
use Rattle.clap.specs.Kinds.{IsAmong}
use Rattle.clap.specs.Matches.{first_value, found_of}
use Rattle.clap.specs.declared.parser.matches.ArgMatches.{ArgMatches}
use Rattle.clap.specs.declared.error.kind.ErrorKind.{ErrorKind}
use Rattle.clap.specs.declared.error.kind.ErrorKind.TheVariants.{OutOfMemory}
use Rattle.clap.specs.Faults.{built_fault, check_fault, defaults_fault, fault_of, is_simple_and_free, settle_fault, turn_fault, use_fault, walk_fault}
use Rattle.std.specs.Option.{option_map_or}
use Rattle.clap.proofs.FaultLemmas.{leaf_fault}
use Rattle.clap.proofs.WalkLemmas.{both, first_value-rows}
use Rattle.agent_run.specs.Options.{Given, each_once, has_option, has_value, is_dashed, is_known, is_option, name_in, none_twice, options_from, value_in, value_of, values_of, with_option}
use Rattle.agent_run.specs.Parser.{app_with, is_word}
use Rattle.agent_run.proofs.ClapRows.{all_given, and_assoc, and_both, and_left, and_right, built_is, built_rule, built_with, by_id, check_is, defaults_pass, first_is, is_nil, knows, nil_is, nil_or, no_defaults, not_false, not_true, once_more, or_right, rows, shape_with, simple_free, split, twice, use_is, used_is}
use Rattle.agent_run.proofs.ClapSteps.{LooksLong, apart_turn, apart_walk, attached_turn, attached_walk, awaiting, looks_long, looks_plain, no_value_turn, open_end, passes_turn, stray_turn, unknown_turn, value_turn, value_walk}

-- where the words stand: an option may have its value and wait to be used, or an option waits for its value
data Place : Type 0 where
  ready : Option Given → Place
  awaits : Text → Place

abbrev value_held : Given → Text × List Text
value_held g = (g.0, g.1 ∷ [])

abbrev held : List Given → Option Given → Held
held given p = record { rows = rows given; pending = option_map value_held p; skip = 0 }

abbrev so_far : List Given → Option Given → List Given
so_far given None = given
so_far given (Some g) = given ++ g ∷ []

abbrev fresh : List Given → Option Given → Bool
fresh given None = true
fresh given (Some g) = not (has_option g.0 given)

abbrev read_at : List Given → Place → List Given
read_at given (ready p) = so_far given p
read_at given (awaits n) = given

abbrev walk_at : List Given → Place → Walk
walk_at given (ready p) = walk_from (held given p)
walk_at given (awaits n) = awaiting [] [] (held given None) n

abbrev awaited : Place → Option Text
awaited (ready p) = None
awaited (awaits n) = Some n

-- a word that is no option begins with no `-`
not_dashed : (word : Text) → is_option word ≡ false → is_word word ≡ true → is_dashed word ≡ false
not_dashed word short ok = elim (split (is_dashed word)) [
  | inl holds ↦ absurd (true≢false (sym ok ∙ ap₂ (λ a b. not a || b) holds short))
  | inr fails ↦ fails
]

module _ (name : Text) (names : List Text) where
  abbrev c : List Rule
  c = map built_rule names

  abbrev s : Shape
  s = shape_with name names

  abbrev knows_given : Option Given → Bool
  knows_given None = true
  knows_given (Some g) = is_known names g

  abbrev knows_place : Place → Bool
  knows_place (ready p) = knows_given p
  knows_place (awaits n) = knows names n

  -- ---- clap's last checks, and its rows

  abbrev end_passes : Held → Bool
  end_passes h = is_nil (settle_fault c false h) && (is_nil (defaults_fault (settled c h).rows c) && is_nil (check_fault s (finished c h) false))

  abbrev passes : Walk → List Text → Bool
  passes w words = is_nil (walk_fault s [] w words) && end_passes (fold (walked c []) w words).held

  abbrev rows_at : Walk → List Text → List Row
  rows_at w words = finished c (fold (walked c []) w words).held

  passes_none : (w : Walk) → passes w [] ≡ end_passes w.held
  unfolding walk_fault
  passes_none w = refl

  passes_more : (w : Walk) (word : Text) (rest : List Text) → passes w (word ∷ rest) ≡ (passes_turn name names w word && passes (walked c [] w word) rest)
  unfolding walk_fault
  passes_more w word rest =
      let turn = turn_fault s [] w word in
      let left = walk_fault s [] (walked c [] w word) rest in
      let end = end_passes (fold (walked c []) (walked c [] w word) rest).held in
      ap (λ b. b && end) (nil_or turn left) ∙ and_assoc (is_nil turn) (is_nil left) end

  settle_is : (given : List Given) (p : Option Given) → knows_given p ≡ true → is_nil (settle_fault c false (held given p)) ≡ fresh given p
  settle_is given None known = refl
  settle_is given (Some g) known =
      ap (λ o. is_nil (option_map_or (λ a. use_fault false a (g.1 ∷ []) (rows given)) o [])) (by_id names g.0 known) ∙ use_is g.0 g.1 given

  settled_is : (given : List Given) (p : Option Given) → knows_given p ≡ true → fresh given p ≡ true → (settled c (held given p)).rows ≡ rows (so_far given p)
  settled_is given None known new = refl
  settled_is given (Some g) known new =
      ap (λ o. used_by_id o (g.1 ∷ []) (rows given)) (by_id names g.0 known) ∙ used_is g.0 g.1 given (not_true _ new)

  finished_is : (given : List Given) (p : Option Given) → knows_given p ≡ true → fresh given p ≡ true → finished c (held given p) ≡ rows (so_far given p)
  finished_is given p known new = no_defaults names _ ∙ settled_is given p known new

  end_is : (given : List Given) (p : Option Given) → knows_given p ≡ true → fresh given p ≡ true → end_passes (held given p) ≡ all_given names (so_far given p)
  end_is given p known new =
      ap (λ b. b && (is_nil (defaults_fault (settled c (held given p)).rows c) && is_nil (check_fault s (finished c (held given p)) false)))
      (settle_is given p known ∙ new)
      ∙ ap (λ k. is_nil k && is_nil (check_fault s (finished c (held given p)) false)) (defaults_pass names (settled c (held given p)).rows)
      ∙ ap (λ xs. is_nil (check_fault s xs false)) (finished_is given p known new)
      ∙ check_is name names (so_far given p)

  none_twice_so_far : (given : List Given) (p : Option Given) → none_twice given ≡ true → fresh given p ≡ true → none_twice (so_far given p) ≡ true
  none_twice_so_far given None once new = once
  none_twice_so_far given (Some g) once new = once_more given g once (not_true _ new)

  -- ---- the rule, from options that were read

  abbrev is_taken : List Given → List Given → Bool
  is_taken given more = list_all (is_known names) more && (none_twice (given ++ more) && all_given names (given ++ more))

  -- clap passes where the options are taken, and its rows are theirs
  abbrev Agrees : Bool → List Row → List Given → Option (List Given) → Type 0
  Agrees v xs given None = v ≡ false
  Agrees v xs given (Some more) = (v ≡ is_taken given more) × (v ≡ true → xs ≡ rows (given ++ more))

  carried : (v u : Bool) (xs : List Row) (given : List Given) (o r : Option (List Given)) → v ≡ u → o ≡ r → Agrees u xs given r → Agrees v xs given o
  carried v u xs given o r e f h = subst (λ x. Agrees x xs given o) (sym e) (subst (λ x. Agrees u xs given x) (sym f) h)

  refuses : (xs : List Row) (given : List Given) (o : Option (List Given)) → ((more : List Given) → is_taken given more ≡ false) → Agrees false xs given o
  refuses xs given None h = refl
  refuses xs given (Some more) h = (sym (h more), λ e. absurd (true≢false (sym e)))

  refuses_option : (xs : List Row) (given : List Given) (g : Given) (o : Option (List Given)) → ((more : List Given) → is_taken given (g ∷ more) ≡ false)
      → Agrees false xs given (with_option g o)
  refuses_option xs given g None h = refl
  refuses_option xs given g (Some more) h = (sym (h more), λ e. absurd (true≢false (sym e)))

  takes_option : (v : Bool) (xs : List Row) (given : List Given) (g : Given) (o : Option (List Given)) → is_known names g ≡ true
      → Agrees v xs (given ++ g ∷ []) o → Agrees v xs given (with_option g o)
  takes_option v xs given g None known h = h
  takes_option v xs given g (Some more) known h =
      let same : (given ++ g ∷ []) ++ more ≡ given ++ g ∷ more = append_assoc given (g ∷ []) more in
      let all : (is_known names g && list_all (is_known names) more) ≡ list_all (is_known names) more = rw known refl in
      (h.0 ∙ ap₂ (λ b ys. b && (none_twice ys && all_given names ys)) (sym all) same, λ e. h.1 e ∙ ap rows same)

  unknown : (given : List Given) (n v : Text) → knows names n ≡ false → (more : List Given) → is_taken given ((n, v) ∷ more) ≡ false
  unknown given n v e more = and_left _ _ (and_left _ _ e)

  repeated : (given : List Given) (g : Given) → has_option g.0 given ≡ true → (more : List Given) → is_taken given (g ∷ more) ≡ false
  repeated given g e more = and_right _ _ (and_left _ _ (twice given g more e))

  not_fresh : (given : List Given) (p : Option Given) → fresh given p ≡ false → (more : List Given) → is_taken (so_far given p) more ≡ false
  not_fresh given None e more = absurd (true≢false e)
  not_fresh given (Some g) e more =
      and_right _ _ (and_left _ _ (ap none_twice (append_assoc given (g ∷ []) more) ∙ twice given g more (not_false _ e)))

  refuses_open : (xs : List Row) (given : List Given) (n : Text) (words : List Text) → knows names n ≡ false → Agrees false xs given (options_from (Some n) words)
  refuses_open xs given n [] e = refl
  refuses_open xs given n (word ∷ rest) e = elim (split (is_dashed word)) [
    | inl holds ↦ carried false false xs given _ None refl (rw holds refl) refl
    | inr fails ↦ carried false false xs given _ (with_option (n, word) (options_from None rest)) refl (rw fails refl)
        (refuses_option xs given (n, word) (options_from None rest) (unknown given n word e))
  ]

  -- ---- one word

  abbrev AgreeAll : List Text → Type 0
  AgreeAll rest = (given : List Given) (place : Place) → none_twice given ≡ true → knows_place place ≡ true
      → Agrees (passes (walk_at given place) rest) (rows_at (walk_at given place) rest) (read_at given place) (options_from (awaited place) rest)

  stops : (w : Walk) (word : Text) (rest : List Text) (given : List Given) (o : Option (List Given)) → passes_turn name names w word ≡ false
      → Agrees false (rows_at w (word ∷ rest)) given o → Agrees (passes w (word ∷ rest)) (rows_at w (word ∷ rest)) given o
  stops w word rest given o turn h = carried _ false _ given o o (passes_more w word rest ∙ and_left _ _ turn) refl h

  goes_on : (w next : Walk) (word : Text) (rest : List Text) (given : List Given) (o : Option (List Given)) → passes_turn name names w word ≡ true
      → walked c [] w word ≡ next → Agrees (passes next rest) (rows_at next rest) given o → Agrees (passes w (word ∷ rest)) (rows_at w (word ∷ rest)) given o
  goes_on w next word rest given o turn is h =
      carried _ _ _ given o o (passes_more w word rest ∙ ap (λ b. b && passes (walked c [] w word) rest) turn) refl
      (subst (λ x. Agrees (passes x rest) (rows_at x rest) given o) (sym is) h)

  -- `--name=value`
  attached : (word : Text) (rest : List Text) (n v : Text) → LooksLong word → cond (has_value word) (Some (value_in word)) None ≡ Some v → name_in word ≡ n
      → AgreeAll rest → (given : List Given) (p : Option Given) → none_twice given ≡ true → knows_given p ≡ true
      → Agrees (passes (walk_at given (ready p)) (word ∷ rest)) (rows_at (walk_at given (ready p)) (word ∷ rest)) (so_far given p) (with_option (n, v) (options_from None rest))
  attached word rest n v looks value is next given p once known =
      let h = held given p in
      let read = so_far given p in
      let more = options_from None rest in
      let parts = looks.parts ∙ ap₂ (λ x y. Some (x, y)) is value in
      elim (split (knows names n)) [
        | inr fails ↦ stops (walk_from h) word rest read _ (unknown_turn name names h word looks.apart n (Some v) parts fails)
            (refuses_option _ read (n, v) more (unknown read n v fails))
        | inl holds ↦ elim (split (fresh given p)) [
          | inr again ↦ stops (walk_from h) word rest read _
              (attached_turn name names h word looks.apart n v parts holds ∙ and_left _ _ (settle_is given p known ∙ again))
              (refuses _ read _ (not_fresh given p again))
          | inl new ↦ elim (split (has_option n read)) [
            | inl has ↦ stops (walk_from h) word rest read _
                (attached_turn name names h word looks.apart n v parts holds
                ∙ and_right _ _ (ap (λ xs. is_nil (use_fault false (built_rule n) (v ∷ []) xs)) (settled_is given p known new) ∙ use_is n v read ∙ ap not has))
                (refuses_option _ read (n, v) more (repeated read (n, v) has))
            | inr none ↦ goes_on (walk_from h) (walk_at (read ++ (n, v) ∷ []) (ready None)) word rest read _
                (attached_turn name names h word looks.apart n v parts holds
                ∙ and_both _ _ (settle_is given p known ∙ new)
                (ap (λ xs. is_nil (use_fault false (built_rule n) (v ∷ []) xs)) (settled_is given p known new) ∙ use_is n v read ∙ ap not none))
                (attached_walk name names h word looks.apart n v parts holds
                ∙ ap (λ xs. walk_from (record { rows = xs; pending = None; skip = 0 }))
                (ap (used (built_rule n) (v ∷ [])) (settled_is given p known new) ∙ used_is n v read none))
                (takes_option _ _ read (n, v) more holds
                (next (read ++ (n, v) ∷ []) (ready None) (once_more read (n, v) (none_twice_so_far given p once new) none) refl))
          ]
        ]
      ]

  -- `--name`, where the next word is the value
  opened : (word : Text) (rest : List Text) (n : Text) → LooksLong word → cond (has_value word) (Some (value_in word)) None ≡ None → name_in word ≡ n
      → AgreeAll rest → (given : List Given) (p : Option Given) → none_twice given ≡ true → knows_given p ≡ true
      → Agrees (passes (walk_at given (ready p)) (word ∷ rest)) (rows_at (walk_at given (ready p)) (word ∷ rest)) (so_far given p) (options_from (Some n) rest)
  opened word rest n looks value is next given p once known =
      let h = held given p in
      let read = so_far given p in
      let parts = looks.parts ∙ ap₂ (λ x y. Some (x, y)) is value in
      elim (split (knows names n)) [
        | inr fails ↦ stops (walk_from h) word rest read _ (unknown_turn name names h word looks.apart n None parts fails)
            (refuses_open _ read n rest fails)
        | inl holds ↦ elim (split (fresh given p)) [
          | inr again ↦ stops (walk_from h) word rest read _
              (apart_turn name names h word looks.apart n parts holds ∙ settle_is given p known ∙ again)
              (refuses _ read _ (not_fresh given p again))
          | inl new ↦ goes_on (walk_from h) (walk_at read (awaits n)) word rest read _
              (apart_turn name names h word looks.apart n parts holds ∙ settle_is given p known ∙ new)
              (apart_walk name names h word looks.apart n parts holds
              ∙ ap (λ xs. record (walk_from (record { rows = xs; pending = Some (n, []); skip = 0 })) { waiting = option n }) (settled_is given p known new))
              (next read (awaits n) (none_twice_so_far given p once new) holds)
        ]
      ]

  law : (words : List Text) → list_all is_word words ≡ true → (given : List Given) (place : Place) → none_twice given ≡ true → knows_place place ≡ true
      → Agrees (passes (walk_at given place) words) (rows_at (walk_at given place) words) (read_at given place) (options_from (awaited place) words)
  law [] ok given (awaits n) once known = passes_none (walk_at given (awaits n)) ∙ and_left _ _ (open_end name names (held given None) n known)
  law [] ok given (ready p) once known =
      let read = so_far given p in
      elim (split (fresh given p)) [
        | inr again ↦
            let w = walk_at given (ready p) in
            carried (passes w []) false (rows_at w []) read (Some []) (Some []) (passes_none w ∙ and_left _ _ (settle_is given p known ∙ again)) refl
            (refuses (rows_at w []) read (Some []) (not_fresh given p again))
        | inl new ↦ (
          passes_none (walk_at given (ready p)) ∙ end_is given p known new
              ∙ ap (λ b. b && all_given names read) (sym (none_twice_so_far given p once new))
              ∙ ap (λ xs. none_twice xs && all_given names xs) (sym (append-nil read)),
          λ e. finished_is given p known new ∙ ap rows (sym (append-nil read)),
        )
      ]
  law (word ∷ rest) ok given (awaits m) once known = elim (split (is_option word)) [
    | inl long ↦
        let looks = looks_long word long in
        let dashed : is_dashed word ≡ true = (both _ _ long).0 in
        stops (walk_at given (awaits m)) word rest given _ (no_value_turn name names (held given None) m word known looks.apart _ _ looks.parts)
        (carried false false _ given (options_from (Some m) (word ∷ rest)) None refl (rw dashed refl) refl)
    | inr short ↦
        let plain = not_dashed word short (both _ _ ok).0 in
        let looks = looks_plain word plain in
        carried _ _ _ given (options_from (Some m) (word ∷ rest)) (with_option (m, word) (options_from None rest)) refl (rw plain refl)
        (goes_on (walk_at given (awaits m)) (walk_at given (ready (Some (m, word)))) word rest given (with_option (m, word) (options_from None rest))
        (value_turn name names (held given None) m word known looks.apart looks.no_long looks.no_short)
        (value_walk name names (held given None) m word known looks.apart looks.no_long looks.no_short)
        (takes_option _ _ given (m, word) (options_from None rest) known (law rest (both _ _ ok).1 given (ready (Some (m, word))) once known)))
  ]
  law (word ∷ rest) ok given (ready p) once known = elim (split (is_option word)) [
    | inr short ↦
        let looks = looks_plain word (not_dashed word short (both _ _ ok).0) in
        stops (walk_at given (ready p)) word rest (so_far given p) _ (stray_turn name names (held given p) word looks.apart looks.no_long looks.no_short)
        (carried false false _ (so_far given p) (options_from None (word ∷ rest)) None refl (rw short refl) refl)
    | inl long ↦ elim (split (has_value word)) [
      | inl has ↦ carried _ _ _ (so_far given p) (options_from None (word ∷ rest)) (with_option (name_in word, value_in word) (options_from None rest)) refl
          (rw (long, has) refl)
          (attached word rest (name_in word) (value_in word) (looks_long word long) (rw has refl) refl (law rest (both _ _ ok).1) given p once known)
      | inr none ↦ carried _ _ _ (so_far given p) (options_from None (word ∷ rest)) (options_from (Some (name_in word)) rest) refl (rw (long, none) refl)
          (opened word rest (name_in word) (looks_long word long) (rw none refl) refl (law rest (both _ _ ok).1) given p once known)
    ]
  ]

-- ---- the words of a command

-- clap's answer against the rule: whether it has no fault to find, and its rows
abbrev pub IsAnswered : Bool → List Row → Option (Text → Option Text) → Type 0
IsAnswered passes xs None = passes ≡ false
IsAnswered passes xs (Some value) = (passes ≡ true) × ((n : Text) → first_of n xs ≡ value n)

answered : (name : Text) (names : List Text) (v : Bool) (xs : List Row) (o : Option (List Given)) → Agrees name names v xs [] o
    → IsAnswered v xs (option_and_then (λ given. cond (each_once names given) (Some (value_of given)) None) o)
answered name names v xs None h = h
answered name names v xs (Some given) h = elim (split (each_once names given)) [
  | inl holds ↦ subst (IsAnswered v xs) (ap (λ b. cond b (Some (value_of given)) None) (sym holds))
      (h.0 ∙ holds, λ n. ap (first_of n) (h.1 (h.0 ∙ holds)) ∙ first_is given n)
  | inr fails ↦ subst (IsAnswered v xs) (ap (λ b. cond b (Some (value_of given)) None) (sym fails)) (h.0 ∙ fails)
]

fault_is : (name : Text) (names words : List Text) → is_nil (fault_of (app_with name names) words) ≡ passes name names (walk_from nothing_held) words
fault_is name names words =
    ap (λ b. is_nil (built_fault b nothing_held words)) (built_is name names)
    ∙ ap is_nil (leaf_fault (built_with name names) nothing_held words refl)
    ∙ nil_or _ _
    ∙ ap (λ b. is_nil (walk_fault (shape_with name names) [] (walk_from nothing_held) words) && b)
    (nil_or _ _ ∙ ap (λ b. is_nil (settle_fault (map built_rule names) false (fold (walked (map built_rule names) []) (walk_from nothing_held) words).held) && b) (nil_or _ _))

-- clap passes exactly the words that give each option once, and its matches have their values
pub words_answered : (name : Text) (names words : List Text) → list_all is_word words ≡ true
    → IsAnswered (is_nil (fault_of (app_with name names) words)) (matches_of (app_with name names) words) (values_of names words)
words_answered name names words ok =
    subst (λ v. IsAnswered v (matches_of (app_with name names) words) (values_of names words)) (sym (fault_is name names words))
    (subst (λ b. IsAnswered (passes name names (walk_from nothing_held) words) (rows_after b.top.rules (names_of b) words) (values_of names words)) (sym (built_is name names))
    (answered name names _ _ _ (law name names words ok [] (ready None) refl refl)))

-- words that clap reads otherwise give no option
pub no_options : (words : List Text) (open_name : Option Text) → list_all is_word words ≡ false → options_from open_name words ≡ None
no_options [] o e = absurd (true≢false e)
no_options (word ∷ rest) (Some n) e = elim (split (is_dashed word)) [
  | inl holds ↦ rw holds refl
  | inr fails ↦ rw (fails, no_options rest None (ap (λ b. (not b || is_option word) && list_all is_word rest) (sym fails) ∙ e)) refl
]
no_options (word ∷ rest) None e = elim (split (is_option word)) [
  | inr fails ↦ rw fails refl
  | inl holds ↦
      let left : list_all is_word rest ≡ false = ap (λ b. b && list_all is_word rest) (sym (or_right (not (is_dashed word)) _ holds)) ∙ e in
      elim (split (has_value word)) [
        | inl has ↦ rw (holds, has, no_options rest None left) refl
        | inr none ↦ rw (holds, none, no_options rest (Some (name_in word)) left) refl
      ]
]

pub no_values : (names words : List Text) → list_all is_word words ≡ false → values_of names words ≡ None
no_values names words e = ap (option_and_then (λ given. cond (each_once names given) (Some (value_of given)) None)) (no_options words None e)

taken : (v : Bool) (xs : List Row) (o : Option (Text → Option Text)) → IsAnswered v xs o → v ≡ true → (look : Text → Option Text)
    → ((n : Text) → look n ≡ first_of n xs) → Some look ≡ o
taken v xs None h e look same = absurd (true≢false (sym e ∙ h))
taken v xs (Some value) h e look same = λ i. Some (λ n. (same n ∙ h.1 n) i)

refused : (v : Bool) (xs : List Row) (o : Option (Text → Option Text)) → IsAnswered v xs o → v ≡ false → None ≡ o
refused v xs None h e = refl
refused v xs (Some value) h e = absurd (true≢false (sym h.0 ∙ e))

module _ (name : Text) (names words : List Text) (app : App) (is : app ≡ app_with name names) (ok : list_all is_word words ≡ true) where
  is_free : is_simple_and_free app ≡ true
  is_free = ap is_simple_and_free is ∙ simple_free name names

  -- what clap found is what was given
  pub passed : (m : ArgMatches) → (is_simple_and_free app ≡ true → fault_of app words ≡ []) → HasMatchesOf app words m
      → Some (first_value (found_of m)) ≡ values_of names words
  passed m faults found =
      let same : rows_of (found_of m) ≡ matches_of (app_with name names) words = (found ((both (is_simple app) _ is_free).0)).0 ∙ ap (λ a. matches_of a words) is in
      let none : fault_of (app_with name names) words ≡ [] = ap (λ a. fault_of a words) (sym is) ∙ faults is_free in
      taken _ _ (values_of names words) (words_answered name names words ok) (ap is_nil none) (first_value (found_of m))
      (λ n. first_value-rows (found_of m) n ∙ ap (first_of n) same)

  -- what clap refuses, and not for want of memory, doesn't meet the rule
  pub failed : (k : ErrorKind) → (is_simple_and_free app ≡ true → (k ≡ OutOfMemory) ⊎ IsAmong k (fault_of app words)) → (k ≡ OutOfMemory → ⊥)
      → None ≡ values_of names words
  failed k kinds other = elim (split (is_nil (fault_of (app_with name names) words))) [
    | inr fails ↦ refused _ _ (values_of names words) (words_answered name names words ok) fails
    | inl holds ↦
        let none : fault_of app words ≡ [] = ap (λ a. fault_of a words) is ∙ nil_is _ holds in
        absurd (⊎_elim other (λ among. subst (IsAmong k) none among) (kinds is_free))
  ]

-- an answer without options, where there are none
pub none_of : {E : Type 0} (r : Result (Option ArgMatches) E) (o : Option (Text → Option Text)) (k : ErrorKind) → IfOk r (λ found. found ≡ None)
    → IfOk r (λ _. k ≢ OutOfMemory) → ((k ≡ OutOfMemory → ⊥) → None ≡ o) → IfOk r (λ found. option_map (λ m. first_value (found_of m)) found ≡ o)
none_of (Ok found) o k none other h = ap (option_map (λ m. first_value (found_of m))) none ∙ h other
none_of (Err e) o k none other h = tt

-- what a command is made of the values that clap found
abbrev values_found : Option ArgMatches → Option (Text → Option Text)
values_found = option_map (λ given. first_value (found_of given))

pub built_from : {X : Type 0} (build : (Text → Option Text) → Option X) (found : Option ArgMatches) (m : ArgMatches) (o : Option (Text → Option Text)) (r : Option X)
    → found ≡ Some m → values_found found ≡ o → r ≡ build (first_value (found_of m)) → r ≡ option_and_then build o
built_from build found m o r is values built = built ∙ ap (option_and_then build) (sym (ap values_found is) ∙ values)

pub not_built : {X : Type 0} (build : (Text → Option Text) → Option X) (found : Option ArgMatches) (o : Option (Text → Option Text))
    → found ≡ None → values_found found ≡ o → None ≡ option_and_then build o
not_built build found o is values = ap (option_and_then build) (sym (ap values_found is) ∙ values)
