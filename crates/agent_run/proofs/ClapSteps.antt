-- What clap makes of one word.
use Rattle.std.proofs.Common.{◌≡◌, ◌∙◌, ◌&&◌, Bool, cond, true, false, refl, sym, ap, List, [], ◌∷◌, map, Option, Some, None, inl, inr, true≢false}
use Rattle.std.specs.Prelude.{◌==◌}
use Rattle.std.specs.Str.{bytes_eq}
use Rattle.clap.specs.Lexer.{long_of, short_of}
use Rattle.clap.specs.Walk.{Held, Rule, Text, Walk, option, reacted, settled, walk_from, walked}
use Rattle.clap.specs.Simple.{Shape}
use Rattle.clap.specs.Kinds.{or_else}
use Rattle.clap.specs.Faults.{settle_fault, turn_fault, use_fault}
use Rattle.clap.proofs.WalkLemmas.{both}
use Rattle.agent_run.specs.Options.{has_value, is_dashed, is_option, name_in, value_in}
use Rattle.agent_run.proofs.ClapRows.{and_right, and_true, by_id, by_index, built_rule, is_nil, knows, long_known, long_unknown, nil_or, same_name, shape_with, split}

-- ---- what a word looks like

abbrev pub dashes : Text
dashes = 45 ∷ 45 ∷ []

-- an option, cut at its `=`
pub record LooksLong (word : Text) : Type 0 where
  pub apart : bytes_eq word dashes ≡ false
  pub parts : long_of word ≡ Some (name_in word, cond (has_value word) (Some (value_in word)) None)

pub record LooksPlain (word : Text) : Type 0 where
  pub apart : bytes_eq word dashes ≡ false
  pub no_long : long_of word ≡ None
  pub no_short : short_of word ≡ None

pub looks_plain : (word : Text) → is_dashed word ≡ false → LooksPlain word
looks_plain [] e = record { apart = refl; no_long = refl; no_short = refl }
looks_plain (b ∷ rest) e = record { apart = rw e refl; no_long = rw e refl; no_short = rw e refl }

pub looks_long : (word : Text) → is_option word ≡ true → LooksLong word
looks_long [] e = absurd (true≢false (sym e))
looks_long (b ∷ []) e = absurd (true≢false (sym e ∙ and_right (b == 45) false refl))
looks_long (b ∷ d ∷ []) e = absurd (true≢false (sym e ∙ and_right (b == 45) _ (and_right (d == 45) false refl)))
looks_long (b ∷ d ∷ x ∷ rest) e =
    let first : (b == 45) ≡ true = (both _ _ e).0 in
    let second : (d == 45) ≡ true = (both _ _ ((both (b == 45) _ e).1)).0 in
    record { apart = rw (first, second) refl; parts = rw (first, second) refl }

-- ---- what a word comes to

module _ (name : Text) (names : List Text) where
  abbrev c : List Rule
  c = map built_rule names

  abbrev s : Shape
  s = shape_with name names

  abbrev pub passes_turn : Walk → Text → Bool
  passes_turn w word = is_nil (turn_fault s [] w word)

  -- nothing waits for a value
  module _ (h : Held) (word : Text) (apart : bytes_eq word dashes ≡ false) where
    pub unknown_turn : (n : Text) (v : Option Text) → long_of word ≡ Some (n, v) → knows names n ≡ false → passes_turn (walk_from h) word ≡ false
    unknown_turn n v parts unknown = rw (apart, parts, long_unknown names n unknown) refl

    pub attached_turn : (n v : Text) → long_of word ≡ Some (n, Some v) → knows names n ≡ true
        → passes_turn (walk_from h) word ≡ (is_nil (settle_fault c false h) && is_nil (use_fault false (built_rule n) (v ∷ []) (settled c h).rows))
    attached_turn n v parts known =
        let here : turn_fault s [] (walk_from h) word ≡ or_else (or_else (settle_fault c false h) (use_fault false (built_rule n) (v ∷ []) (settled c h).rows)) [] =
        rw (apart, parts, long_known names n known) refl in
        ap is_nil here ∙ nil_or _ _ ∙ and_true _ ∙ nil_or _ _

    pub attached_walk : (n v : Text) → long_of word ≡ Some (n, Some v) → knows names n ≡ true
        → walked c [] (walk_from h) word ≡ walk_from (reacted c (built_rule n) (v ∷ []) h)
    unfolding walked
    attached_walk n v parts known = rw (apart, parts, long_known names n known) refl

    pub apart_turn : (n : Text) → long_of word ≡ Some (n, None) → knows names n ≡ true → passes_turn (walk_from h) word ≡ is_nil (settle_fault c false h)
    apart_turn n parts known =
        let here : turn_fault s [] (walk_from h) word ≡ or_else (settle_fault c false h) [] = rw (apart, parts, long_known names n known) refl in
        ap is_nil here ∙ nil_or _ _ ∙ and_true _

    pub apart_walk : (n : Text) → long_of word ≡ Some (n, None) → knows names n ≡ true
        → walked c [] (walk_from h) word ≡ record (walk_from (record (settled c h) { pending = Some (n, []) })) { waiting = option n }
    unfolding walked
    apart_walk n parts known = rw (apart, parts, long_known names n known) refl

    pub stray_turn : long_of word ≡ None → short_of word ≡ None → passes_turn (walk_from h) word ≡ false
    stray_turn no_long no_short = rw (apart, no_long, no_short, by_index names 1) refl

  -- the option m waits for its value
  abbrev pub awaiting : Held → Text → Walk
  awaiting h m = record (walk_from (record h { pending = Some (m, []) })) { waiting = option m }

  module _ (h : Held) (m word : Text) (known : knows names m ≡ true) (apart : bytes_eq word dashes ≡ false) where
    pub value_turn : long_of word ≡ None → short_of word ≡ None → passes_turn (awaiting h m) word ≡ true
    value_turn no_long no_short = rw (apart, no_long, no_short) refl

    pub value_walk : long_of word ≡ None → short_of word ≡ None
        → walked c [] (awaiting h m) word ≡ walk_from (record h { pending = Some (m, word ∷ []) })
    unfolding walked
    value_walk no_long no_short = rw (apart, no_long, no_short, by_id names m known, same_name m) refl

    pub no_value_turn : (n : Text) (v : Option Text) → long_of word ≡ Some (n, v) → passes_turn (awaiting h m) word ≡ false
    no_value_turn n (Some v) parts = elim (split (knows names n)) [
      | inl holds ↦ rw (apart, parts, long_known names n holds, by_id names m known) refl
      | inr fails ↦ rw (apart, parts, long_unknown names n fails) refl
    ]
    no_value_turn n None parts = elim (split (knows names n)) [
      | inl holds ↦ rw (apart, parts, long_known names n holds, by_id names m known) refl
      | inr fails ↦ rw (apart, parts, long_unknown names n fails) refl
    ]

  -- an option without its value passes at no end
  pub open_end : (h : Held) (m : Text) → knows names m ≡ true → is_nil (settle_fault c false (record h { pending = Some (m, []) })) ≡ false
  open_end h m known = rw (by_id names m known) refl
