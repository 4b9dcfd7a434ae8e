-- Which states are left of some, with one more.
use Rattle.std.proofs.Common.{All, Bool, Contains, Err, List, None, Ok, Option, Result, Some, [], arith, cond, drop, false, fold, inl, inr, length, nat_le, nat_lt, refl, subst, suc, sym, take, true, ℕ, ◌++◌, ◌<◌, ◌∷◌, ◌≡◌, ◌⊎◌}
use Rattle.std.proofs.lemmas.List.Elements.{All-append, All-contains_itself, All-drop, All-push, All-take, All-weaker}
use Rattle.std.proofs.lemmas.Bool.{ltb-true}
use Rattle.std.specs.Prelude.{OnErr, OnOk}
use Rattle.checkpoint_replay.specs.KeptStates.{last_before, without_second, with_one_more}
use Rattle.checkpoint_replay.specs.declared.states.KeptState.{KeptState}

all-thinned : (states : List KeptState) → All (Contains states) (without_second states)
all-thinned states = by (nat_le 6 (length states))
  where
    themselves : All (Contains states) states
    themselves = All-contains_itself states

    by : (many : Bool) → All (Contains states) (cond many (take 1 states ++ drop 2 states) states)
    by true =
        All-append (Contains states) (take 1 states) (drop 2 states)
        (All-take (Contains states) 1 states themselves) (All-drop (Contains states) 2 states themselves)
    by false = themselves

-- each is one of these, or the one more
pub one-more : (states : List KeptState) (state : KeptState) → All (λ kept. Contains states kept ⊎ kept ≡ state) (with_one_more states state)
one-more states state =
    All-push (λ kept. Contains states kept ⊎ kept ≡ state) (without_second states) state
    (All-weaker (Contains states) (λ kept. Contains states kept ⊎ kept ≡ state) (λ kept there. inl there) (without_second states) (all-thinned states))
    (inr refl)

-- ---- the last one before a sheet

-- one of these states, behind an earlier sheet
pub record IsBefore (sheet : ℕ) (states : List KeptState) (kept : KeptState) : Type 0 where
  pub among : Contains states kept
  pub earlier : kept.sheet < sheet

found-behind : (sheet : ℕ) (states : List KeptState) (first : Option KeptState) (kept : KeptState) → fold (λ (found : Option KeptState) (state : KeptState). cond (nat_lt state.sheet sheet) (Some state) found) first states ≡ Some kept → (first ≡ Some kept) ⊎ IsBefore sheet states kept
found-behind sheet [] first kept is = inl is
found-behind sheet (state ∷ states) first kept is = elim (found-behind sheet states (cond (nat_lt state.sheet sheet) (Some state) first) kept is) [
  | inl here ↦ by (nat_lt state.sheet sheet) refl here
  | inr behind ↦ inr (record { among = (suc behind.among.0, omega (arith, behind.among.1), behind.among.2); earlier = behind.earlier })
]
  where
    some-same : Some state ≡ Some kept → state ≡ kept
    some-same h = cc

    by : (before : Bool) → nat_lt state.sheet sheet ≡ before → cond before (Some state) first ≡ Some kept → (first ≡ Some kept) ⊎ IsBefore sheet (state ∷ states) kept
    by true e here = inr (subst (IsBefore sheet (state ∷ states)) (some-same here) (record { among = (0, omega arith, refl); earlier = ltb-true state.sheet sheet e }))
    by false e here = inl here

pub found-before : (sheet : ℕ) (states : List KeptState) (kept : KeptState) → last_before sheet states ≡ Some kept → IsBefore sheet states kept
found-before sheet states kept is = elim (found-behind sheet states None kept is) [
  | inl none ↦ absurd (none-some none)
  | inr found ↦ found
]
  where
    none-some : None ≡ Some kept → ⊥
    none-some h = cc

-- ---- states kept with one more, where there is memory for it, and those that have a place beside it where there isn't

pub kept-after : {X E : Type 0} (kept : Result X E) (old new : List KeptState) (state : KeptState) → OnOk kept (new ≡ with_one_more old state) → OnErr kept (new ≡ without_second old) → All (λ kept. Contains old kept ⊎ kept ≡ state) new
kept-after (Ok x) old new state ok err = subst (All (λ kept. Contains old kept ⊎ kept ≡ state)) (sym ok) (one-more old state)
kept-after (Err e) old new state ok err =
    subst (All (λ kept. Contains old kept ⊎ kept ≡ state)) (sym err)
    (All-weaker (Contains old) (λ kept. Contains old kept ⊎ kept ≡ state) (λ kept there. inl there) (without_second old) (all-thinned old))
