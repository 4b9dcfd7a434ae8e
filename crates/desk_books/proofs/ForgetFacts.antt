-- The states of one household more are forgotten.
use Rattle.std.proofs.Common.{All, Bool, Contains, List, [], ap, eqb-true, false, filter, get_or, nat_eq, nat_lt, not, refl, subst, sym, true, ℕ, ◌++◌, ◌<◌, ◌∙◌, ◌∷◌, ◌≡◌, ◌||◌}
use Rattle.std.proofs.lemmas.Bool.{ltb-true, true≢false}
use Rattle.std.proofs.lemmas.List.Elements.{All-contains_itself, All-filter, filter_passes}
use Rattle.std.proofs.lemmas.List.Folds.{list_any-append}
use Rattle.std.specs.Cmp.{nat_eq_equiv}
use Rattle.std.specs.List.{list_any}
use Rattle.desk_books.specs.Settled.{AreBefore, states_left}
use Rattle.checkpoint_replay.specs.KeptStates.{states_in}
use Rattle.checkpoint_replay.specs.declared.states.KeptState.{KeptState}
use Rattle.register_laws.proofs.ListParts.{filter-all, filter-within}

-- by whether a household is among some, those of its states that stay
abbrev stays : Bool → ℕ → KeptState → Bool
stays among before state = not among || nat_lt state.sheet before

pub none-forgotten : (old : List (ℕ × List KeptState)) (before : ℕ) → AreBefore [] before old old
none-forgotten old before household = sym (filter-all (stays false before) (states_in old household) (λ k d short. refl))

still-among : (households : List ℕ) (more household : ℕ) → nat_eq more household ≡ false → list_any (nat_eq household) (households ++ more ∷ []) ≡ list_any (nat_eq household) households
still-among households more household apart =
    let other : nat_eq household more ≡ false = sym (nat_eq_equiv.symm more household) ∙ apart in
    list_any-append (nat_eq household) households (more ∷ [])
    ∙ (ap (λ b. list_any (nat_eq household) households || (b || false)) other
    ∙ or-none (list_any (nat_eq household) households))
  where
    or-none : (b : Bool) → (b || false) ≡ b
    or-none true = refl
    or-none false = refl

now-among : (households : List ℕ) (more : ℕ) → list_any (nat_eq more) (households ++ more ∷ []) ≡ true
now-among households more =
    list_any-append (nat_eq more) households (more ∷ [])
    ∙ (ap (λ b. list_any (nat_eq more) households || (b || false)) (nat_eq_equiv.refl more)
    ∙ or-some (list_any (nat_eq more) households))
  where
    or-some : (b : Bool) → (b || true) ≡ true
    or-some true = refl
    or-some false = refl

pub one-forgotten : (households : List ℕ) (more before : ℕ) (old mid new : List (ℕ × List KeptState)) → AreBefore households before old mid → states_in new more ≡ filter (λ (state : KeptState). nat_lt state.sheet before) (states_in mid more) → ((other : ℕ) → nat_eq more other ≡ false → states_in new other ≡ states_in mid other) → AreBefore (households ++ more ∷ []) before old new
one-forgotten households more before old mid new so own others household = by (nat_eq more household) refl
  where
    within : (among : Bool) (state : KeptState) → nat_lt state.sheet before ≡ true → stays among before state ≡ true
    within true state e = e
    within false state e = refl

    itself : states_in new more ≡ states_left (households ++ more ∷ []) before old more
    itself =
        own
        ∙ (ap (filter (λ (state : KeptState). nat_lt state.sheet before)) (so more)
        ∙ (filter-within (stays (list_any (nat_eq more) households) before) (λ (state : KeptState). nat_lt state.sheet before) (within (list_any (nat_eq more) households)) (states_in old more)
        ∙ ap (λ among. filter (stays among before) (states_in old more)) (sym (now-among households more))))

    by : (b : Bool) → nat_eq more household ≡ b → states_in new household ≡ states_left (households ++ more ∷ []) before old household
    by true is = subst (λ h. states_in new h ≡ states_left (households ++ more ∷ []) before old h) (eqb-true more household is) itself
    by false is =
        others household is
        ∙ (so household
        ∙ ap (λ among. filter (stays among before) (states_in old household)) (sym (still-among households more household is)))

-- so each that is left was there, and of these households only those behind earlier sheets
pub left-stays : (households : List ℕ) (before : ℕ) (old new : List (ℕ × List KeptState)) → AreBefore households before old new → (household : ℕ) → All (λ (state : KeptState). Contains (states_in old household) state × (list_any (nat_eq household) households ≡ true → state.sheet < before)) (states_in new household)
left-stays households before old new are household =
    subst (All (λ (state : KeptState). Contains (states_in old household) state × (list_any (nat_eq household) households ≡ true → state.sheet < before))) (sym (are household))
    (λ k d short. (
      All-filter (stays (list_any (nat_eq household) households) before) (Contains (states_in old household)) (states_in old household) (All-contains_itself (states_in old household)) k d short,
      λ among. earlier (list_any (nat_eq household) households) (get_or (states_left households before old household) k d) among (filter_passes (stays (list_any (nat_eq household) households) before) (states_in old household) k d short),
    ))
  where
    earlier : (among : Bool) (state : KeptState) → among ≡ true → stays among before state ≡ true → state.sheet < before
    earlier true state is e = ltb-true state.sheet before e
    earlier false state is e = absurd (true≢false (sym is))
