-- Statements that run one behind the other in a transaction, and how it ends.
use Rattle.std.proofs.Common.{◌≡◌, ℕ, ◌+◌, ◌<◌, false, List, [], ◌∷◌, ◌++◌, length, map, drop, get_or, Result, Ok, Err, IfErr, IsTrue, refl, sym, ap, ◌∙◌, subst, arith, inl, inr}
use Rattle.std.specs.Prelude.{OnOk, OnErr, is_ok}
use Rattle.std.proofs.lemmas.Bool.{both_ways}
use Rattle.std.proofs.lemmas.List.{drop_more}
use Rattle.sqlite.specs.declared.error.Error.{Error}
use Rattle.sqlite.specs.Effect.{Database}
use Rattle.sqlite.specs.State.{State, HasCleanDisk, KeepsCommit, Shows, Survives}
use Rattle.sqlite.specs.Steps.{FailsToCommit}
use Rattle.sqlite.proofs.StateLemmas.{survives_then}
use Rattle.sqlite.proofs.InsideLemmas.{keeps_then}
use Rattle.sqlite_keeper.specs.Commits.{Change, row_added, rows_added, CommitsNothing, Runs, RunsAll, MakesAll}

pub nothing-none : (a : State) → CommitsNothing a a
nothing-none a = record {
  kept = λ _. record { was_open = λ h. h; committed = λ _. refl };
  survives = record { clean = omega arith; shield = λ h. h; counts = omega arith; limit = refl; closes = λ _ h. inl h; crash = λ _ db h. inl h };
}

pub nothing-then : (a b c : State) → CommitsNothing a b → CommitsNothing b c → CommitsNothing a c
nothing-then a b c one two = record {
  kept = λ clean. keeps_then a b c (one.kept (omega (arith, two.survives.clean))) (two.kept clean);
  survives = survives_then a b c _ _ _ (λ _ db none. none) (λ _ db none. none) one.survives two.survives;
}

module _ {C : Type 0} (shows : C → State) where
  pub runs-append : (some more : List Change) (a b c : C) → RunsAll shows some a b → RunsAll shows more b c → RunsAll shows (some ++ more) a c
  runs-append [] more a b c same rest = subst (λ x. RunsAll shows more x c) same rest
  runs-append (change ∷ some) more a b c ran rest = (ran.0, ran.1, runs-append some more ran.0 b c ran.2 rest)

  pub runs-inside : (changes : List Change) (a b : C) → RunsAll shows changes a b → IsTrue (shows a).in_transaction → IsTrue (shows b).in_transaction
  runs-inside [] a b same inside = subst (λ x. IsTrue (shows x).in_transaction) (sym same) inside
  runs-inside (change ∷ more) a b ran inside = runs-inside more ran.0 b ran.2 ran.1.ran.1.mode

  pub row-step : (place : ℕ) (rows : List (List ℕ)) (i : ℕ) (x : List ℕ) (now mid last : C) → i < length rows → x ≡ get_or rows i x
      → Runs shows (row_added place x) now mid → RunsAll shows (rows_added (place + 1) (drop (i + 1) rows)) mid last → RunsAll shows (rows_added place (drop i rows)) now last
  row-step place rows i x now mid last there at ran more =
      subst (λ ys. RunsAll shows (rows_added place ys) now last) (sym (drop_more rows i x there ∙ ap (λ y. y ∷ drop (i + 1) rows) (sym at))) (mid, ran, more)

  pub each-step : {X : Type 0} (f : X → Change) (xs : List X) (i : ℕ) (x d : X) (now mid last : C) → i < length xs → x ≡ get_or xs i d
      → Runs shows (f x) now mid → RunsAll shows (map f (drop (i + 1) xs)) mid last → RunsAll shows (map f (drop i xs)) now last
  each-step f xs i x d now mid last there at ran more =
      subst (λ ys. RunsAll shows (map f ys) now last) (sym (drop_more xs i d there ∙ ap (λ y. y ∷ drop (i + 1) xs) (sym at))) (mid, ran, more)

  -- what the commit of the open transaction shows, where all statements have run in it
  pub whole-end : (changes : List Change) (begun last end : C) → RunsAll shows changes begun last → Shows (shows last) (shows end) (shows last).now (shows last).now false
      → MakesAll shows changes begun (shows end).committed × ((shows end).now ≡ (shows end).committed)
  whole-end changes begun last end ran shown = (record { last = last; ran = ran; is = shown.committed_is }, shown.now_is ∙ sym shown.committed_is)

  -- a commit that fails leaves what was committed before the transaction
  pub neither-end : (changes : List Change) (begun last end : C) → (IsTrue (shows begun).is_open → (shows begun).now ≡ (shows begun).committed) → RunsAll shows changes begun last
      → IsTrue (shows begun).in_transaction → KeepsCommit (shows begun) (shows last) → (e : Error) → FailsToCommit (shows last) (shows end) e → IsTrue (shows end).is_open
      → ((shows end).now ≡ (shows begun).now) × ((shows end).committed ≡ (shows begun).committed)
  neither-end changes begun last end settled ran inside kept e (inl fails) is_open =
      let back = fails.3 in
      let same = kept.committed (back.was_open is_open) in
      let first = settled (kept.was_open (back.was_open is_open)) in
      ((back.undone is_open).0 ∙ same ∙ sym first, (back.undone is_open).1 ∙ same)
  neither-end changes begun last end settled ran inside kept e (inr late) is_open = absurd (both_ways _ late.1 (runs-inside changes begun last ran inside))

  crash-end : (changes : List Change) (begun last end : C) → (HasCleanDisk (shows last) → RunsAll shows changes begun last) → Survives (shows begun) (shows last) (λ _. ⊥)
      → Survives (shows last) (shows end) (λ trees. trees ≡ (shows last).now.trees) → Survives (shows begun) (shows end) (λ trees. (db : Database) × MakesAll shows changes begun db × (trees ≡ db.trees))
  crash-end changes begun last end ran one two =
      survives_then (shows begun) (shows last) (shows end) _ _ _ (λ _ trees none. absurd none)
      (λ clean trees is. ((shows last).now, record { last = last; ran = ran (omega (arith, two.clean)); is = refl }, is)) one two

  crash-moved : (old : State) (changes : List Change) (begun end other : C) → end ≡ other → Survives old (shows end) (λ trees. (db : Database) × MakesAll shows changes begun db × (trees ≡ db.trees))
      → Survives old (shows other) (λ trees. (db : Database) × MakesAll shows changes begun db × (trees ≡ db.trees))
  crash-moved old changes begun end other same h = subst (λ x. Survives old (shows x) (λ trees. (db : Database) × MakesAll shows changes begun db × (trees ≡ db.trees))) same h

  -- what a power cut leaves of a transaction, from before it was begun up to its commit
  pub crash-begun : (old : State) (changes : List Change) (begun last end other : C) → end ≡ other
      → (Survives (shows begun) (shows end) (λ trees. (db : Database) × MakesAll shows changes begun db × (trees ≡ db.trees)) → Survives old (shows end) (λ trees. (db : Database) × MakesAll shows changes begun db × (trees ≡ db.trees)))
      → (HasCleanDisk (shows last) → RunsAll shows changes begun last) → Survives (shows begun) (shows last) (λ _. ⊥) → Survives (shows last) (shows end) (λ trees. trees ≡ (shows last).now.trees)
      → Survives old (shows other) (λ trees. (db : Database) × MakesAll shows changes begun db × (trees ≡ db.trees))
  crash-begun old changes begun last end other same from_before ran one two =
      crash-moved old changes begun end other same (from_before (crash-end changes begun last end ran one two))

module _ {A E F : Type 0} where
  pub when-ok : (r : Result A E) (s : Result A F) (x : A) (P : Type 0) → is_ok s ≡ is_ok r → s ≡ Ok x → OnOk r P → P
  when-ok (Ok y) s x P same is h = h
  when-ok (Err e) s x P same is h = absurd (let clash = rw is at same in cc)

  pub when-err : (r : Result A E) (s : Result A F) (f : F) (Q : E → Type 0) → is_ok s ≡ is_ok r → s ≡ Err f → IfErr r Q → (e : E) × Q e
  when-err (Ok y) s f Q same is h = absurd (let clash = rw is at same in cc)
  when-err (Err e) s f Q same is h = (e, h)

pub on-err : {A E : Type 0} (r : Result A E) (P : Type 0) → P → OnErr r P
on-err (Ok y) P h = tt
on-err (Err e) P h = h
