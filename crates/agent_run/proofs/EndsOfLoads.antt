-- How a load ends, and a run for want of memory: what is said of the other statuses doesn't arise.
use Rattle.std.proofs.Common.{None, Option, Some, [], false, inl, inr, refl, subst, sym, ℕ, ◌==◌, ◌∙◌, ◌∷◌, ◌≡◌}
use Rattle.std.specs.Io.KnownBytes.{Appends}
use Rattle.std.proofs.lemmas.Bool.{eq-eqb, true≢false}
use Rattle.agent_run.proofs.RunFacts.{over-any, same-grow}
use Rattle.agent_run.proofs.Statuses.{by_first, no_such}
use Rattle.agent_run.specs.Ends.{Ends, IfApply, IfLoad, IfServe, LeavesDoor, Sides, is_one_of, load_of_options, sink}
use Rattle.agent_run.specs.Runs.{SaysLine, TellSame, status_line}
use Rattle.agent_edge.specs.Counts.{Rose}
use Rattle.agent_run.specs.Commands.{Apply, Command, Load, Serve, apply, load, serve}
use Rattle.load_requests.specs.Summaries.{load_text}
use Rattle.script_answers.specs.Runs.{AppendsFront}

-- the facts of a load
pub record LoadEnds (options : Load) (status : ℕ) (before after : Sides) : Type 0 where
  pub known : is_one_of (0 ∷ 4 ∷ 7 ∷ []) status
  pub whole : status ≡ 0 → Appends before.written after.written (load_text (load_of_options options))
  pub no_fault : status ≡ 0 → after.write_faults ≡ before.write_faults
  pub front : status ≡ 4 → AppendsFront before.written after.written (load_text (load_of_options options))
  pub fault : status ≡ 4 → Rose before.write_faults after.write_faults
  pub no_memory : status ≡ 7 → SaysLine (status_line 7) (sink before) (sink after)
  pub told : TellSame before.told after.told
  pub kept_count : after.keeper_faults ≡ before.keeper_faults
  pub left : after.left ≡ before.left
  pub read_count : after.read_faults ≡ before.read_faults
  pub door : LeavesDoor before after

pub load-ends : (options : Load) (status : ℕ) (before after : Sides) → LoadEnds options status before after → Ends (Some (load options)) status before after
load-ends options status before after is = record {
  known = by_first 0 (4 ∷ 7 ∷ []) status (is_one_of (0 ∷ 1 ∷ 2 ∷ 3 ∷ 4 ∷ 5 ∷ 6 ∷ 7 ∷ 8 ∷ [])) is.known refl
      (λ more. by_first 4 (7 ∷ []) status (is_one_of (0 ∷ 1 ∷ 2 ∷ 3 ∷ 4 ∷ 5 ∷ 6 ∷ 7 ∷ 8 ∷ [])) more refl
      (λ last. by_first 7 [] status (is_one_of (0 ∷ 1 ∷ 2 ∷ 3 ∷ 4 ∷ 5 ∷ 6 ∷ 7 ∷ 8 ∷ [])) last refl (λ none. absurd (true≢false (sym none)))));
  done = λ e. tt;
  loaded = is.whole;
  served = λ e. tt;
  no_write_fault = is.no_fault;
  kept = same-grow before.told after.told is.told;
  load_leaves = (is.told, is.kept_count, is.left);
  load_ends = is.known;
  serve_leaves = tt;
  serve_ends = tt;
  door_leaves = inl is.door;
  usage = λ e. absurd (no_such (0 ∷ 4 ∷ 7 ∷ []) status 1 is.known refl e);
  usage_due = λ e. absurd (cc);
  usage_line = λ e. absurd (no_such (0 ∷ 4 ∷ 7 ∷ []) status 1 is.known refl e);
  too_long = λ e. absurd (no_such (0 ∷ 4 ∷ 7 ∷ []) status 2 is.known refl e);
  not_long = tt;
  long_line = λ e. absurd (no_such (0 ∷ 4 ∷ 7 ∷ []) status 2 is.known refl e);
  read_fault = λ e. absurd (no_such (0 ∷ 4 ∷ 7 ∷ []) status 3 is.known refl e);
  no_read_fault = λ e. is.read_count;
  fault_line = λ e. absurd (no_such (0 ∷ 4 ∷ 7 ∷ []) status 3 is.known refl e);
  write_fault = is.fault;
  cut = λ e. tt;
  load_cut = is.front;
  keeper_fault = λ e. absurd (no_such (0 ∷ 4 ∷ 7 ∷ []) status 5 is.known refl e);
  failed = λ e. absurd (no_such (0 ∷ 4 ∷ 7 ∷ []) status 5 is.known refl e);
  damaged = λ e. absurd (no_such (0 ∷ 4 ∷ 7 ∷ []) status 6 is.known refl e);
  not_damaged = tt;
  served_undamaged = tt;
  no_memory = λ e. inl (record { line = is.no_memory e; kept = is.told });
  door_fault = λ e. absurd (no_such (0 ∷ 4 ∷ 7 ∷ []) status 8 is.known refl e);
  no_door_fault = λ e. is.door.1;
  served_before = λ e. absurd (no_such (0 ∷ 4 ∷ 7 ∷ []) status 8 is.known refl e);
  door_line = λ e. absurd (no_such (0 ∷ 4 ∷ 7 ∷ []) status 8 is.known refl e);
}

-- the facts of a run for which memory is wanting before anything was begun
pub record EndsAtOnce (status : ℕ) (before after : Sides) : Type 0 where
  pub status_is : status ≡ 7
  pub line : SaysLine (status_line 7) (sink before) (sink after)
  pub told : TellSame before.told after.told
  pub kept_count : after.keeper_faults ≡ before.keeper_faults
  pub left : after.left ≡ before.left
  pub read_count : after.read_faults ≡ before.read_faults
  pub door : LeavesDoor before after

not_seven : (status other : ℕ) → status ≡ 7 → (7 == other) ≡ false → status ≡ other → ⊥
not_seven status other is out e = true≢false (sym (eq-eqb 7 other (sym is ∙ e)) ∙ out)

load_or_not : (command : Option Command) (P : Load → Type 0) → ((options : Load) → P options) → IfLoad command P
load_or_not (Some (load options)) P holds = holds options
load_or_not (Some (apply options)) P holds = tt
load_or_not (Some (serve options)) P holds = tt
load_or_not None P holds = tt

apply_or_not : (command : Option Command) (P : Apply → Type 0) → ((options : Apply) → P options) → IfApply command P
apply_or_not (Some (apply options)) P holds = holds options
apply_or_not (Some (load options)) P holds = tt
apply_or_not (Some (serve options)) P holds = tt
apply_or_not None P holds = tt

serve_or_not : (command : Option Command) (P : Serve → Type 0) → ((options : Serve) → P options) → IfServe command P
serve_or_not (Some (serve options)) P holds = holds options
serve_or_not (Some (apply options)) P holds = tt
serve_or_not (Some (load options)) P holds = tt
serve_or_not None P holds = tt

pub ends-at-once : (command : Option Command) (status : ℕ) (before after : Sides) → EndsAtOnce status before after → Ends command status before after
ends-at-once command status before after is =
    let never = λ (other : ℕ) (out : (7 == other) ≡ false) (e : status ≡ other). not_seven status other is.status_is out e in
    record {
      known = subst (is_one_of (0 ∷ 1 ∷ 2 ∷ 3 ∷ 4 ∷ 5 ∷ 6 ∷ 7 ∷ 8 ∷ [])) (sym is.status_is) refl;
      done = λ e. absurd (never 0 refl e);
      loaded = λ e. absurd (never 0 refl e);
      served = λ e. absurd (never 0 refl e);
      no_write_fault = λ e. absurd (never 0 refl e);
      kept = same-grow before.told after.told is.told;
      load_leaves = load_or_not command _ (λ options. (is.told, is.kept_count, is.left));
      load_ends = load_or_not command _ (λ options. subst (is_one_of (0 ∷ 4 ∷ 7 ∷ [])) (sym is.status_is) refl);
      serve_leaves = serve_or_not command _ (λ options. (is.left, is.read_count));
      serve_ends = serve_or_not command _ (λ options. subst (is_one_of (0 ∷ 5 ∷ 6 ∷ 7 ∷ 8 ∷ [])) (sym is.status_is) refl);
      door_leaves = inl is.door;
      usage = λ e. absurd (never 1 refl e);
      usage_due = λ e. inr is.status_is;
      usage_line = λ e. absurd (never 1 refl e);
      too_long = λ e. absurd (never 2 refl e);
      not_long = apply_or_not command _ (λ options. over-any _ before.left (λ script long. subst (is_one_of (2 ∷ 3 ∷ 5 ∷ 6 ∷ 7 ∷ [])) (sym is.status_is) refl));
      long_line = λ e. absurd (never 2 refl e);
      read_fault = λ e. absurd (never 3 refl e);
      no_read_fault = λ e. is.read_count;
      fault_line = λ e. absurd (never 3 refl e);
      write_fault = λ e. absurd (never 4 refl e);
      cut = λ e. absurd (never 4 refl e);
      load_cut = λ e. absurd (never 4 refl e);
      keeper_fault = λ e. absurd (never 5 refl e);
      failed = λ e. absurd (never 5 refl e);
      damaged = λ e. absurd (never 6 refl e);
      not_damaged = apply_or_not command _ (λ options known. absurd (no_such (0 ∷ 2 ∷ 3 ∷ 4 ∷ []) status 7 known refl is.status_is));
      served_undamaged = serve_or_not command _ (λ options known. absurd (no_such (0 ∷ 8 ∷ []) status 7 known refl is.status_is));
      no_memory = λ e. inl (record { line = is.line; kept = is.told });
      door_fault = λ e. absurd (never 8 refl e);
      no_door_fault = λ e. is.door.1;
      served_before = λ e. absurd (never 8 refl e);
      door_line = λ e. absurd (never 8 refl e);
    }
