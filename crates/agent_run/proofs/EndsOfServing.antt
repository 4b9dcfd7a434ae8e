-- How serving ends: what is said of the other commands and of the other statuses doesn't arise.
use Rattle.std.proofs.Common.{List, Ok, Some, [], false, inl, inr, refl, sym, ℕ, ◌==◌, ◌∷◌, ◌≡◌, ◌≢◌, ◌⊎◌}
use Rattle.std.specs.List.{list_any}
use Rattle.std.proofs.lemmas.Bool.{true≢false}
use Rattle.agent_run.proofs.Statuses.{by_first, no_such}
use Rattle.agent_run.specs.Ends.{Ends, LeavesDoor, SaysOnly, Sides, is_one_of, service, sink}
use Rattle.agent_run.specs.Runs.{AreServedFrom, GrowLawfully, MaySayLine, SaysLine, TellSame, TellsLawful, damaged_line, door_failed, status_line}
use Rattle.agent_edge.specs.Counts.{Rose}
use Rattle.agent_keeper.specs.Calls.{Rose as KeeperRose}
use Rattle.agent_keeper.specs.Content.{Content}
use Rattle.agent_run.specs.Commands.{Serve, serve}
use Rattle.register_desk.specs.Rows.{IsDamagedAt}

-- the facts of serving
pub record ServeEnds (options : Serve) (status : ℕ) (before after : Sides) : Type 0 where
  pub known : is_one_of (0 ∷ 5 ∷ 6 ∷ 7 ∷ 8 ∷ []) status
  pub served : status ≡ 0 → AreServedFrom options.key options.connections (Ok tt) (service before) (service after)
  pub silent : status ≡ 0 → after.written ≡ before.written
  pub no_write_fault : status ≡ 0 → after.write_faults ≡ before.write_faults
  pub keeper_fault : status ≡ 5 → KeeperRose before.keeper_faults after.keeper_faults
  pub failed : status ≡ 5 → SaysOnly (status_line 5) before after
  pub damaged : status ≡ 6 → (place : ℕ) × MaySayLine (damaged_line place) (sink before) (sink after)
      × TellSame before.told after.told
      × ((kept : Content) → after.told kept → IsDamagedAt place kept.rows)
  pub not_damaged : is_one_of (0 ∷ 8 ∷ []) status → TellsLawful after.told
  pub no_memory : status ≡ 7 → SaysOnly (status_line 7) before after
  pub unopened : is_one_of (5 ∷ 6 ∷ 7 ∷ []) status → LeavesDoor before after
  pub served_before : status ≡ 8 → AreServedFrom options.key options.connections door_failed (service before) (service after)
  pub door_line : status ≡ 8 → SaysLine (status_line 8) (sink before) (sink after)
  pub door_fault : status ≡ 8 → Rose before.door_faults after.door_faults
  pub no_door_fault : status ≢ 8 → after.door_faults ≡ before.door_faults
  pub kept : (first last : Content) → before.told first → after.told last → GrowLawfully first.rows last.rows
  pub left : after.left ≡ before.left
  pub read_count : after.read_faults ≡ before.read_faults

-- the store wasn't opened, or connections were served
abbrev IsEither : ℕ → Type 0
IsEither status = is_one_of (5 ∷ 6 ∷ 7 ∷ []) status ⊎ is_one_of (0 ∷ 8 ∷ []) status

opened_or_not : (status : ℕ) → is_one_of (0 ∷ 5 ∷ 6 ∷ 7 ∷ 8 ∷ []) status → IsEither status
opened_or_not status known =
    by_first 0 (5 ∷ 6 ∷ 7 ∷ 8 ∷ []) status IsEither known (inr refl)
    (λ past0. by_first 5 (6 ∷ 7 ∷ 8 ∷ []) status IsEither past0 (inl refl)
    (λ past5. by_first 6 (7 ∷ 8 ∷ []) status IsEither past5 (inl refl)
    (λ past6. by_first 7 (8 ∷ []) status IsEither past6 (inl refl)
    (λ past7. by_first 8 [] status IsEither past7 (inr refl) (λ none. absurd (true≢false (sym none)))))))

-- it is one of all
abbrev all : List ℕ
all = 0 ∷ 1 ∷ 2 ∷ 3 ∷ 4 ∷ 5 ∷ 6 ∷ 7 ∷ 8 ∷ []

among_all : (status : ℕ) → is_one_of (0 ∷ 5 ∷ 6 ∷ 7 ∷ 8 ∷ []) status → is_one_of all status
among_all status known =
    by_first 0 (5 ∷ 6 ∷ 7 ∷ 8 ∷ []) status (is_one_of all) known refl
    (λ past0. by_first 5 (6 ∷ 7 ∷ 8 ∷ []) status (is_one_of all) past0 refl
    (λ past5. by_first 6 (7 ∷ 8 ∷ []) status (is_one_of all) past5 refl
    (λ past6. by_first 7 (8 ∷ []) status (is_one_of all) past6 refl
    (λ past7. by_first 8 [] status (is_one_of all) past7 refl (λ none. absurd (true≢false (sym none)))))))

pub serve-ends : (options : Serve) (status : ℕ) (before after : Sides) → ServeEnds options status before after → Ends (Some (serve options)) status before after
serve-ends options status before after is =
    let never = λ (other : ℕ) (out : list_any (λ known. other == known) (0 ∷ 5 ∷ 6 ∷ 7 ∷ 8 ∷ []) ≡ false) (e : status ≡ other).
    no_such (0 ∷ 5 ∷ 6 ∷ 7 ∷ 8 ∷ []) status other is.known out e in
    record {
      known = among_all status is.known;
      done = λ e. tt;
      loaded = λ e. tt;
      served = λ e. (is.served e, is.silent e);
      no_write_fault = is.no_write_fault;
      kept = is.kept;
      load_leaves = tt;
      load_ends = tt;
      serve_leaves = (is.left, is.read_count);
      serve_ends = is.known;
      door_leaves = door_by (opened_or_not status is.known);
      usage = λ e. absurd (never 1 refl e);
      usage_due = λ e. absurd (cc);
      usage_line = λ e. absurd (never 1 refl e);
      too_long = λ e. absurd (never 2 refl e);
      not_long = tt;
      long_line = λ e. absurd (never 2 refl e);
      read_fault = λ e. absurd (never 3 refl e);
      no_read_fault = λ e. is.read_count;
      fault_line = λ e. absurd (never 3 refl e);
      write_fault = λ e. absurd (never 4 refl e);
      cut = λ e. tt;
      load_cut = λ e. tt;
      keeper_fault = is.keeper_fault;
      failed = λ e. inl (is.failed e);
      damaged = is.damaged;
      not_damaged = tt;
      served_undamaged = is.not_damaged;
      no_memory = λ e. inl (is.no_memory e);
      door_fault = is.door_fault;
      no_door_fault = is.no_door_fault;
      served_before = is.served_before;
      door_line = is.door_line;
    }
  where
    door_by : IsEither status → LeavesDoor before after ⊎ is_one_of (0 ∷ 8 ∷ []) status
    door_by (inl unopened) = inl (is.unopened unopened)
    door_by (inr opened) = inr opened
