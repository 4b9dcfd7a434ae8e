-- Serving from a store that was opened.
use Rattle.std.proofs.Common.{Err, List, Option, Result, ap, arith, subst, sym, ℕ, ◌∙◌, ◌≡◌}
use Rattle.std.specs.Prelude.{Bool}
use Rattle.agent_run.specs.Runs.{AreServedBehind, ServiceAt}
use Rattle.agent_edge.specs.Links.{Links}
use Rattle.agent_edge.specs.declared.doors.DoorFault.{DoorFault}
use Rattle.connection_service.specs.Answers.{At, kept_at}
use Rattle.connection_service.specs.InTurn.{AreServed, DoorAt, InTurn, door_at}
use Rattle.register_desk.specs.Rows.{TellsRowsOf}
use Rattle.register_machine.specs.journal.Journals.{Journal}

-- a door whose connections are told as before
pub same-door : (was is : Bool) (before now : Option Links) (old new : ℕ) → is ≡ was → now ≡ before → new ≡ old
    → door_at is now new ≡ door_at was before old
same-door was is before now old new connected told counted =
    ap (λ c. door_at c now new) connected ∙ (ap (λ links. door_at was links new) told ∙ ap (λ n. door_at was before n) counted)

-- a door that couldn't listen served none
pub served-none : (operator : List ℕ) (most : ℕ) (opened : At) (before now : DoorAt) (ends : Result Unit DoorFault) (fault : DoorFault) → ends ≡ Err fault
    → now ≡ before → AreServed operator most opened before ends now opened
served-none operator most opened before now ends fault failed same =
    subst (λ (how : Result Unit DoorFault). AreServed operator most opened before how now opened) (sym failed)
    (record {
      count = 0;
      in_turn = subst (λ (door : DoorAt). InTurn operator opened before 0 door opened) (sym same) InTurn.none;
      within = omega arith;
      whole = tt;
    })

-- a door that listens serves as it was before
pub served-since : (operator : List ℕ) (most : ℕ) (opened : At) (before mid : DoorAt) (ends : Result Unit DoorFault) (now : DoorAt) (at : At)
    → mid ≡ before → AreServed operator most opened mid ends now at → AreServed operator most opened before ends now at
served-since operator most opened before mid ends now at same served =
    subst (λ (door : DoorAt). AreServed operator most opened door ends now at) same served

-- by how it ended
pub served-behind : (operator : List ℕ) (most : ℕ) (opened : At) (before : DoorAt) (result ends : Result Unit DoorFault) (left : Journal) (after : ServiceAt)
    → AreServed operator most opened before result after.door (record { kept = kept_at left after.keeper_faults; clock = after.clock })
    → result ≡ ends → TellsRowsOf after.told left → AreServedBehind operator most opened before ends after
served-behind operator most opened before result ends left after served same told = record {
  left = left;
  in_turn = subst (λ (how : Result Unit DoorFault). AreServed operator most opened before how after.door (record { kept = kept_at left after.keeper_faults; clock = after.clock })) same served;
  told = told;
}
