-- That `members_behind` keeps its contract.
use Rattle.std.proofs.Common.{◌≡◌, None, Some, map, subst, sym, arith}
use Rattle.json.specs.Json.{read_key}
use Rattle.agent_http.specs.Views.{member_view}
use Rattle.agent_http.proofs.FlatReads.{IsRead, read-all, read-none, read-pushed}
use Rattle.agent_http.proofs.flat.members_behind.Goals as goal

pub turns-init : goal.turns-init
turns-init c =
    let start = c.args.reader.now in
    subst (λ items. IsRead start start (map member_view items)) (sym c.new-members.ensures.items) (read-none start)

pub turns-preserved : goal.turns-preserved
turns-preserved c =
    let now = c.turns.reader in
    let s = c.next_key.new.self in
    let k = c.in-Ok-Some.name.now in
    let named : read_key now ≡ Some (Some k, s) = grind arith in
    let valued = c.in-Some.ensures in
    read-pushed c.args.reader.now now s c.next_text.new.reader c.turns.members.items c.push.new.self.items
    (record { name = c.as_bytes.result; text = c.in-Some.text }) k valued.0 c.turns.invariant named valued.1 valued.3
    c.as_bytes.ensures.value valued.2 c.in_ok-push-in-Some.ensures.items

pub returns-in-Ok-None : goal.returns-in-Ok-None
returns-in-Ok-None c =
    let now = c.turns.reader in
    let named : read_key now ≡ Some (None, c.next_key.new.self) = grind arith in
    read-all c.args.reader.now now c.next_key.new.self (map member_view c.turns.members.items) c.turns.invariant named
