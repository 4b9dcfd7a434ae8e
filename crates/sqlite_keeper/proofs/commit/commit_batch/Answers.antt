-- That `commit_batch` keeps its contract.
use Rattle.std.proofs.Common.{◌≡◌, true, IsTrue, refl, sym, subst, arith, rules}
use Rattle.sqlite.specs.State.{HasCleanDisk}
use Rattle.sqlite.specs.Held.{state}
use Rattle.sqlite.proofs.Callers.{survives_begin}
use Rattle.sqlite_keeper.specs.Commits.{changes_of, MakesAll}
use Rattle.sqlite_keeper.proofs.StatementFacts.{whole-end, neither-end, crash-begun, when-ok, when-err, on-err}
use Rattle.sqlite_keeper.proofs.commit.commit_batch.Goals as goal

pub returns-clause-whole : goal.returns-clause-whole
returns-clause-whole g c clean =
    let shows = state g.S.Store in
    let old = c.args.conn.now in
    let begun = c.transaction-changes.ensures.begun in
    let last = c.make_changes.new.changes.conn.now in
    let end = c.commit.new.self.0 in
    let same : end ≡ c.conn-2-1.given.0 = search rules in
    let late : HasCleanDisk (shows end) = subst (λ h. HasCleanDisk (shows h)) (sym same) clean in
    let done = when-ok c.commit.result c.map_err.result _ _ c.map_err.ensures.variant c.in_ok-map_err.was (c.commit.ensures.ok late) in
    let ran = rw begun at (c.in_ok-make_changes.ensures.ran (omega (arith, c.commit.ensures.survives.clean)) (rw begun refl)) in
    subst (λ h. MakesAll shows (changes_of c.args.base c.args.batch.now) (record old { in_transaction = true }) (shows h).committed × ((shows h).now ≡ (shows h).committed)) same
    (whole-end shows _ _ last end ran done.1)

pub returns-clause-crash : goal.returns-clause-crash
returns-clause-crash g c =
    let shows = state g.S.Store in
    let old = c.args.conn.now in
    let begun = c.transaction-changes.ensures.begun in
    let end = c.commit.new.self.0 in
    let same : end ≡ c.conn-2-1.given.0 = search rules in
    crash-begun shows (shows old) (changes_of c.args.base c.args.batch.now) (record old { in_transaction = true }) c.make_changes.new.changes.conn.now end _ same (survives_begin g.S.Store old (shows end) _)
    (λ clean. rw begun at (c.in_ok-make_changes.ensures.ran clean (rw begun refl))) (rw begun at c.make_changes.ensures.nothing.survives) c.commit.ensures.survives

pub returns-in_err-map_err-clause-crash : goal.returns-in_err-map_err-clause-crash
returns-in_err-map_err-clause-crash g c =
    let shows = state g.S.Store in
    let old = c.args.conn.now in
    let begun = c.transaction-changes.ensures.begun in
    let end = c.commit.new.self.0 in
    let same : end ≡ c.conn-2-1.given.0 = search rules in
    crash-begun shows (shows old) (changes_of c.args.base c.args.batch.now) (record old { in_transaction = true }) c.make_changes.new.changes.conn.now end _ same (survives_begin g.S.Store old (shows end) _)
    (λ clean. rw begun at (c.in_ok-make_changes.ensures.ran clean (rw begun refl))) (rw begun at c.make_changes.ensures.nothing.survives) c.commit.ensures.survives

pub returns-in_err-map_err-clause-neither : goal.returns-in_err-map_err-clause-neither
returns-in_err-map_err-clause-neither g c clean is_open =
    let shows = state g.S.Store in
    let old = c.args.conn.now in
    let begun = c.transaction-changes.ensures.begun in
    let last = c.make_changes.new.changes.conn.now in
    let end = c.commit.new.self.0 in
    let same : end ≡ c.conn-2-1.given.0 = search rules in
    let late : HasCleanDisk (shows end) = subst (λ h. HasCleanDisk (shows h)) (sym same) clean in
    let still : IsTrue (shows end).is_open = subst (λ h. IsTrue (shows h).is_open) (sym same) is_open in
    let earlier : HasCleanDisk (shows last) = omega (arith, c.commit.ensures.survives.clean) in
    let sure : IsTrue c.is_autocommit.result = search rules in
    let failed = when-err c.commit.result c.map_err.result _ _ c.map_err.ensures.variant c.in_err-map_err.was (c.commit.ensures.err late) in
    let ran = rw begun at (c.in_ok-make_changes.ensures.ran earlier (rw begun refl)) in
    let kept = rw begun at (c.make_changes.ensures.nothing.kept earlier) in
    on-err _ _ (subst (λ h. ((shows h).now ≡ (shows old).now) × ((shows h).committed ≡ (shows old).committed)) same
    (neither-end shows (changes_of c.args.base c.args.batch.now) (record old { in_transaction = true }) last end (c.is_autocommit.ensures.settled sure) ran refl kept failed.0 failed.1 still))
