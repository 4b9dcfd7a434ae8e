-- That `serve_all` keeps its contract.
use Rattle.std.proofs.Common.{[], append-nil, subst, sym, ◌∙◌}
use Rattle.connection_service.proofs.AnswerFacts.{goes-then, grown-then}
use Rattle.connection_service.proofs.GoingFacts.{counts-from, on-counts, on-fewer, on-goes, over-counts, over-goes}
use Rattle.connection_service.proofs.ServingFacts.{serving-none, within-none}
use Rattle.connection_service.proofs.serving.serve_all.Goals as goal
use Rattle.connection_service.specs.Serving.{IsServing, IsWithin, at_of}
use Rattle.http_stream.specs.Stream.{Stream}
use Rattle.register_desk.proofs.RowByRow.{goes_none}

pub loop-served-init : goal.loop-served-init
loop-served-init g c =
    let at = at_of c.args.desk.now.book.journal (g.K.Keeper.faults c.args.keeper.now) (g.C.Clock.last c.args.clock.now) (g.C.Clock.coming c.args.clock.now) in
    let told = g.D.Door.told c.args.door.now in
    record {
      serving = subst (λ (left : Stream). IsServing c.args.operator.now at told told left at) (sym c.new-feed.ensures) (serving-none c.args.operator.now at told);
      within = subst IsWithin (sym c.new-feed.ensures) within-none;
      grown = ([], sym (append-nil c.args.desk.now.book.journal));
      told = c.requires.told;
      attached = c.requires.attached;
      was_honest = λ honest. honest;
      goes_on = goes_none g.K.Keeper.moment g.K.Keeper.gave c.args.keeper.now;
      connected = c.requires.connected;
      link = λ _. g.D.Door.link_faults c.args.door.now;
      door = λ _. g.D.Door.door_faults c.args.door.now;
    }

pub loop-served-preserved : goal.loop-served-preserved
loop-served-preserved g c =
    let opened = at_of c.args.desk.now.book.journal (g.K.Keeper.faults c.args.keeper.now) (g.C.Clock.last c.args.clock.now) (g.C.Clock.coming c.args.clock.now) in
    let at = at_of c.serve_next.new.desk.book.journal (g.K.Keeper.faults c.serve_next.new.keeper) (g.C.Clock.last c.serve_next.new.clock) (g.C.Clock.coming c.serve_next.new.clock) in
    record {
      serving = on-goes c.args.operator.now opened (g.D.Door.told c.args.door.now) (g.D.Door.told c.serve_next.new.door) c.serve_next.new.feed at c.serve_next.result c.in-On.is
          (c.serve_next.ensures.goes opened (g.D.Door.told c.args.door.now) c.loop-served.invariant.serving);
      within = (on-fewer c.serve_next.result c.loop-served.feed c.serve_next.new.feed c.in-On.is (c.serve_next.ensures.fewer c.loop-served.invariant.within)).0;
      grown = grown-then c.args.desk.now.book.journal c.loop-served.desk.book.journal c.serve_next.new.desk.book.journal c.loop-served.invariant.grown c.serve_next.ensures.grown;
      told = c.serve_next.ensures.told;
      attached = c.serve_next.ensures.attached;
      was_honest = λ honest. c.loop-served.invariant.was_honest (c.serve_next.ensures.was_honest honest);
      goes_on = goes-then g.K.Keeper.moment g.K.Keeper.gave c.args.keeper.now c.loop-served.keeper c.serve_next.new.keeper c.loop-served.invariant.goes_on c.serve_next.ensures.goes_on;
      connected = c.serve_next.ensures.connected;
      link = on-counts c.serve_next.result (g.D.Door.link_faults c.loop-served.door) (g.D.Door.link_faults c.serve_next.new.door) c.in-On.is c.serve_next.ensures.link ∙ c.loop-served.invariant.link;
      door = c.serve_next.ensures.door ∙ c.loop-served.invariant.door;
    }

pub loop-served-smaller : goal.loop-served-smaller
loop-served-smaller g c =
    (on-fewer c.serve_next.result c.loop-served.feed c.serve_next.new.feed c.in-On.is (c.serve_next.ensures.fewer c.loop-served.invariant.within)).1

pub returns-in-Over-clause-served : goal.returns-in-Over-clause-served
returns-in-Over-clause-served g c =
    let opened = at_of c.args.desk.now.book.journal (g.K.Keeper.faults c.args.keeper.now) (g.C.Clock.last c.args.clock.now) (g.C.Clock.coming c.args.clock.now) in
    let at = at_of c.serve_next.new.desk.book.journal (g.K.Keeper.faults c.serve_next.new.keeper) (g.C.Clock.last c.serve_next.new.clock) (g.C.Clock.coming c.serve_next.new.clock) in
    over-goes c.args.operator.now opened (g.D.Door.told c.args.door.now) (g.D.Door.told c.serve_next.new.door) c.serve_next.new.feed at c.serve_next.result c.in-Over.served c.in-Over.is
    (c.serve_next.ensures.goes opened (g.D.Door.told c.args.door.now) c.loop-served.invariant.serving)

pub returns-in-Over-clause-grown : goal.returns-in-Over-clause-grown
returns-in-Over-clause-grown g c =
    grown-then c.args.desk.now.book.journal c.loop-served.desk.book.journal c.serve_next.new.desk.book.journal c.loop-served.invariant.grown c.serve_next.ensures.grown

pub returns-in-Over-clause-goes_on : goal.returns-in-Over-clause-goes_on
returns-in-Over-clause-goes_on g c =
    goes-then g.K.Keeper.moment g.K.Keeper.gave c.args.keeper.now c.loop-served.keeper c.serve_next.new.keeper c.loop-served.invariant.goes_on c.serve_next.ensures.goes_on

pub returns-in-Over-clause-link : goal.returns-in-Over-clause-link
returns-in-Over-clause-link g c =
    counts-from c.in-Over.served (g.D.Door.link_faults c.args.door.now) (g.D.Door.link_faults c.loop-served.door) (g.D.Door.link_faults c.serve_next.new.door) c.loop-served.invariant.link
    (over-counts c.serve_next.result c.in-Over.served (g.D.Door.link_faults c.loop-served.door) (g.D.Door.link_faults c.serve_next.new.door) c.in-Over.is c.serve_next.ensures.link)
