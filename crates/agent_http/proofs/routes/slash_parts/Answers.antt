-- That `slash_parts` keeps its contract.
use Rattle.std.proofs.Common.{◌<◌, ◌∙◌, length, length-set, arith}
use Rattle.agent_http.proofs.PartLaws.{room-end, room-more}
use Rattle.agent_http.proofs.routes.slash_parts.Goals as goal

pub returns-then-end-rest-clause-parts : goal.returns-then-end-rest-clause-parts
returns-then-end-rest-clause-parts c =
    room-end c.args.path.now c.loop-place.rest.now c.loop-place.room c.loop-place.place c.place_of-end.result c.front.result
    c.loop-place-test.true c.loop-place.invariant.size c.loop-place.invariant.parts c.place_of-end.ensures.value c.if-end-rest.true
    c.front.ensures

pub loop-place-preserved : goal.loop-place-preserved
loop-place-preserved c =
    let size = c.loop-place.invariant.size in
    let within : c.loop-place.place < length c.loop-place.room = omega arith in
    let inside : c.place_of-end.result < length c.loop-place.rest.now = omega arith in
    record {
      parts = room-more c.args.path.now c.loop-place.rest.now c.past-rest.result.now c.loop-place.room c.loop-place.place c.place_of-end.result
          c.front.result within c.loop-place.invariant.parts c.place_of-end.ensures.value inside c.front.ensures c.past-rest.ensures;
      size = length-set c.loop-place.room c.loop-place.place c.front.result ∙ size;
    }
