-- The facts so far are those of the fields so far.
use Rattle.std.proofs.Common.{◌≡◌, ◌≤◌, map, take}
use Rattle.std.specs.List.{fold}
use Rattle.httparse.specs.Spans.{header_bytes}
use Rattle.http_stream.specs.Reading.{AreFactsWithin, facts_of, facts_with, no_facts}
use Rattle.http_stream.proofs.head.facts_of.Given as goal

abbrev pub invariant-loop-field : goal.invariant-loop-field
invariant-loop-field l = record {
  value : facts_of l.text l.facts ≡ fold facts_with no_facts (map (header_bytes l.text) (take l.field-index l.fields));
  within : AreFactsWithin l.size l.facts;
  key : l.facts.key.count ≤ l.field-index;
  length : l.facts.length.count ≤ l.field-index;
  coding : l.facts.coding.count ≤ l.field-index;
}
