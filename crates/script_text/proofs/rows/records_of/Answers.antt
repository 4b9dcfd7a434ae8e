-- That `records_of` keeps its contract.
use Rattle.std.proofs.Common.{Bor, List, ℕ, ◌∙◌, sym, refl, inl, inr, Some, []}
use Rattle.csv.specs.Reading.{Reached, default_config, strip_bom}
use Rattle.csv.specs.Records.{fields_of}
use Rattle.csv.specs.declared.parser.State.TheVariants as st
use Rattle.csv.proofs.ReadFacts.{rows-end, rows-more}
use Rattle.script_text.proofs.RecordLaws.{records-all}
use Rattle.script_text.proofs.rows.records_of.Goals as goal

pub loop-read-init : goal.loop-read-init
unfolding Reached
loop-read-init c =
    let reader = c.from_reader-reader.ensures in
    let headers = c.has_headers.ensures in
    let flexible = c.flexible.ensures in
    let start = c.into_iter-read-iterator.ensures.into_iter_gives ∙ refl in
    let rows = c.into_byte_records-read-items.ensures in
    rw (start, rows.rdr, c.new-rows.ensures.items) (record {
      untrimmed = rw (flexible, headers) at reader.trim ∙ c.new.ensures.trim;
      ready = inr (inr (rw (flexible, headers) at reader.has_headers, reader.headers));
      turns = rows.left;
      config = rw (flexible, headers) at reader.config ∙ c.new.ensures.config;
      reached = (strip_bom c.args.text.now, reader.source, (sym reader.state, refl));
    })

pub loop-read-preserved : goal.loop-read-preserved
loop-read-preserved c =
    let before = c.loop-read.invariant in
    let read = rw (c.in-Some.is, c.in-Ok.is) at ((c.next.ensures.steps before.turns before.untrimmed).0 before.ready) in
    let items = c.in_ok-push.ensures.items in
    let more = rows-more (λ (s : Bor (List ℕ)). Some s.now) c.loop-read.read-iterator.rdr c.next.new.self.rdr (fields_of c.in-Ok.row) default_config st.StartRecord
    (strip_bom c.args.text.now) before.reached.0 c.loop-read.rows.items before.config before.reached.1 before.reached.2 read.0 in
    record {
      untrimmed = read.0.3 ∙ before.untrimmed;
      ready = inl read.1;
      turns = read.2;
      config = read.0.2 ∙ before.config;
      reached = (more.0, more.1, rw (items, c.in_ok-fields_of_row.ensures) more.2);
    }

pub returns : goal.returns
returns c =
    let before = c.loop-read.invariant in
    let read = rw c.in-None.is at ((c.next.ensures.steps before.turns before.untrimmed).0 before.ready) in
    let last = rows-end (λ (s : Bor (List ℕ)). Some s.now) c.loop-read.read-iterator.rdr c.next.new.self.rdr [] default_config before.reached.0 before.config before.reached.1 read in
    sym (records-all default_config (strip_bom c.args.text.now) _ (c.loop-read.read-iterator.rdr.state, before.reached.0, before.reached.2, last))
