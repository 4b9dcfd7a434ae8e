-- The reader goes on from the records that were read so far.
use Rattle.std.proofs.Common.{◌≡◌, ◌<◌, ℕ, List, Some}
use Rattle.csv.specs.Reading.{Reached, Ready, default_config, source_of, strip_bom}
use Rattle.csv.specs.declared.parser.State.TheVariants as st
use Rattle.csv.specs.declared.reader.Trim.TheVariants as trim
use Rattle.script_text.proofs.rows.records_of.Given as goal

abbrev pub invariant-loop-read : goal.invariant-loop-read
invariant-loop-read l = record {
  untrimmed : l.read-iterator.rdr.trim ≡ trim.None;
  ready : Ready l.read-iterator.rdr;
  turns : 0 < l.read-iterator.left;
  config : l.read-iterator.rdr.config ≡ default_config;
  reached : (y : List ℕ) × (source_of (λ s. Some s.now) l.read-iterator.rdr ≡ Some y)
      × Reached default_config st.StartRecord (strip_bom l.fn.text) l.rows.items l.read-iterator.rdr.state y;
}
