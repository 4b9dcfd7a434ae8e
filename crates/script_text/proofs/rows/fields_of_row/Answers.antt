-- That `fields_of_row` keeps its contract.
use Rattle.std.proofs.Common.{◌≡◌, ◌<◌, ℕ, List, [], Option, None, Some, Bor, length, rules, sym}
use Rattle.std.specs.Prelude.{IsSome, option_map}
use Rattle.std.proofs.lemmas.List.{take_more}
use Rattle.csv.specs.Records.{field_at, fields_of}
use Rattle.csv.proofs.RecordFacts.{field-get, field-there}
use Rattle.script_text.proofs.rows.fields_of_row.Goals as goal

-- there is a field at each place below the number of fields
some_there : (fields : List (List ℕ)) (i : ℕ) (found : Option (Bor (List ℕ))) → i < length fields → option_map (λ (text : Bor (List ℕ)). text.now) found ≡ field_at fields i → IsSome found
some_there fields i None lt e = absurd (field-there fields i lt (sym e))
some_there fields i (Some text) lt e = search rules

pub unwrap-requires : goal.unwrap-requires
unwrap-requires c = some_there (fields_of c.args.row.now) c.loop-i.i _ (search rules) c.get.ensures.value

pub loop-i-preserved : goal.loop-i-preserved
loop-i-preserved c =
    let fields = fields_of c.args.row.now in
    let within : c.loop-i.i < length fields = search rules in
    let text = field-get fields c.loop-i.i c.unwrap.result.now (sym (rw c.unwrap.ensures at c.get.ensures.value)) in
    let more = take_more fields c.loop-i.i [] within in
    let pushed = c.in_ok-push_field.ensures.ok in cc
