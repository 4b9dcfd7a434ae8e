-- A reader of a text in memory, record by record: what is to come begins with what a read gives.
use Rattle.std.proofs.Common.{ap, inl, inr, ◌∙◌, ◌≡◌, Bor, List, None, Option, Some, IsSome, [], ◌∷◌, ℕ, true, false, refl, sym}
use Rattle.std.proofs.lemmas.Bool.{true≢false}
use Rattle.std.specs.Option.{option_map_or}
use Rattle.std.specs.Prelude.{Bool, if◌then◌else◌, is_some, ◌⊎◌}
use Rattle.csv.specs.Reading.{ReadRecord, Reached, default_config, reader_state, source_of}
use Rattle.csv.specs.declared.reader.Reader.{Reader}
use Rattle.csv.proofs.ReadFacts.{rows-end, rows-more}
use Rattle.script_text.specs.Rows.{IsReading, records_left, records_to_come}
use Rattle.script_text.proofs.RecordLaws.{records-next, records-none}

abbrev unread : Reader (Bor (List ℕ)) → Option (List ℕ)
unread reader = source_of (λ (source : Bor (List ℕ)). Some source.now) reader

some-there : {A : Type 0} (found : Option A) → IsSome found → (x : A) × (found ≡ Some x)
some-there (Some x) is = (x, refl)
some-there None is = absurd (true≢false (sym is))

some-is : {A : Type 0} (found : Option A) (x : A) → found ≡ Some x → IsSome found
some-is found x e = ap is_some e

-- what is known of what a reader has left
left-is : (reader : Reader (Bor (List ℕ))) (bytes : List ℕ) → unread reader ≡ Some bytes → records_to_come reader ≡ records_left default_config (reader_state reader) bytes
left-is reader bytes e = ap (λ known. option_map_or (records_left default_config (reader_state reader)) known []) e

-- a read that found a record
pub record Reads (before after : Reader (Bor (List ℕ))) (fields : List (List ℕ)) : Type 0 where
  pub first : records_to_come before ≡ fields ∷ records_to_come after
  pub source : IsSome (unread after)

pub reads-one : (before after : Reader (Bor (List ℕ))) (fields : List (List ℕ)) → IsReading before → ReadRecord (λ (source : Bor (List ℕ)). Some source.now) before after true fields → Reads before after fields
unfolding Reached
reads-one before after fields is read =
    let left = some-there (unread before) is.source in
    let more = rows-more (λ (source : Bor (List ℕ)). Some source.now) before after fields default_config before.state left.0 left.0 [] is.config left.1 (refl, refl) read in
    let next = more.2.0 in
    let first : records_to_come before ≡ next.0 ∷ records_left default_config next.1 next.2 =
    left-is before left.0 left.1 ∙ records-next default_config before.state left.0 next more.2.1 in
    let rest : records_to_come after ≡ records_left default_config next.1 next.2 =
    left-is after more.0 more.1 ∙ (ap (λ state. records_left default_config state more.0) (sym more.2.3.0) ∙ ap (λ bytes. records_left default_config next.1 bytes) (sym more.2.3.1)) in
    record {
      first = first ∙ (ap (λ row. row ∷ records_left default_config next.1 next.2) (sym more.2.2) ∙ ap (λ rows. fields ∷ rows) (sym rest));
      source = some-is (unread after) more.0 more.1;
    }

-- a read that found none
pub reads-none : (before after : Reader (Bor (List ℕ))) (fields : List (List ℕ)) → IsReading before → ReadRecord (λ (source : Bor (List ℕ)). Some source.now) before after false fields → records_to_come before ≡ []
reads-none before after fields is read =
    let left = some-there (unread before) is.source in
    left-is before left.0 left.1
    ∙ records-none default_config before.state left.0
    (rows-end (λ (source : Bor (List ℕ)). Some source.now) before after fields default_config left.0 is.config left.1 read)

-- a reader that isn't done reads on, and what is to come of it is its reader's
pub reading-on : (is_done : Bool) (reader : Reader (Bor (List ℕ))) → is_done ≡ false → (is_done ≡ true) ⊎ IsReading reader → IsReading reader
reading-on is_done reader on (inl done) = absurd (true≢false (sym done ∙ on))
reading-on is_done reader on (inr is) = is

pub to-come-is : (is_done : Bool) (reader : Reader (Bor (List ℕ))) → is_done ≡ false → (if is_done then [] else records_to_come reader) ≡ records_to_come reader
to-come-is false reader on = refl
to-come-is true reader on = absurd (true≢false on)
