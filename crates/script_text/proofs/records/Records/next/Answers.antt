-- That `Records::next` keeps its contract.
use Rattle.std.proofs.Common.{Bor, List, Some, [], ap, drop, slice_get, subst, sym, ℕ, ◌∙◌, ◌∷◌, ◌≡◌}
use Rattle.csv.specs.Reading.{ReadRecord}
use Rattle.csv.specs.Records.{fields_of}
use Rattle.script_text.specs.Rows.{records_to_come}
use Rattle.script_text.proofs.RecordsToCome.{reading-on, reads-none, reads-one, to-come-is}
use Rattle.script_text.proofs.records.Records.next.Goals as goal

pub returns-in-Ok-false-clause-next : goal.returns-in-Ok-false-clause-next
returns-in-Ok-false-clause-next c =
    let is = reading-on c.self.inside.is_done c.self.inside.reader c.if-self.false c.self.invariant in
    let read = subst (λ found. ReadRecord (λ (source : Bor (List ℕ)). Some source.now) c.self.inside.reader c.read_byte_record.new.self found (fields_of c.read_byte_record.new.row))
    c.in-Ok-false.field-0-test (c.in-Ok-false.ensures.reads is.untrimmed is.ready) in
    let none : c.args.self.now ≡ [] =
    sym c.self.view_is ∙ (to-come-is c.self.inside.is_done c.self.inside.reader c.if-self.false ∙ reads-none c.self.inside.reader c.read_byte_record.new.self _ is read) in
    ap (λ rows. slice_get rows 0) (sym none)

pub returns-in-Ok-false-clause-rest : goal.returns-in-Ok-false-clause-rest
returns-in-Ok-false-clause-rest c =
    let is = reading-on c.self.inside.is_done c.self.inside.reader c.if-self.false c.self.invariant in
    let read = subst (λ found. ReadRecord (λ (source : Bor (List ℕ)). Some source.now) c.self.inside.reader c.read_byte_record.new.self found (fields_of c.read_byte_record.new.row))
    c.in-Ok-false.field-0-test (c.in-Ok-false.ensures.reads is.untrimmed is.ready) in
    let none : c.args.self.now ≡ [] =
    sym c.self.view_is ∙ (to-come-is c.self.inside.is_done c.self.inside.reader c.if-self.false ∙ reads-none c.self.inside.reader c.read_byte_record.new.self _ is read) in
    ap (λ rows. drop 1 rows) (sym none)

pub returns-clause-next : goal.returns-clause-next
returns-clause-next c =
    let is = reading-on c.self.inside.is_done c.self.inside.reader c.if-self.false c.self.invariant in
    let read = subst (λ found. ReadRecord (λ (source : Bor (List ℕ)). Some source.now) c.self.inside.reader c.read_byte_record.new.self found (fields_of c.read_byte_record.new.row))
    c.in-Ok-true.field-0-test (c.in-Ok-true.ensures.reads is.untrimmed is.ready) in
    let first = (reads-one c.self.inside.reader c.read_byte_record.new.self _ is read).first in
    let all : c.args.self.now ≡ c.in_ok-fields_of_row.field-0 ∷ records_to_come c.read_byte_record.new.self =
    sym c.self.view_is ∙ (to-come-is c.self.inside.is_done c.self.inside.reader c.if-self.false ∙ (first ∙ ap (λ row. row ∷ records_to_come c.read_byte_record.new.self) (sym c.in_ok-fields_of_row.ensures))) in
    ap (λ rows. slice_get rows 0) (sym all)

pub returns-clause-rest : goal.returns-clause-rest
returns-clause-rest c =
    let is = reading-on c.self.inside.is_done c.self.inside.reader c.if-self.false c.self.invariant in
    let read = subst (λ found. ReadRecord (λ (source : Bor (List ℕ)). Some source.now) c.self.inside.reader c.read_byte_record.new.self found (fields_of c.read_byte_record.new.row))
    c.in-Ok-true.field-0-test (c.in-Ok-true.ensures.reads is.untrimmed is.ready) in
    let first = (reads-one c.self.inside.reader c.read_byte_record.new.self _ is read).first in
    let all : c.args.self.now ≡ fields_of c.read_byte_record.new.row ∷ records_to_come c.read_byte_record.new.self =
    sym c.self.view_is ∙ (to-come-is c.self.inside.is_done c.self.inside.reader c.if-self.false ∙ first) in
    to-come-is c.self.inside.is_done c.read_byte_record.new.self c.if-self.false ∙ ap (λ rows. drop 1 rows) (sym all)
