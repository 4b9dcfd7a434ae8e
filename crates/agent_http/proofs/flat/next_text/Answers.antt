-- That `next_text` keeps its contract.
use Rattle.std.proofs.Common.{◌≡◌, ◌<◌, ◌∷◌, ◌∙◌, length, Some, ap, arith}
use Rattle.json.specs.Reads.{token_of}
use Rattle.json.specs.Token.{Token}
use Rattle.serde_json.specs.Data.{number, string, unsigned}
use Rattle.agent_http.proofs.FlatReads.{kept, number-value, text-value}
use Rattle.agent_http.proofs.flat.next_text.Goals as goal

pub returns-in-Some-String : goal.returns-in-Some-String
returns-in-Some-String c =
    let text = c.in-Some-String.text.now in
    let is : c.args.reader.now ≡ Token.string text ∷ c.next.new.self =
    c.in-Some-String.ensures.value ∙ ap (λ t. token_of t ∷ c.next.new.self) c.in-Some-String.field-0-is in (
      string text,
      text-value c.args.reader.now c.next.new.self text is,
      ap (λ bytes. Some bytes) c.as_bytes.ensures.value,
      omega (arith, ap length is),
    )

pub returns-in-Some-Number : goal.returns-in-Some-Number
returns-in-Some-Number c =
    let text = c.in-Some-Number.text.now in
    let is : c.args.reader.now ≡ Token.number text ∷ c.next.new.self =
    c.in-Some-Number.ensures.value ∙ ap (λ t. token_of t ∷ c.next.new.self) c.in-Some-Number.field-0-is in
    let shorter : length c.next.new.self < length c.args.reader.now = omega (arith, ap length is) in
    kept _ _ c.number_text.result
    (λ found h. (number (unsigned h.0), number-value c.args.reader.now c.next.new.self text h.0 is h.1, h.2, shorter))
    c.number_text.ensures
