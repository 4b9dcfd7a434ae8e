-- The value of a text in the form has at most 19 digits, and so have its parts.
use Rattle.std.proofs.Common.{◌∙◌, arith, sym}
use Rattle.std.proofs.lemmas.List.{take_rest}
use Rattle.money_units.proofs.NumeralFacts.{fixed-fits}
use Rattle.money_units.proofs.reading.read_fixed.Goals as goal

pub overflow_mul-result : goal.overflow_mul-result
overflow_mul-result c =
    let form = sym c.is_fixed.ensures ∙ c.if-not-is_fixed.false in
    rw (c.requires.scaled, c.value_of_digits-units.ensures) (omega (arith, fixed-fits c.args.most c.args.places c.args.text.now form c.requires.fits))

pub overflow_add-result : goal.overflow_add-result
overflow_add-result c =
    let form = sym c.is_fixed.ensures ∙ c.if-not-is_fixed.false in
    rw (c.requires.scaled, c.value_of_digits-units.ensures, c.value_of_digits-part.ensures)
    (simp take_rest (omega (arith, fixed-fits c.args.most c.args.places c.args.text.now form c.requires.fits)))
