-- That `value_of_digits` keeps its contract.
use Rattle.std.proofs.Common.{arith}
use Rattle.money_units.proofs.NumeralFacts.{value-more, value-fits}
use Rattle.money_units.proofs.reading.value_of_digits.Goals as goal

pub overflow_mul-value : goal.overflow_mul-value
overflow_mul-value c =
    omega (arith, value-fits c.args.text.now c.loop-byte.byte-index c.requires.digits c.loop-byte-test.true c.requires.few)

pub overflow_add-value : goal.overflow_add-value
overflow_add-value c =
    omega (arith, value-fits c.args.text.now c.loop-byte.byte-index c.requires.digits c.loop-byte-test.true c.requires.few)

pub loop-byte-preserved : goal.loop-byte-preserved
loop-byte-preserved c =
    omega (arith, value-more c.args.text.now c.loop-byte.byte-index c.requires.digits c.loop-byte-test.true)
