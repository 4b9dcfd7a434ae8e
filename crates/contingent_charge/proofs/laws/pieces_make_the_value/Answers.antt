-- The proof of the law `pieces_make_the_value`.
use Rattle.std.proofs.Common.{◌+◌, sum_by, ap, zero-add}
use Rattle.share_lots.specs.Values.{value_at}
use Rattle.contingent_charge.specs.DeferredCharge.{with_values}
use Rattle.contingent_charge.proofs.ChargeLemmas.{from-zero, mils_of, value-zero, value_of, values-from}
use Rattle.contingent_charge.proofs.laws.pieces_make_the_value.Goals as goal

pub returns : goal.returns
returns c nav pieces =
    from-zero (value_at nav 0) (sum_by value_of (with_values nav 0 pieces)) (value_at nav (0 + sum_by mils_of pieces)) (value_at nav (sum_by mils_of pieces)) (value-zero nav) (ap (value_at nav) (zero-add (sum_by mils_of pieces))) (values-from nav 0 pieces)
