-- That `broken_by_earlier` keeps its contract.
use Rattle.dealer_lines.proofs.earlier.broken_by_earlier.Goals as goal

-- Each rule as it was asked.
pub returns : goal.returns
returns c =
    let named = c.is_named.ensures in
    let used = c.refused_when-used.ensures in
    let below = c.below_minimum-below.ensures in
    let account = c.number.ensures.value in
    let many = c.are_orders_full.ensures in
    let full = c.refused_when-full.ensures in
    let closed = c.is_journal_full.ensures in
    let ended = c.refused_when-ended.ensures in
    let last = c.either.ensures in
    let third = c.either-2.ensures in
    let second = c.either-3.ensures in
    let first = c.either-4.ensures in
    cc
