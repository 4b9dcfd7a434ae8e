-- The proof of the law `items_are_determined`.
use Rattle.http_stream.proofs.ItemLaws.{one-item, not-both}
use Rattle.http_stream.proofs.laws.items_are_determined.Goals as goal

pub returns : goal.returns
returns c = record { one = one-item; not_both = not-both }
