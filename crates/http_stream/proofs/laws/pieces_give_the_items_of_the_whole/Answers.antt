-- The proof of the law `pieces_give_the_items_of_the_whole`.
use Rattle.http_stream.proofs.ItemLaws.{pieces-whole, one-list}
use Rattle.http_stream.proofs.laws.pieces_give_the_items_of_the_whole.Goals as goal

pub returns : goal.returns
returns c = record { whole = pieces-whole; only = one-list }
