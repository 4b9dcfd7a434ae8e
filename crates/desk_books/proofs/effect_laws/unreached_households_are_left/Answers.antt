-- The proof of the law `unreached_households_are_left`.
use Rattle.std.proofs.Common.{refl}
use Rattle.desk_books.proofs.UnreachedLeft.{left_by_kind}
use Rattle.desk_books.proofs.effect_laws.unreached_households_are_left.Goals as goal

-- What a corrected order changes is its account's; a corrected price or rate changes what names its class.
pub returns : goal.returns
returns c journal event households is reach reached household none =
    left_by_kind journal event households reach household none event.kind refl is reached
