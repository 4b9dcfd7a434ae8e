-- The proof of the law `corrected_prices_leave_others`.
use Rattle.std.proofs.Common.{[], map, refl, ◌∷◌}
use Rattle.std.proofs.lemmas.List.{take-map}
use Rattle.register_laws.proofs.CorrectionReach.{leaves-part, price-replay}
use Rattle.register_laws.proofs.household_laws.corrected_prices_leave_others.Goals as goal
use Rattle.register_laws.specs.CorrectionReach.{book_with_price}
use Rattle.register_laws.specs.Households.{own_book}
use Rattle.register_machine.specs.pricing.CorrectedPrices.{sheet_as_corrected}

pub returns : goal.returns
returns c book form household nowhere =
    leaves-part book (book_with_price form book) household (map (sheet_as_corrected (form ∷ []))) refl refl
    (λ number. take-map (sheet_as_corrected (form ∷ [])) number book.table.sheets)
    (price-replay form (own_book household book) nowhere)
