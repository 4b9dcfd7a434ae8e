-- The proof of the law `corrected_rates_leave_others`.
use Rattle.std.proofs.Common.{refl}
use Rattle.register_laws.proofs.CorrectionReach.{leaves-part, rate-replay}
use Rattle.register_laws.proofs.household_laws.corrected_rates_leave_others.Goals as goal
use Rattle.register_laws.specs.CorrectionReach.{book_with_rate}
use Rattle.register_laws.specs.Households.{own_book}

pub returns : goal.returns
returns c book form household nowhere =
    leaves-part book (book_with_rate form book) household (λ sheets. sheets) refl refl (λ number. refl)
    (rate-replay form (own_book household book) nowhere)
