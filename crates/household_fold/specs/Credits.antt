-- What one position adds to the credit of an account.
use Rattle.forward_price.specs.declared.price_sheet.Sheet.{Sheet}
use Rattle.offering_price.specs.Accumulation.{worth}
use Rattle.register_machine.specs.pricing.CorrectedBook.{Book}
use Rattle.register_machine.specs.replay.Positions.{Position}
use Rattle.register_machine.specs.replay.Purchase.{is_counted, worth_on}
use Rattle.std.specs.Prelude.{Option, if◌then◌else◌, ℕ}

-- its worth, where it is of the account's household and in a class that counts
abbrev pub position_credit : Book → Sheet → Option ℕ → Position → ℕ
position_credit book sheet household position =
    if is_counted book household position then worth (worth_on book sheet position) else 0
