-- The published sheets with their corrected prices: the last correction of a class at a moment gives its net asset value.
use Rattle.std.specs.Option.{option_map_or}
use Rattle.std.specs.Prelude.{Bool, List, ℕ, ◌&&◌, ◌==◌, map}
use Rattle.agent_events.specs.declared.request.FixPriceForm.{FixPriceForm}
use Rattle.forward_price.specs.PriceTables.{Table, with_prices, with_sheets}
use Rattle.forward_price.specs.declared.price_sheet.Sheet.{Sheet}
use Rattle.register_machine.specs.journal.Choices.{last_of}
use Rattle.register_machine.specs.journal.Journals.{Journal}
use Rattle.register_machine.specs.journal.Kinds.{each_in, price_fix_in}

-- the last correction of a class at a moment gives its price
abbrev pub fixes_price : ℕ → ℕ → FixPriceForm → Bool
fixes_price class moment form = form.class == class && form.moment == moment

abbrev pub price_as_corrected : List FixPriceForm → ℕ → ℕ × ℕ → ℕ × ℕ
price_as_corrected fixes moment price =
    (price.0, option_map_or (λ form. form.nav) (last_of (fixes_price price.0 moment) fixes) price.1)

abbrev pub sheet_as_corrected : List FixPriceForm → Sheet → Sheet
sheet_as_corrected fixes sheet = with_prices sheet (map (price_as_corrected fixes sheet.moment) sheet.prices)

-- the price table with all corrections of the journal
abbrev pub table_as_corrected : Journal → Table → Table
table_as_corrected journal table =
    with_sheets table (map (sheet_as_corrected (each_in price_fix_in journal)) table.sheets)
