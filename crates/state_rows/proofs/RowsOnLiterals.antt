-- What an answer unfolds to compute rows of literals.
use Rattle.std.specs.Prelude.{⊤}
use Rattle.event_rows.specs.FieldReading.{items_at, list_at, number_at}
use Rattle.event_rows.specs.Readers.{day_at, flag_at, rate_at, sixteen_at}
use Rattle.event_rows.specs.Spelling.{eight_bytes, flag, four_bytes, list_bytes, sixteen_bytes, two_bytes}
use Rattle.state_rows.specs.Reading.{letter_at, lot_at, open_letter_at, position_at, state_at, versioned_at}
use Rattle.state_rows.specs.Rows.{letter, lot, open_letter, position, state_row}

unfoldable pub rows_on_literals : ⊤
unfolding items_at list_at number_at day_at flag_at rate_at sixteen_at eight_bytes flag four_bytes list_bytes sixteen_bytes two_bytes letter_at lot_at open_letter_at position_at state_at versioned_at letter lot open_letter position state_row
rows_on_literals = tt
