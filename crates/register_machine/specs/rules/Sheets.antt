-- Refusals 12, 13 and 18: the sheet isn't the expected one, its list isn't complete, or its moment is to come.
use Rattle.std.specs.Prelude.{None, Option, Some}
use Rattle.agent_events.specs.declared.reply.Refusal.{Refusal}
use Rattle.agent_events.specs.declared.request.Request.{Request}
use Rattle.forward_price.specs.Turns.{publish_fault}
use Rattle.forward_price.specs.declared.price_sheet.PublishFault.{PublishFault}
use Rattle.register_machine.specs.rules.Situations.{Situation}
use Rattle.forward_price.specs.declared.price_sheet.PublishFault.TheVariants as publish_fault

abbrev pub sheet_fault : Situation → Request → Option PublishFault
sheet_fault situation (Request.Sheet form) =
    publish_fault situation.book.table form.calendar form.moment form.prices situation.now
sheet_fault situation _ = None

abbrev pub out_of_turn : Option PublishFault → Option Refusal
out_of_turn (Some (publish_fault.SheetOutOfTurn moment calendar)) = Some (Refusal.SheetOutOfTurn moment calendar)
out_of_turn _ = None

abbrev pub incomplete : Option PublishFault → Option Refusal
incomplete (Some (publish_fault.SheetIncomplete class)) = Some (Refusal.SheetIncomplete class)
incomplete _ = None

abbrev pub too_soon : Option PublishFault → Option Refusal
too_soon (Some (publish_fault.TooSoon moment)) = Some (Refusal.TooSoon moment)
too_soon _ = None
