-- That `ZoneText::as_str` keeps its contract.
use Rattle.agent_events.proofs.ZoneTexts.{zone_is_text}
use Rattle.agent_events.proofs.texts.ZoneText.as_str.Goals as goal

pub unreachable-requires : goal.unreachable-requires
unreachable-requires c = c.in-Err.ensures.cases.0 (zone_is_text c.as_slice.result.now c.as_slice.ensures.form)
