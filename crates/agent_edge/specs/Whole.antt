-- Reading to the end.
use Rattle.std.specs.Prelude.{◌≡◌, ℕ, Result, Ok, Err}
use Rattle.agent_edge.specs.Counts.{Rose}
use Rattle.agent_edge.specs.declared.whole.ReadFault.{ReadFault}
use Rattle.agent_edge.specs.declared.whole.ReadFault.TheVariants.{Fault, NoMemory, TooLong}

-- the count of faults rose where a read failed, and nothing else raised it
abbrev pub CountsFault : {T : Type 0} → Result T ReadFault → ℕ → ℕ → Type 0
CountsFault (Ok bytes) before after = after ≡ before
CountsFault (Err Fault) before after = Rose before after
CountsFault (Err NoMemory) before after = after ≡ before
CountsFault (Err TooLong) before after = after ≡ before
