-- What holds at each turn of the loops of `charge`.
use Rattle.contingent_charge.proofs.ChargeLemmas.{SoFar}
use Rattle.contingent_charge.proofs.charging.charge.Given as goal

abbrev pub invariant-loop-piece : goal.invariant-loop-piece
invariant-loop-piece l = SoFar l.pieces l.nav l.day l.schedule l.piece-index l.before l.so_far
