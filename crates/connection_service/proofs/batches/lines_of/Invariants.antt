-- the lines of the replies so far
use Rattle.std.proofs.Common.{flat_map, take, ◌≡◌}
use Rattle.connection_service.proofs.batches.lines_of.Given as goal
use Rattle.register_machine.specs.run.Scripts.{reply_line}

abbrev pub invariant-loop-reply : goal.invariant-loop-reply
invariant-loop-reply l = l.lines.items ≡ flat_map reply_line (take l.reply-index l.replies)
