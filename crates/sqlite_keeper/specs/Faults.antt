-- Which fault of a keeper a refusal of the database is.
use Rattle.agent_keeper.specs.declared.fault.KeepFault.{KeepFault}
use Rattle.agent_keeper.specs.declared.fault.KeepFault.TheVariants.{Failed, NoMemory}
use Rattle.sqlite.specs.declared.error.Error.{Error}
use Rattle.sqlite.specs.declared.error.Error.TheVariants.{SqliteFailure}
use Rattle.sqlite.specs.declared.error.ErrorCode.TheVariants.{OutOfMemory}

-- want of memory is told as such, and every other refusal is a fault of the store
abbrev pub fault_of : Error → KeepFault
fault_of (SqliteFailure OutOfMemory) = NoMemory
fault_of _ = Failed
