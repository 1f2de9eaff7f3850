-- Document 01's number for each fault of a job.
use Rattle.std.specs.Prelude.{ℕ}
use Rattle.job.specs.declared.answer.Fault.{Fault}
use Rattle.job.specs.declared.answer.Fault.TheVariants.{TooLong, UnknownBit, UnknownKind, CutShort, TooManyFrames, BytesAfter}

-- 19: over 8,192 bytes, an unknown bit or kind, cut short, over 511 frames, followed by bytes
abbrev pub fault_number : Fault → ℕ
fault_number TooLong = 19
fault_number UnknownBit = 19
fault_number UnknownKind = 19
fault_number CutShort = 19
fault_number TooManyFrames = 19
fault_number BytesAfter = 19
