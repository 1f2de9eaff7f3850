-- The conversion itself where the numbers are within their limits, and the marker elsewhere.
use lib.Ieee.{of_bits, neg}
use Rattle.capi.proofs.convert.buchawzer_frame_secs.Goals as goal

pub returns-else-frames_args : goal.returns-else-frames_args
unfolding of_bits neg
returns-else-frames_args c = rw (← c.frames_args.ensures, c.if-frames_args.false)

pub returns-then-frames_args : goal.returns-then-frames_args
returns-then-frames_args c = rw (← c.frames_args.ensures, c.if-frames_args.true) c.frame_secs.ensures
