-- The conversion itself where the numbers are within their limits, and the marker elsewhere.
use mathlib.Core.Path.{sym, ◌∙◌}
use Rattle.capi.specs.GridLaws.{frames_args_lem}
use Rattle.capi.proofs.convert.buchawzer_frames_ceil.Goals as goal

pub returns-else-frames_args : goal.returns-else-frames_args
returns-else-frames_args c = rw (← c.frames_args.ensures, c.if-frames_args.false)

pub frames_ceil-requires : goal.frames_ceil-requires
frames_ceil-requires c = frames_args_lem _ _ _ (sym c.frames_args.ensures ∙ c.if-frames_args.true)

pub returns-then-frames_args : goal.returns-then-frames_args
returns-then-frames_args c = rw (← c.frames_args.ensures, c.if-frames_args.true) c.frames_ceil.ensures
