-- `one_pass::next_frame` goes by its test.
use borrow.Author.Tests.{lt-ltb, le-ltb}
use native.Mathlib.Numerals.{add-one}
use Rattle.silence_runs.proofs.one_pass.next_frame.Goals as goal

pub returns-then-i-frames : goal.returns-then-i-frames
returns-then-i-frames c = rw (lt-ltb c.args.i c.args.frames c.if-i-frames.true, add-one)

pub returns-else-i-frames : goal.returns-else-i-frames
returns-else-i-frames c = rw (le-ltb c.args.i c.args.frames c.if-i-frames.false)
