-- An end for each test.
use Rattle.std.proofs.Common.{rules}
use mathlib.Core.Path.{ap, ◌∙◌}
use Prim.Native.Nat.{ℕ, ◌+◌}
use Rattle.job.specs.JobLaws.{cut_in_numbers, too_many_frames, cut_in_lists, bytes_after, all_read}
use Rattle.job.proofs.read.fit.Goals as goal

pub returns-then-len-head : goal.returns-then-len-head
returns-then-len-head c = c.refused.ensures ∙ cut_in_numbers c.args.len c.args.head c.if-len-head.true

pub returns-then-head-gt-MOST_FRAMES : goal.returns-then-head-gt-MOST_FRAMES
returns-then-head-gt-MOST_FRAMES c =
    c.refused-then-head-gt-MOST_FRAMES.ensures ∙ too_many_frames c.args.len c.args.head c.if-len-head.false c.if-head-gt-MOST_FRAMES.true

pub returns-then-len-end : goal.returns-then-len-end
returns-then-len-end c =
    c.refused-then-len-end.ensures ∙ cut_in_lists c.args.len c.args.head c.if-len-head.false c.if-head-gt-MOST_FRAMES.false _
    (ap (λ (n : ℕ). c.args.head.lists + n) c.lists_size.ensures.value) c.if-len-end.true

pub returns-then-end-len : goal.returns-then-end-len
returns-then-end-len c = search (
  rules,
  bytes_after c.args.len c.args.head c.if-len-head.false c.if-head-gt-MOST_FRAMES.false _
      (ap (λ (n : ℕ). c.args.head.lists + n) c.lists_size.ensures.value) c.if-len-end.false c.if-end-len.true,
)

pub returns : goal.returns
returns c =
    all_read c.args.len c.args.head c.if-len-head.false c.if-head-gt-MOST_FRAMES.false _
    (ap (λ (n : ℕ). c.args.head.lists + n) c.lists_size.ensures.value) c.if-len-end.false c.if-end-len.false
