-- Weights that are present take 48 bytes, one number behind another.
use Rattle.std.proofs.Common.{◌≡◌, ◌+◌, arith}
use Rattle.job.specs.Settings.{weights_in, weights_at}
use Rattle.job.specs.ReadsLaws.{same_job, same_then}
use Rattle.job.proofs.settings.weights_at.Goals as goal

pub returns-then-not-has-clause-read : goal.returns-then-not-has-clause-read
unfolding weights_at
returns-then-not-has-clause-read c = record { part_is = rw (← c.has.ensures, c.if-not-has.true, c.default_weights.ensures); same = same_job }

pub returns-clause-read : goal.returns-clause-read
unfolding weights_at weights_in
returns-clause-read c =
    let start = c.args.fields.now.at in
    let level : c.next.new.self.at ≡ start + 8 = omega arith in
    let pause : c.next-2.new.self.at ≡ start + 16 = omega arith in
    let reference : c.next-3.new.self.at ≡ start + 24 = omega arith in
    let target : c.next-4.new.self.at ≡ start + 32 = omega arith in
    let short : c.next-5.new.self.at ≡ start + 40 = omega arith in
    let end : c.next-6.new.self.at ≡ start + 48 = omega arith in
    let first = c.next.ensures.same in
    let second = same_then first c.next-2.ensures.same in
    let third = same_then second c.next-3.ensures.same in
    let fourth = same_then third c.next-4.ensures.same in
    let fifth = same_then fourth c.next-5.ensures.same in
    record {
      part_is = rw (
        ← c.has.ensures,
        c.if-not-has.false,
        c.next.ensures.value,
        c.next-2.ensures.value,
        c.next-3.ensures.value,
        c.next-4.ensures.value,
        c.next-5.ensures.value,
        c.next-6.ensures.value,
        end,
        short,
        target,
        reference,
        pause,
        level,
        fifth.same_bytes,
        fourth.same_bytes,
        third.same_bytes,
        second.same_bytes,
        first.same_bytes,
      );
      same = same_then fifth c.next-6.ensures.same;
    }
