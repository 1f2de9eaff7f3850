-- One number after another.
use Rattle.std.proofs.lemmas.Result.{err_from_is_err_and}
use Rattle.std.proofs.Common.{◌≡◌, ◌+◌, arith}
use Rattle.job.specs.Recorded.{recorded_at}
use Rattle.job.specs.ReadsLaws.{same_then}
use Rattle.job.proofs.recording.recorded_at.Goals as goal

pub returns-in_err-kind-clause-read : goal.returns-in_err-kind-clause-read
unfolding recorded_at
returns-in_err-kind-clause-read c =
    let domain : c.args.fields.now.at + 22 ≡ c.next-5.new.self.at = omega arith in
    let same = same_then c.next.ensures.same (same_then c.next-2.ensures.same (same_then c.next-3.ensures.same (same_then c.next-4.ensures.same c.next-5.ensures.same))) in
    let p = err_from_is_err_and c.from_residual.result c.from_residual.ensures.1 in
    let kind = c.in_err-kind.ensures.read in
    rw (p.1, p.2) (rw (domain, ← same.same_bytes, kind.0), same_then same kind.1, kind.2)

pub returns-clause-read : goal.returns-clause-read
unfolding recorded_at
returns-clause-read c =
    let start = c.args.fields.now.at in
    let kind = c.in_ok-kind.ensures.read in
    let channels : c.next.new.self.at ≡ start + 4 = omega arith in
    let frame_rate : c.next-2.new.self.at ≡ start + 6 = omega arith in
    let hop : c.next-3.new.self.at ≡ start + 10 = omega arith in
    let len : c.next-4.new.self.at ≡ start + 14 = omega arith in
    let domain : start + 22 ≡ c.next-5.new.self.at = omega arith in
    let frames : c.kind.new.self.at ≡ start + 23 = omega (arith, c.in_ok-kind.ensures.next_value) in
    let end : c.next-6.new.self.at ≡ start + 27 = omega (arith, c.in_ok-kind.ensures.next_value) in
    let first = c.next.ensures.same in
    let second = same_then first c.next-2.ensures.same in
    let third = same_then second c.next-3.ensures.same in
    let fourth = same_then third c.next-4.ensures.same in
    let fifth = same_then fourth c.next-5.ensures.same in
    let sixth = same_then fifth kind.1 in (
      rw (
        c.next.ensures.value,
        c.next-2.ensures.value,
        c.next-3.ensures.value,
        c.next-4.ensures.value,
        c.next-5.ensures.value,
        c.next-6.ensures.value,
        c.domain_of.ensures,
        end,
        frames,
        len,
        hop,
        frame_rate,
        channels,
        sixth.same_bytes,
        fourth.same_bytes,
        third.same_bytes,
        second.same_bytes,
        first.same_bytes,
        domain,
        ← fifth.same_bytes,
        kind.0,
      ),
      same_then sixth c.next-6.ensures.same,
    )
