-- Each read says how it goes on, and brings the list's end nearer.
use Rattle.std.proofs.Common.{◌≡◌, ◌<◌, Ok, arith, rules}
use Rattle.input_reader.specs.InputLaws.{nothing_read, read_full, read_ended, read_failed, read_more}
use Rattle.input_reader.proofs.input.read_to_end.Goals as goal

pub loop-done-init : goal.loop-done-init
loop-done-init g c = nothing_read c.args.buf.now

pub loop-done-preserved : goal.loop-done-preserved
loop-done-preserved g c =
    let some : 0 < c.in-Ok.more = omega arith in
    read_more c.loop-done.invariant c.read_behind.ensures c.in-Ok.is some

pub returns-in-Ok-eq0 : goal.returns-in-Ok-eq0
returns-in-Ok-eq0 g c =
    let end : c.read_behind.result ≡ Ok 0 = search rules in
    read_ended c.loop-done.invariant c.read_behind.ensures end

pub returns-in-Err : goal.returns-in-Err
returns-in-Err g c = read_failed c.loop-done.invariant c.read_behind.ensures c.in-Err.error c.in-Err.is

pub returns : goal.returns
returns g c = read_full c.loop-done.invariant c.loop-done-test.false
