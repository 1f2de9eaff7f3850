-- `records::write_records`: a turn writes one more record; the two ends are those of `records_end_of`.
use Rattle.std.proofs.Common.{◌≡◌, ◌<◌, ◌/◌, length, arith, refl, sym}
use Rattle.plan_records.specs.RecordsLaws.{up_to-none, up_to_next, records_written, records_refused}
use Rattle.plan_records.proofs.records.write_records.Goals as goal

pub returns-then-records-count : goal.returns-then-records-count
returns-then-records-count g c = records_refused g.R.Record.made_of c.args.numbers.now c.args.records.now c.if-records-count.true

pub loop-i-init : goal.loop-i-init
loop-i-init g c = record {
  counted = refl;
  room = c.if-records-count.false;
  written = sym (up_to-none g.R.Record.made_of c.args.numbers.now c.args.records.now);
}

pub loop-i-preserved : goal.loop-i-preserved
loop-i-preserved g c =
    let lt : c.loop-i.i < length c.args.records.now = omega arith in
    record {
      counted = c.loop-i.invariant.counted;
      room = c.loop-i.invariant.room;
      written = rw (c.record_at.ensures, c.loop-i.invariant.written) (up_to_next g.R.Record.made_of c.args.numbers.now c.args.records.now c.loop-i.i lt);
    }

pub returns : goal.returns
returns g c =
    let end = c.loop-i.invariant in
    let last : c.loop-i.i ≡ length c.args.numbers.now / 3 = omega arith in
    rw (end.written, last) (records_written g.R.Record.made_of c.args.numbers.now c.args.records.now c.if-records-count.false)
