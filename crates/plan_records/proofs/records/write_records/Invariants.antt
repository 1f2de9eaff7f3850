-- the list lent has the first i records written
use Rattle.std.proofs.Common.{◌≡◌, ◌/◌, ◌≤◌, length}
use Rattle.plan_records.specs.RecordsLaws.{records_up_to}
use Rattle.plan_records.proofs.records.write_records.Given as goal

abbrev pub invariant-loop-i : goal.invariant-loop-i
invariant-loop-i g l = record {
  counted : l.count ≡ length l.numbers / 3;
  room : l.count ≤ length l.fn.records;
  written : l.records ≡ records_up_to g.R.Record.made_of l.numbers l.fn.records l.i;
}
