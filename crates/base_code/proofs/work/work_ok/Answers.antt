-- A list has 16 entries for each of n exactly where a sixteenth of its length is n or more.
use Rattle.std.proofs.Common.{sym, ◌∙◌, le-leb}
use Rattle.std.proofs.lemmas.Bool.{lt-leb}
use Rattle.base_laws.specs.Tests.{unmet}
use Rattle.base_code.specs.WorkLaws.{by_sixteenths}
use Rattle.base_code.proofs.work.work_ok.Goals as goal
use Rattle.base_code.proofs.work.work_ok.Goals.{then-n-n32, else-n-n32}

pub returns-then-n-n64 : goal.returns-then-n-n64
returns-then-n-n64 c =
    elim c.if-n-n32.branch [
      | then-n-n32 w ↦ rw (← by_sixteenths c.args.n c.args.n32 c.args.n64 c.args.nf, le-leb _ _ w.if-n-n32.true, ← w.value-is, c.if-n-n64.true)
      | else-n-n32 w ↦ unmet (sym (lt-leb _ _ w.if-n-n32.false) ∙ sym w.value-is ∙ c.if-n-n64.true)
    ]

pub returns-else-n-n64 : goal.returns-else-n-n64
returns-else-n-n64 c =
    elim c.if-n-n32.branch [
      | then-n-n32 w ↦ rw (← by_sixteenths c.args.n c.args.n32 c.args.n64 c.args.nf, le-leb _ _ w.if-n-n32.true, ← w.value-is, c.if-n-n64.false)
      | else-n-n32 w ↦ rw (← by_sixteenths c.args.n c.args.n32 c.args.n64 c.args.nf, lt-leb _ _ w.if-n-n32.false, c.if-n-n64.false)
    ]
