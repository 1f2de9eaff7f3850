-- What the port wrote to the front of its list is the listing.
use Rattle.std.proofs.Common.{arith}
use Prim.Native.Nat.{ℕ}
use lib.ListN.{replicate, length-replicate}
use Rattle.cutplan.specs.CutplanLaws.{printed-front}
use Rattle.answers_jobs.proofs.record.agrees.Goals as goal

pub returns : goal.returns
returns c =
    rw (← printed-front c.args.job.now (replicate 53702 0) _ _ (omega (arith, length-replicate {A = ℕ} 53702 0)) c.plan_job-n.ensures.out_after) c.eq.ensures
