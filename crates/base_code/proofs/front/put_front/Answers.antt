-- One element after another is copied.
use Rattle.std.specs.Prelude.{◌+◌, length, slice_set}
use Rattle.std.proofs.Common.{sym, subst}
use Rattle.base_code.specs.Copying.{Copying, copying_next, copying_done}
use Rattle.base_code.proofs.front.put_front.Goals as goal

pub loop-i-preserved : goal.loop-i-preserved
loop-i-preserved g c =
    subst (λ (x : g.row.T.Denot). Copying c.args.list.now c.args.out.now (length c.args.list.now) (slice_set c.loop-i.out c.loop-i.i x) (c.loop-i.i + 1))
    (sym c.index-list-i.is) (copying_next _ _ _ _ _ c.loop-i.invariant c.index-list-i.result c.loop-i-test.true)

pub returns : goal.returns
returns g c = copying_done _ _ _ _ _ c.loop-i.invariant c.loop-i-test.false
