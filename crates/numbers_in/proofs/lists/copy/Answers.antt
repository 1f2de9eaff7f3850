-- One place after another of the first n; the list has as many places.
use Rattle.std.proofs.Common.{ℕ, ◌+◌, ◌*◌, refl, ◌∙◌, arith, rules, take, length-set, length-take-le}
use Rattle.numbers_in.specs.NumbersLaws.{copied_start, copied_next, copied_done, copied_whole}
use Rattle.numbers_in.proofs.lists.copy.Goals as goal

pub loop-i-init : goal.loop-i-init
loop-i-init g c = (refl, refl, copied_start (λ (j : ℕ). g.T.Number.read c.args.s.now (c.args.at + g.T.Number.SIZE * j)) (take c.args.n c.args.list.now))

pub loop-i-preserved : goal.loop-i-preserved
loop-i-preserved g c = (
  refl,
  length-set c.loop-i.x-items c.loop-i.i c.at.result ∙ c.loop-i.invariant.1,
  copied_next (λ (j : ℕ). g.T.Number.read c.args.s.now (c.args.at + g.T.Number.SIZE * j)) (take c.args.n c.args.list.now) c.loop-i.x-items c.loop-i.i c.at.result c.loop-i-test.true c.loop-i.invariant.2 (search rules),
)

pub returns : goal.returns
returns g c =
    let n = length-take-le c.args.n c.args.list.now c.requires.list_in_bounds in
    copied_whole (λ (j : ℕ). g.T.Number.read c.args.s.now (c.args.at + g.T.Number.SIZE * j)) c.args.list.now c.loop-i.x-items c.args.n c.requires.list_in_bounds
    (copied_done (λ (j : ℕ). g.T.Number.read c.args.s.now (c.args.at + g.T.Number.SIZE * j)) (take c.args.n c.args.list.now) c.loop-i.x-items c.loop-i.i c.args.n (omega (arith, n, c.loop-i.auto.i-end)) (omega (arith, n, c.loop-i-test.false)) c.loop-i.invariant.2)
