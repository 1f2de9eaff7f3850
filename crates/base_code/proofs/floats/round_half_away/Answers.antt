-- x + x is exact and below 2^53; half of its whole part plus one is x rounded.
use Rattle.std.proofs.Common.{ℕ, ◌+◌, ◌/◌, true, false, T, pos, ap, ◌∙◌, arith}
use lib.Ieee.{Float, fin, binary64, add, lt, le}
use Rattle.base_laws.specs.Tests.{holds}
use Rattle.base_terms.specs.Floats.{nought, nonneg}
use Rattle.base_laws.specs.Order.{float_lt-le, float_lt-le_trans, float_le-lt_trans}
use Rattle.base_laws.specs.Sums.{float_add-nonneg, float_add_mono}
use Rattle.base_code.specs.RoundLaws.{doubled}
use Rattle.base_code.proofs.floats.round_half_away.Goals as goal

-- the double of a value from 0 up to 2^52 lies between −1 and 2^64
low : (x : Float) → T (nonneg x) → T (lt (fin true 1 (pos 0)) (add binary64 x x))
low x n = float_lt-le_trans (fin true 1 (pos 0)) nought (add binary64 x x) (unfold lt in tt) (float_add-nonneg binary64 x x n n)

high : (x : Float) → T (nonneg x) → T (lt x (fin false 1 (pos 52))) → T (lt (add binary64 x x) (fin false 1 (pos 64)))
high x n t =
    let l : T (le x (fin false 1 (pos 52))) = float_lt-le x (fin false 1 (pos 52)) t in
    float_le-lt_trans (add binary64 x x) (add binary64 (fin false 1 (pos 52)) (fin false 1 (pos 52))) (fin false 1 (pos 64))
    (float_add_mono binary64 x (fin false 1 (pos 52)) x (fin false 1 (pos 52)) n n l l) (unfold lt add in tt)

pub truncating_f64_to_u64-requires : goal.truncating_f64_to_u64-requires
truncating_f64_to_u64-requires c = record { lower_bound = low c.args.x c.requires.low; upper_bound = high c.args.x c.requires.low c.requires.high }

pub overflow_add-result : goal.overflow_add-result
overflow_add-result c =
    let d = doubled c.args.x (holds c.well_formed.0.1) c.requires.low c.requires.high in
    omega (arith, d.within, c.truncating_f64_to_u64.ensures)

pub returns : goal.returns
returns c =
    let d = doubled c.args.x (holds c.well_formed.0.1) c.requires.low c.requires.high in
    ap (λ (n : ℕ). (n + 1) / 2) c.truncating_f64_to_u64.ensures ∙ d.rounds
