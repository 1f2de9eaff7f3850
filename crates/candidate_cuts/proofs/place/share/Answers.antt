-- `place::share`: the ratio is a number, the width is exact as a float, and their product is not negative and small.
use Rattle.std.proofs.Common.{rules}
use Rattle.std.proofs.Common.{arith}
use Prim.Native.Nat.{◌^◌}
use mathlib.Core.Bool.{not}
use lib.Dec.{T, le→leb}
use lib.Ieee.{is_nan, in_float}
use Rattle.candidate_cuts.specs.Place.{share_of}
use Rattle.candidate_cuts.specs.ShareLaws.{ratio_number, product-nonneg, product_small}
use Rattle.candidate_cuts.proofs.place.share.Goals as goal

pub float_to_float-ratio : goal.float_to_float-ratio
float_to_float-ratio c =
    let h : T (not (is_nan c.args.ratio)) = ratio_number c.args.ratio c.args.frames c.requires.ratio_is_score c.requires.frames_le_max_frames in
    search rules

pub int_to_float-frames : goal.int_to_float-frames
unfolding in_float
int_to_float-frames c = le→leb c.args.frames (2 ^ 53) (omega (arith, c.requires.frames_le_max_frames))

pub round_half_away-requires : goal.round_half_away-requires
round_half_away-requires c = record { low = product-nonneg c.args.ratio c.args.frames c.requires.ratio_is_score c.requires.frames_le_max_frames; high = product_small c.args.ratio c.args.frames c.requires.ratio_is_score c.requires.frames_le_max_frames }

pub returns : goal.returns
unfolding share_of
returns c = search rules
