-- `backward::none_better` asks for the score of a piece that is long.
use Rattle.std.proofs.Common.{arith}
use Rattle.path_by_length_search.proofs.backward.none_better.Goals as goal

pub with_long_piece-requires : goal.with_long_piece-requires
with_long_piece-requires c = record { over_le_max_index = omega arith; len_le_max_len = c.requires.len_le_max_len; not_short = c.requires.not_short }
