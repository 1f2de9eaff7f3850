-- `ending::first_ending`: ends rise, so the silences that end before the boundary stand in front.
use Rattle.std.proofs.Common.{rules}
use Rattle.std.proofs.lemmas.List.Sorted.{IsPartitionPoint-from_clause}
use Rattle.candidate_span.specs.EndingLaws.{ends_before, ends_parted, ends_first}
use Rattle.candidate_span.proofs.ending.first_ending.Goals as goal

pub returns : goal.returns
returns c =
    ends_first c.args.silences.now c.args.k _ c.as_chunks.ensures.front c.as_chunks.ensures.front_len _ c.partition_point.ensures.bound
    (IsPartitionPoint-from_clause (ends_before c.args.k) _ _ c.partition_point.ensures.partitioned
    (ends_parted c.args.silences.now c.args.k _ c.as_chunks.ensures.front c.as_chunks.ensures.front_len c.requires) (λ a r f' k'. search rules))
