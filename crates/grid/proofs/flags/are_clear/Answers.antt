-- The words are laid over each other and tested together, then the bytes that fill none one by one.
use Rattle.std.proofs.Common.{rules, ◌≡◌, ◌/◌, length}
use Rattle.std.specs.List.{fold}
use Rattle.std.specs.Simd.{first_chunks}
use Rattle.grid.specs.Words.{is_clear}
use Rattle.grid.specs.FlagsLaws.{laid, overlaid}
use Rattle.grid.proofs.flags.are_clear.Goals as goal

pub returns : goal.returns
returns c =
    let seen : c.fold-seen.result ≡ fold laid 0 (first_chunks 8 (length c.args.bytes.now / 8) c.args.bytes.now) = search rules in
    let rest = c.every.ensures (is_clear c.args.mask) (λ x r k. search rules) in
    rw (c.is_clear.ensures, rest, seen, c.as_chunks.ensures.back) (overlaid c.args.mask c.ranges.mask.fits c.args.bytes.now (λ i. (c.type_inv.bytes i).fits))
