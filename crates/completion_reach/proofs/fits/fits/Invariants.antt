use Rattle.std.proofs.Common.{◌≡◌, ◌-◌}
use Rattle.candidate_span.specs.Span.{span_in}
use Rattle.completion_reach.specs.Fits.{fits_from, fits_of}
use Rattle.completion_reach.proofs.fits.fits.Given as goal

abbrev pub invariant-loop : goal.invariant-loop
invariant-loop l = fits_from l.x.grid (span_in l.x.gap l.x.padding l.x.span l.silences) l.limit (l.pieces - l.counter) l.at ≡ fits_of l.x.grid (span_in l.x.gap l.x.padding l.x.span l.silences) l.limit l.pieces
