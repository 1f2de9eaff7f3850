-- What holds of a recording's span that is not empty: its gaps lie strictly inside with a frame at least between them, it ends within the frames, and it keeps a frame.
use Rattle.std.specs.Prelude.{List, ℕ, ◌≤◌}
use Rattle.plan_settings.specs.declared.config.Gap.{Gap}
use Rattle.candidate_span.specs.declared.padding.Padding.{Padding}
use Rattle.candidate_span.specs.SpanLaws.{Spanned, ends_order}
use Rattle.candidate_span.specs.Gaps.{Spread}
use Rattle.candidate_span.specs.GapsLaws.{gaps_spread}
use Rattle.candidate_span.specs.KeptLaws.{kept_some}
use Rattle.candidate_span.specs.Span.{span_of}
use Rattle.division.specs.Division.{kept_in}

module _ (gap : Gap) (p : Padding) (ss : List ℕ) (some : Spanned gap p.frames ss) where
  -- its gaps lie strictly inside, with a frame at least between them
  pub span_spread : Spread (span_of gap p ss).first (span_of gap p ss).gaps (span_of gap p ss).last
  span_spread = gaps_spread gap p ss some

  -- it ends within the frames
  pub span-within : (span_of gap p ss).last ≤ p.frames
  span-within = (ends_order gap p ss some).1

  -- it keeps a frame
  pub span_kept : 1 ≤ kept_in (span_of gap p ss)
  span_kept = kept_some gap p ss some
