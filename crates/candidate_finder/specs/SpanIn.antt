-- Document 01: "Span, dropped gaps, kept frames and their boundaries follow from recording and settings, before any path is sought."
use Rattle.std.specs.Prelude.{ℕ, Bool, List, Float, length}
use Rattle.grid.specs.Validate.{grid_of}
use Rattle.grid.specs.declared.validate.Recording.{Recording}
use Rattle.silence_list.specs.Silences.{silences_in}
use Rattle.silence_list.specs.declared.config.SegmentConfig.{SegmentConfig}
use Rattle.plan_settings.specs.declared.config.PlanConfig.{PlanConfig}
use Rattle.candidate_span.specs.Spacing.{spacing_of}
use Rattle.candidate_span.specs.Span.{empty_span, first_of, last_of}
use Rattle.candidate_span.specs.declared.padding.Padding.{Padding}
use Rattle.candidate_span.specs.declared.spacing.Spacing.{Spacing}
use Rattle.candidate_span.specs.Gaps.{Cut, gaps_of}
use Rattle.candidate_span.specs.Kept.{kept_frames, kept_boundaries}
use Rattle.candidate_points.specs.Blocked.{is_blocked}

-- block, padding and edge limit, for so many frames
abbrev pub spacing_in : Recording → SegmentConfig → PlanConfig → ℕ → Spacing
spacing_in r segment settings frames = spacing_of (grid_of r frames) segment.pre segment.tail settings.min settings.max

-- how many frames there are, and how much silence is kept beside sound
abbrev pub padding_in : Recording → SegmentConfig → PlanConfig → ℕ → Padding
padding_in r segment settings frames =
    let kept = (spacing_in r segment settings frames).padding in record { frames = frames; pre = kept.pre; tail = kept.tail }

-- document 01: "the span is empty"
abbrev pub empty_in : Recording → SegmentConfig → PlanConfig → List Float → List ℕ → Bool
empty_in r segment settings values flags = empty_span settings.gap (length values) (silences_in r segment values flags)

-- the span's first boundary
abbrev pub first_in : Recording → SegmentConfig → PlanConfig → List Float → List ℕ → ℕ
first_in r segment settings values flags = first_of settings.gap (padding_in r segment settings (length values)) (silences_in r segment values flags)

-- its last
abbrev pub last_in : Recording → SegmentConfig → PlanConfig → List Float → List ℕ → ℕ
last_in r segment settings values flags = last_of settings.gap (padding_in r segment settings (length values)) (silences_in r segment values flags)

-- document 01's "dropped gaps"
abbrev pub gaps_in : Recording → SegmentConfig → PlanConfig → List Float → List ℕ → List Cut
gaps_in r segment settings values flags = gaps_of settings.gap (padding_in r segment settings (length values)) (silences_in r segment values flags)

-- document 01's "kept frames"
abbrev pub kept_frames_in : Recording → SegmentConfig → PlanConfig → List Float → List ℕ → ℕ
kept_frames_in r segment settings values flags = kept_frames (first_in r segment settings values flags) (gaps_in r segment settings values flags) (last_in r segment settings values flags)

-- document 01's "kept frame boundaries"
abbrev pub kept_boundaries_in : Recording → SegmentConfig → PlanConfig → List Float → List ℕ → List ℕ
kept_boundaries_in r segment settings values flags = kept_boundaries (first_in r segment settings values flags) (gaps_in r segment settings values flags) (last_in r segment settings values flags)

-- the boundaries at which no grid point may stand
abbrev pub blocked_in : Recording → SegmentConfig → PlanConfig → List Float → List ℕ → ℕ → Bool
blocked_in r segment settings values flags = is_blocked settings.gap (grid_of r (length values)) (spacing_in r segment settings (length values)) (silences_in r segment values flags)
