-- Document 01's "span", which "lies between its two ends, which the Rust takes from the frames, silences and settings".
-- `ends_of` and `span_of` are what contracts cite; that the ends are in order is in SpanLaws. n is the frame count, ss the list of silences.
use Rattle.std.specs.Prelude.{ℕ, ◌+◌, ◌-◌, min, Bool, ◌&&◌, ◌||◌, cond, List, Option, Some, None, eqb, ltb}
use Rattle.plan_settings.specs.declared.config.Gap.{Gap}
use Rattle.plan_settings.specs.declared.config.Gap.TheVariants.{Keep, Drop}
use Rattle.candidate_span.specs.declared.ends.SpanEnds.{SpanEnds}
use Rattle.candidate_span.specs.declared.padding.Padding.{Padding}
use Rattle.candidate_span.specs.declared.held.HeldSpan.{HeldSpan}
use Rattle.candidate_span.specs.Listed.{silence_count, start_at, end_at}
use Rattle.candidate_span.specs.Gaps.{Cut, gaps_of}

-- the first silence starts with the recording
unfoldable pub is_leading : List ℕ → Bool
is_leading ss = ltb 0 (silence_count ss) && eqb (start_at ss 0) 0

-- the last silence ends with the recording
unfoldable pub is_trailing : ℕ → List ℕ → Bool
is_trailing n ss = ltb 0 (silence_count ss) && eqb (end_at ss (silence_count ss - 1)) n

-- silence all through: the first silence is the whole recording
unfoldable pub all_silent : ℕ → List ℕ → Bool
all_silent n ss = is_leading ss && eqb (end_at ss 0) n

-- document 01: "No frames, or dropped gaps with silence all through: the span is empty"
unfoldable pub empty_span : Gap → ℕ → List ℕ → Bool
empty_span Keep n ss = eqb n 0
empty_span Drop n ss = eqb n 0 || all_silent n ss

-- the span's first boundary: with gaps dropped, padding before the first sound is kept of a leading silence
unfoldable pub first_of : Gap → Padding → List ℕ → ℕ
first_of Keep p ss = 0
first_of Drop p ss = cond (is_leading ss) (end_at ss 0 - p.pre) 0

-- the span's last boundary: with gaps dropped, padding after the last sound is kept of a trailing silence
unfoldable pub last_of : Gap → Padding → List ℕ → ℕ
last_of Keep p ss = p.frames
last_of Drop p ss = cond (is_trailing p.frames ss) (min (start_at ss (silence_count ss - 1) + p.tail) p.frames) p.frames

-- the two ends of the span, or none where it is empty
unfoldable pub ends_of : Gap → Padding → List ℕ → Option SpanEnds
ends_of gap p ss = cond (empty_span gap p.frames ss) None (Some record { first = first_of gap p ss; last = last_of gap p ss })

-- document 01's "span": it lies between its two ends, and the dropped gaps lie in it
pub record Span : Type 0 where
  pub first : ℕ
  pub gaps : List Cut
  pub last : ℕ

-- the span between two ends that are held as numbers, with the gaps that are dropped
abbrev pub span_in : Gap → Padding → HeldSpan → List ℕ → Span
span_in gap p h ss = record { first = h.first; gaps = gaps_of gap p ss; last = h.last }

-- document 01's "span" of a recording: its ends follow from the silences
abbrev pub span_of : Gap → Padding → List ℕ → Span
span_of gap p ss = span_in gap p record { silences = silence_count ss; first = first_of gap p ss; last = last_of gap p ss } ss
