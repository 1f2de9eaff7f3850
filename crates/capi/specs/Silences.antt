-- What the exported operation "silence list" leaves: its number, and everything that was lent to be written.
use Rattle.std.specs.Prelude.{ℕ, List, Float}
use Rattle.base_terms.specs.Work.{Work}
use Rattle.kinds.specs.Numbered.{threshold_of}
use Rattle.silence_list.specs.Silences.{End, number_of}
use Rattle.silence_list.specs.declared.config.SegmentConfig.{SegmentConfig}
use Rattle.handed_back.specs.Silences.{count_after}

-- the segment settings, as C hands them over
abbrev pub segment_of : ℕ → Float → ℕ → ℕ → ℕ → ℕ → SegmentConfig
segment_of kind v min_silence min_sound pre tail =
    record { threshold = threshold_of kind v; min_silence = min_silence; min_sound = min_sound; pre = pre; tail = tail }

-- what a call leaves: its number, the number of silences, and every list that was lent to be written
pub record SilencesCalled : Type 0 where
  pub number : ℕ
  pub count : ℕ
  pub out : List ℕ
  pub work : Work

-- what a call leaves, from its parts
abbrev pub silences_called : ℕ → ℕ → List ℕ → Work → SilencesCalled
silences_called number count out work = record { number = number; count = count; out = out; work = work }

-- the operation's end, as C sees it; count is what stood there before
unfoldable pub silences_called_of : End → ℕ → SilencesCalled
silences_called_of e count = silences_called (number_of e.answer) (count_after e.answer count) e.out e.work
