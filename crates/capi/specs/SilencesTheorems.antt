-- What the number of the exported operation "silence list" means: 0 exactly where the list was made, which is then the recording's silences.
use Rattle.std.specs.Prelude.{◌≡◌, ◌↔◌, List, Ok, ℕ, Float, length}
use Rattle.base_terms.specs.Work.{Work}
use Rattle.grid.specs.declared.validate.Recording.{Recording}
use Rattle.silence_list.specs.Silences.{sounds_in, silence_list_of}
use Rattle.silence_list.specs.Theorems.{ListsSilences, silences-found, list_zero}
use Rattle.silence_list.specs.declared.config.SegmentConfig.{SegmentConfig}
use Rattle.capi.specs.Silences.{SilencesCalled, silences_called_of}

module _ (r : Recording) (c : SegmentConfig) (values : List Float) (flags : List ℕ) (levels : List Float) (out : List ℕ) (work : Work) (count : ℕ) where
  -- what a call leaves
  abbrev called : SilencesCalled
  called = silences_called_of (silence_list_of r c values flags levels out work) count

  -- 0 exactly where the list was made
  pub silences_called_zero : (called.number ≡ 0) ↔ ((n : ℕ) × ((silence_list_of r c values flags levels out work).answer ≡ Ok n))
  unfolding silences_called_of
  silences_called_zero = list_zero r c values flags levels out work

  -- then the list and its count, as C finds them, are the recording's silences
  pub silences_called_lem : called.number ≡ 0 → ListsSilences (length values) (sounds_in r c values flags) called.count called.out
  unfolding silences_called_of
  silences_called_lem z = let (n, e) = silences_called_zero.0 z in rw e (silences-found r c values flags levels out work n e)
