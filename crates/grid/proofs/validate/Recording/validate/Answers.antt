-- `Recording::validate` is the chain: each end has passed the tests before it.
use mathlib.Core.Path.{sym, ap, ◌∙◌}
use Rattle.grid.specs.Validate.{length_ok}
use Rattle.grid.specs.ValidateLaws.{passed_bounded, fails_rate, fails_channels, fails_frames, fails_lists, fails_values, fails_length, passes}
use Rattle.grid.proofs.validate.Recording.validate.Goals as goal

pub returns-then-not-rate_ok : goal.returns-then-not-rate_ok
returns-then-not-rate_ok c =
    fails_rate _ _ _ _
    (sym c.rate_ok.ensures ∙ c.if-not-rate_ok.true)

pub returns-then-not-channels_ok : goal.returns-then-not-channels_ok
returns-then-not-channels_ok c =
    fails_channels _ _ _ _
    (sym c.rate_ok.ensures ∙ c.if-not-rate_ok.false)
    (sym c.channels_ok.ensures ∙ c.if-not-channels_ok.true)

pub returns-then-not-frames_ok : goal.returns-then-not-frames_ok
returns-then-not-frames_ok c =
    fails_frames _ _ _ _
    (sym c.rate_ok.ensures ∙ c.if-not-rate_ok.false)
    (sym c.channels_ok.ensures ∙ c.if-not-channels_ok.false)
    (sym c.frames_ok.ensures ∙ c.if-not-frames_ok.true)

pub returns-then-not-lists_ok : goal.returns-then-not-lists_ok
returns-then-not-lists_ok c =
    fails_lists _ _ _ _
    (sym c.rate_ok.ensures ∙ c.if-not-rate_ok.false)
    (sym c.channels_ok.ensures ∙ c.if-not-channels_ok.false)
    (sym c.frames_ok.ensures ∙ c.if-not-frames_ok.false)
    (sym c.lists_ok.ensures ∙ c.if-not-lists_ok.true)

pub returns-then-not-values_ok : goal.returns-then-not-values_ok
returns-then-not-values_ok c =
    fails_values _ _ _ _
    (sym c.rate_ok.ensures ∙ c.if-not-rate_ok.false)
    (sym c.channels_ok.ensures ∙ c.if-not-channels_ok.false)
    (sym c.frames_ok.ensures ∙ c.if-not-frames_ok.false)
    (sym c.lists_ok.ensures ∙ c.if-not-lists_ok.false)
    (sym c.values_ok.ensures ∙ c.if-not-values_ok.true)

pub length_ok-requires : goal.length_ok-requires
length_ok-requires c =
    rw c.grid.ensures
    (passed_bounded c.args.self c.args.readings.now.values.now c.args.readings.now.flags.now c.args.readings.now.levels.now
    (sym c.rate_ok.ensures ∙ c.if-not-rate_ok.false)
    (sym c.frames_ok.ensures ∙ c.if-not-frames_ok.false)
    (sym c.lists_ok.ensures ∙ c.if-not-lists_ok.false))

pub returns-then-not-length_ok : goal.returns-then-not-length_ok
returns-then-not-length_ok c =
    fails_length _ _ _ _
    (sym c.rate_ok.ensures ∙ c.if-not-rate_ok.false)
    (sym c.channels_ok.ensures ∙ c.if-not-channels_ok.false)
    (sym c.frames_ok.ensures ∙ c.if-not-frames_ok.false)
    (sym c.lists_ok.ensures ∙ c.if-not-lists_ok.false)
    (sym c.values_ok.ensures ∙ c.if-not-values_ok.false)
    (sym (ap length_ok c.grid.ensures) ∙ sym c.length_ok.ensures ∙ c.if-not-length_ok.true)

pub returns : goal.returns
returns c =
    passes _ _ _ _
    (record {
      rate = sym c.rate_ok.ensures ∙ c.if-not-rate_ok.false;
      channels = sym c.channels_ok.ensures ∙ c.if-not-channels_ok.false;
      frames = sym c.frames_ok.ensures ∙ c.if-not-frames_ok.false;
      lists = sym c.lists_ok.ensures ∙ c.if-not-lists_ok.false;
      within = sym c.values_ok.ensures ∙ c.if-not-values_ok.false;
      length = sym (ap length_ok c.grid.ensures) ∙ sym c.length_ok.ensures ∙ c.if-not-length_ok.false;
    })
