-- A refusal touches nothing; else the silences stand at the front of the first work list, which keeps its length, and are handed out.
use Rattle.std.proofs.Common.{arith, rules}
use mathlib.Core.Path.{◌≡◌, sym, ◌∙◌}
use lib.ListN.{length}
use Rattle.silence_list.specs.RefusalLaws.{fine_ready}
use Rattle.silence_list.specs.Silences.{silence_list_of}
use Rattle.silence_list.specs.SilencesLaws.{front_fits, list_front}
use Rattle.silence_list.proofs.list.silence_list.Goals as goal

pub returns-in_err-first_refusal : goal.returns-in_err-first_refusal
unfolding silence_list_of
returns-in_err-first_refusal c = search rules

pub silences_in-n-requires : goal.silences_in-n-requires
silences_in-n-requires c =
    let p = fine_ready _ _ _ _ _ _ _ _ (sym c.first_refusal.ensures ∙ c.in_ok-first_refusal.was) in
    record { sound_ready = p.0; values_in_bounds = omega (arith, p.1.enough32) }

pub hand_out-requires : goal.hand_out-requires
hand_out-requires c = omega (arith, front_fits _ _ _ c.silences_in-n.ensures.value c.silences_in-n.ensures.list_after)

pub returns : goal.returns
returns c =
    let same : length c.silences_in-n.new.list ≡ length c.args.work_u32.now = search rules in
    c.hand_out.ensures
    ∙ list_front _ _ _ _ _ _ _ c.silences_in-n.new.list c.silences_in-n.result same c.silences_in-n.ensures.list_after (search rules)
