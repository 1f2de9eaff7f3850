-- The path that is held, read back.
use Rattle.std.specs.Prelude.{◌≡◌, List, ℕ, take, drop}
use Rattle.std.proofs.Common.{ap, ◌∙◌}
use Rattle.base_terms.specs.Lists.{onto}
use Rattle.base_code.specs.FrontLaws.{onto-take}
use Rattle.path_pieces.specs.declared.score.Score.{Score}
use Rattle.path_rules.specs.declared.solved.Solved.{Solved}
use Rattle.plan_lists.specs.Within.{part_at}
use Rattle.plan_path.specs.Held.{PathHeld}

-- as many numbers as the answer says, from the path's place on, are the path
pub path_read : {search at : ℕ} {best : List ℕ} {score : Score} {work₀ work : List ℕ} {answer : Solved} → PathHeld search at best score work₀ work answer
    → part_at at answer.len work ≡ best
path_read {search} {at} {best} {score} {work₀} {work} {answer} h =
    ap (take answer.len) h.held ∙ ap (λ (n : ℕ). take n (onto best (drop at work₀))) h.count_is ∙ onto-take best (drop at work₀)
