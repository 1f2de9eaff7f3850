-- `put::put_text` lays the text over the list from the place on.
use Rattle.std.proofs.Common.{◌≡◌, ◌+◌, ◌-◌, ℕ, length, drop, refl, ap, ◌∙◌, arith, drop-drop, append_assoc}
use Rattle.std.proofs.lemmas.List.Edits.{sets-eq}
use Rattle.listing.proofs.put.put_text.Goals as goal

pub returns : goal.returns
returns c =
    let text = c.args.text.now in
    let out = c.args.out.now in
    let size : c.args.at + length text - c.args.at ≡ length text = omega arith in
    let rest : drop (length text) (drop c.args.at out) ≡ drop (c.args.at + length text) out = drop-drop (length text) c.args.at out ∙ ap (λ (k : ℕ). drop k out) (omega arith) in
    record { bytes = rw (c.copy_from_slice.ensures.after, sets-eq text out c.args.at c.requires.enough, size, rest, append_assoc); behind = refl }
