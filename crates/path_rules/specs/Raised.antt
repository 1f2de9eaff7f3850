-- Document 02's S-12 "a longer limit", said of two paths over the same candidates: the one before the limit was raised, and the one after.
use Rattle.std.specs.Prelude.{List, ℕ, T, Float}
use Rattle.path_pieces.specs.Pieces.{with_limit, at_most}
use Rattle.path_pieces.specs.declared.lengths.Lengths.{Lengths}
use Rattle.path_rules.specs.Paths.{path_score}

-- "no worse a path": the score after raising the limit from `low` to `high` is at most the score before; each path's over-long pieces are counted against its own limit
abbrev pub NoWorsePath : Lengths → ℕ → ℕ → List ℕ → List ℕ → List Float → List ℕ → List ℕ → Type 0
NoWorsePath l low high left right cut before after =
    T (at_most (path_score (with_limit l high) left right cut after) (path_score (with_limit l low) left right cut before))
