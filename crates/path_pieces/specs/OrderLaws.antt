-- The derived order of scores, and of candidates with their scores: `<` and `<=` test as the definitions do, and so does `==` of scores.
use Rattle.std.specs.Prelude.{◌≡◌, ltb, eqb, Option, Some}
use Rattle.std.proofs.Common.{inl, inr, refl}
use Rattle.std.specs.Float.Ieee.{lt, eq, le}
use Rattle.std.specs.declared.cmp.Ordering.{Ordering}
use Rattle.std.specs.Ordering.{nat_cmp, float_partial_cmp, partial_ordering_then, partial_lt, partial_le}
use Rattle.base_laws.specs.Tests.{tested}
use Rattle.path_pieces.specs.Pieces.{at_most, less_than, equal_to}
use Rattle.path_pieces.specs.Least.{ahead_of}
use Rattle.path_pieces.specs.declared.score.Score.{Score}
use Rattle.path_pieces.specs.declared.best.Best.{Best}
use Rattle.path_pieces.specs.contracts.score.ScorePartialEq.TheImpl as equality
use Rattle.path_pieces.specs.contracts.score.ScorePartialOrd.TheImpl as order
use Rattle.path_pieces.specs.contracts.best.BestPartialOrd.TheImpl as best_order

-- how two scores compare: by the pieces over the limit, then by the cost
abbrev pub score_cmp : Score → Score → Option Ordering
score_cmp a b = partial_ordering_then (Some (nat_cmp a.over b.over)) (float_partial_cmp a.cost b.cost)

-- how two candidates compare: by their scores, then by their indices
abbrev pub best_cmp : Best → Best → Option Ordering
best_cmp a b = partial_ordering_then (score_cmp a.score b.score) (Some (nat_cmp a.at b.at))

-- `<` says which score is better
pub score_less : (a b : Score) → partial_lt score_cmp a b ≡ less_than a b
score_less a b = elim (tested (ltb a.over b.over)) [
  | inl l ↦ rw l
  | inr g ↦ elim (tested (eqb a.over b.over)) [
    | inr n ↦ rw (g, n)
    | inl e ↦ elim (tested (lt a.cost b.cost)) [
      | inl t ↦ rw (g, e, t)
      | inr f ↦ elim (tested (eq a.cost b.cost)) [
        | inl q ↦ rw (g, e, f, q)
        | inr u ↦ elim (tested (lt b.cost a.cost)) [ inl v ↦ rw (g, e, f, u, v) | inr v ↦ rw (g, e, f, u, v) ]
      ]
    ]
  ]
]

-- `<=` says which is as good
pub score_at_most : (a b : Score) → partial_le score_cmp a b ≡ at_most a b
unfolding le
score_at_most a b = elim (tested (ltb a.over b.over)) [
  | inl l ↦ rw l
  | inr g ↦ elim (tested (eqb a.over b.over)) [
    | inr n ↦ rw (g, n)
    | inl e ↦ elim (tested (lt a.cost b.cost)) [
      | inl t ↦ rw (g, e, t)
      | inr f ↦ elim (tested (eq a.cost b.cost)) [
        | inl q ↦ rw (g, e, f, q)
        | inr u ↦ elim (tested (lt b.cost a.cost)) [ inl v ↦ rw (g, e, f, u, v) | inr v ↦ rw (g, e, f, u, v) ]
      ]
    ]
  ]
]

-- `score_cmp` is what `Score` derives
pub score_ordered : (a b : Score) → order.ghosts.partial_cmp a b ≡ score_cmp a b
score_ordered a b = refl

-- `best_cmp` is what `Best` derives
pub best_ordered : (a b : Best) → best_order.ghosts.partial_cmp a b ≡ best_cmp a b
best_ordered a b = refl

-- `==`, which is derived, says which are equally good
pub score_equal : (a b : Score) → equality.ghosts.eq a b ≡ equal_to a b
score_equal a b = refl

-- `<` says which candidate comes first
pub best_ahead : (a b : Best) → partial_lt best_cmp a b ≡ ahead_of a b
unfolding ahead_of
best_ahead a b =
    let x = a.score in
    let y = b.score in
    elim (tested (ltb x.over y.over)) [
      | inl l ↦ rw l
      | inr g ↦ elim (tested (eqb x.over y.over)) [
        | inr n ↦ rw (g, n)
        | inl e ↦ elim (tested (lt x.cost y.cost)) [
          | inl t ↦ rw (g, e, t)
          | inr f ↦ elim (tested (eq x.cost y.cost)) [
            | inl q ↦ elim (tested (ltb a.at b.at)) [
              | inl v ↦ rw (g, e, f, q, v)
              | inr v ↦ elim (tested (eqb a.at b.at)) [ inl w ↦ rw (g, e, f, q, v, w) | inr w ↦ rw (g, e, f, q, v, w) ]
            ]
            | inr u ↦ elim (tested (lt y.cost x.cost)) [ inl v ↦ rw (g, e, f, u, v) | inr v ↦ rw (g, e, f, u, v) ]
          ]
        ]
      ]
    ]
