-- The steps make the cuts of the greedy division; marks stand behind the silences, which stay as they are while code walks on.
use Rattle.std.specs.Prelude.{◌≡◌, refl, Bool, true, false, cond, eqb, take, set}
use Rattle.std.proofs.Common.{sym, subst, ◌∙◌, length-set}
use Rattle.std.proofs.Math.Path.{ap}
use mathlib.Core.List.{List}
use Prim.Native.Nat.{ℕ, suc, ◌+◌, ◌-◌, ◌*◌, ◌≤◌, ◌<◌}
use native.Mathlib.Omega.{arith}
use Rattle.std.proofs.Math.ListN.{length}
use Rattle.std.proofs.lemmas.List.{take-set-le}
use Rattle.candidate_span.specs.Gaps.{Cut}
use Rattle.candidate_span.specs.GapsLaws.{spread_ends}
use Rattle.candidate_span.specs.Span.{Span, span_in}
use Rattle.division.specs.Division.{Place}
use Rattle.division.specs.PlacesLaws.{place_inside}
use Rattle.division.specs.GreedyLaws.{MayBegin, start_first, start_right}
use Rattle.completion_reach.specs.declared.ground.Ground.{Ground}
use Rattle.completion_reach.specs.declared.next.Next.{Next}
use Rattle.completion_reach.specs.declared.next.Next.TheVariants.{Whole, Stuck, To}
use Rattle.completion_reach.specs.GroundLaws.{Founded}
use Rattle.completion_reach.specs.Next.{next_cut_of}
use Rattle.completion_reach.specs.declared.place.HeldCut.{HeldCut}
use Rattle.completion_reach.specs.Place.{cut_held}
use Rattle.completion_reach.specs.NextLaws.{Stepped, next_stepped}
use Rattle.completion_reach.specs.Cuts.{cutting, greedy_cuts_from, cuts_of, mark_cut, marking}

-- silences in front, marks behind them, and room for one at each boundary of the span
pub record MarkRoom (x : Ground) (base : ℕ) (work : List ℕ) : Type 0 where
  pub founded : Founded x (take (2 * x.span.silences) work)
  pub held : 2 * x.span.silences ≤ length work
  pub apart : 2 * x.span.silences ≤ base
  pub room : base + x.span.last ≤ length work

-- ---- one mark

-- the list keeps its length
pub mark_length : (base : ℕ) (k : Cut) (work : List ℕ) → length (mark_cut base k work) ≡ length work
mark_length base k work = go (eqb k.left k.right)
  where
    go : (b : Bool) → length (cond b (set work (base + k.left) 1) work) ≡ length work
    go true = length-set work (base + k.left) 1
    go false = refl

-- what stands before the marks stays
pub mark_stays : (base n : ℕ) (k : Cut) (work : List ℕ) → n ≤ base → take n (mark_cut base k work) ≡ take n work
mark_stays base n k work h = go (eqb k.left k.right)
  where
    go : (b : Bool) → take n (cond b (set work (base + k.left) 1) work) ≡ take n work
    go true = take-set-le n work (base + k.left) 1 (omega arith)
    go false = refl

-- ---- the walk

-- a piece may start at boundary a of the span
pub record MayStart (s : Span) (a : ℕ) : Type 0 where
  pub from : s.first ≤ a
  pub to : a < s.last
  pub start : MayBegin s a

-- from boundary a, with n pieces left, the walk still marks what the whole does
pub record MarkedUpTo (x : Ground) (base pieces limit : ℕ) (work₀ : List ℕ) (a n : ℕ) (work : List ℕ) : Type 0 where
  pub stands : MayStart (span_in x.gap x.padding x.span (take (2 * x.span.silences) work₀)) a
  pub same : take (2 * x.span.silences) work ≡ take (2 * x.span.silences) work₀
  pub size : length work ≡ length work₀
  pub ahead : marking base (greedy_cuts_from x.grid (span_in x.gap x.padding x.span (take (2 * x.span.silences) work₀)) limit n a) work
      ≡ marking base (cuts_of x.grid (span_in x.gap x.padding x.span (take (2 * x.span.silences) work₀)) limit pieces) work₀

module _ (x : Ground) (base pieces limit : ℕ) (work₀ : List ℕ) (room : MarkRoom x base work₀) where
  abbrev span : Span
  span = span_in x.gap x.padding x.span (take (2 * x.span.silences) work₀)

  -- before the first step all marks are ahead
  pub walking_start : MarkedUpTo x base pieces limit work₀ x.span.first pieces work₀
  walking_start =
      record {
        stands = record {
          from = omega arith;
          to = spread_ends span.first span.gaps span.last room.founded.spread;
          start = start_first x.grid room.founded.accepted span room.founded.spread;
        };
        same = refl;
        size = refl;
        ahead = refl;
      }

  module _ (a n : ℕ) (work : List ℕ) (w : MarkedUpTo x base pieces limit work₀ a n work) where
    -- no piece is left
    pub walking_none : n ≤ 0 → work ≡ marking base (cuts_of x.grid span limit pieces) work₀
    unfolding greedy_cuts_from marking
    walking_none h =
        let e : n ≡ 0 = omega arith in
        ap (λ (m : ℕ). marking base (greedy_cuts_from x.grid span limit m a) work) (sym e) ∙ w.ahead

    module _ (some : 0 < n) (next : Next) (is : next ≡ next_cut_of x.grid (span_in x.gap x.padding x.span (take (2 * x.span.silences) work)) limit a) where
      step : next ≡ next_cut_of x.grid span limit a
      step = is ∙ ap (λ (ss : List ℕ). next_cut_of x.grid (span_in x.gap x.padding x.span ss) limit a) w.same

      more : greedy_cuts_from x.grid span limit n a ≡ cutting next (greedy_cuts_from x.grid span limit (n - 1))
      unfolding greedy_cuts_from
      more =
          let e : n ≡ suc (n - 1) = omega arith in
          ap (λ (m : ℕ). greedy_cuts_from x.grid span limit m a) e ∙ ap (λ (t : Next). cutting t (greedy_cuts_from x.grid span limit (n - 1))) (sym step)

      -- the rest is one piece
      pub walking_whole : next ≡ Whole → work ≡ marking base (cuts_of x.grid span limit pieces) work₀
      unfolding marking
      walking_whole e = ap (λ (ks : List Cut). marking base ks work) (sym (more ∙ ap (λ (t : Next). cutting t (greedy_cuts_from x.grid span limit (n - 1))) e)) ∙ w.ahead

      -- no place is within the limit
      pub walking_stuck : next ≡ Stuck → work ≡ marking base (cuts_of x.grid span limit pieces) work₀
      unfolding marking
      walking_stuck e = ap (λ (ks : List Cut). marking base ks work) (sym (more ∙ ap (λ (t : Next). cutting t (greedy_cuts_from x.grid span limit (n - 1))) e)) ∙ w.ahead

      module _ (c : HeldCut) (e : next ≡ To c) where
        place : Place span (cut_held c)
        place =
            (subst (Stepped x.grid span limit a) (sym step ∙ e)
            (next_stepped x.grid room.founded.accepted span room.founded.spread limit a w.stands.from w.stands.to w.stands.start)).1.place

        inside : (span.first < c.left) × (c.left ≤ c.right) × (c.right < span.last)
        inside = place_inside span room.founded.spread (cut_held c) place

        -- a step to a cut: there is room for its mark
        pub walking_room : base + c.left < length work
        walking_room = omega (arith, inside.1, inside.2, room.room, w.size)

        -- and with it the marks from its right end on are ahead
        pub walking_to : (work' : List ℕ) → work' ≡ mark_cut base (cut_held c) work → MarkedUpTo x base pieces limit work₀ c.right (n - 1) work'
        unfolding marking
        walking_to work' q =
            record {
              stands = record {
                from = omega (arith, inside.0, inside.1);
                to = inside.2;
                start = start_right x.grid room.founded.accepted span room.founded.spread (cut_held c) place;
              };
              same = ap (take (2 * x.span.silences)) q ∙ mark_stays base (2 * x.span.silences) (cut_held c) work room.apart ∙ w.same;
              size = ap length q ∙ mark_length base (cut_held c) work ∙ w.size;
              ahead =
                  ap (marking base (greedy_cuts_from x.grid span limit (n - 1) c.right)) q
                  ∙ ap (λ (ks : List Cut). marking base ks work) (sym (more ∙ ap (λ (t : Next). cutting t (greedy_cuts_from x.grid span limit (n - 1))) e)) ∙ w.ahead;
            }
