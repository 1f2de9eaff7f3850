-- Each share has a frame at least, so the boundaries between shares rise, and the gaps that were passed for one share are passed for the next.
use Rattle.std.specs.Prelude.{◌≡◌, refl, List, ℕ, suc, ◌+◌, ◌-◌, ◌*◌, ◌/◌, ◌≤◌, ◌<◌, take}
use Rattle.std.proofs.Common.{sym, ◌∙◌, mul-le-mul}
use Rattle.std.proofs.Math.Path.{ap, subst}
use native.Mathlib.Omega.{arith}
use Rattle.std.proofs.Math.ListN.{length}
use Rattle.grid.specs.Limits.{max_frames}
use Rattle.candidate_span.specs.Gaps.{Cut, gaps_of, dropped}
use Rattle.candidate_span.specs.Kept.{kept_frames}
use Rattle.candidate_span.specs.KeptLaws.{dropped_less}
use Rattle.candidate_span.specs.Span.{Span, span_in}
use Rattle.division.specs.Division.{kept_in, Place}
use Rattle.division.specs.PlacesLaws.{place_inside}
use Rattle.division.specs.Shares.{frames_before, place_after, shares_from, shares_of}
use Rattle.division.specs.SharesLaws.{share_some, share_less, share_first, share_place}
use Rattle.completion_reach.specs.declared.ground.Ground.{Ground}
use Rattle.completion_reach.specs.declared.place.HeldCut.{HeldCut}
use Rattle.completion.specs.declared.shares.Passed.{Passed}
use Rattle.completion.specs.declared.shares.Share.{Share}
use Rattle.completion_reach.specs.Place.{place_at, held_cut}
use Rattle.completion_reach.specs.Cuts.{mark_cut, marking}
use Rattle.completion.specs.CutsLaws.{MarkRoom, mark_length, mark_stays}
use Rattle.completion.specs.Counted.{Counting, Counted}
use Rattle.completion.specs.Shares.{Partable, Parted, Sharable}
use Rattle.completion.specs.CountedLaws.{after_moved, place_of, counting_start, counting_later}

-- the cut where `pass` has come to
pub parted : (x : Ground) (ss : List ℕ) (at : ℕ) (passed : Passed) → Counted x.gap x.padding ss at passed
    → (c : HeldCut) → c ≡ held_cut (place_at (gaps_of x.gap x.padding ss) (at + passed.removed)) → Parted x ss at (record { cut = c; passed = passed })
parted x ss at passed q c e =
    record { cut_is = e ∙ ap (λ (k : ℕ). held_cut (place_at (gaps_of x.gap x.padding ss) k)) (sym q.here); counting = q.counting }

-- the cuts from share i on are still to be marked
pub record Sharing (x : Ground) (base pieces : ℕ) (work₀ : List ℕ) (i : ℕ) (passed : Passed) (work : List ℕ) : Type 0 where
  pub some : 1 ≤ i
  pub same : take (2 * x.span.silences) work ≡ take (2 * x.span.silences) work₀
  pub size : length work ≡ length work₀
  pub counting : Counting x.gap x.padding (take (2 * x.span.silences) work₀)
      (x.span.first + frames_before (kept_in (span_in x.gap x.padding x.span (take (2 * x.span.silences) work₀))) pieces i) passed
  pub ahead : marking base (shares_from (span_in x.gap x.padding x.span (take (2 * x.span.silences) work₀)) pieces i (pieces - i)) work
      ≡ marking base (shares_of (span_in x.gap x.padding x.span (take (2 * x.span.silences) work₀)) pieces) work₀

module _ (x : Ground) (base frames pieces : ℕ) (work₀ : List ℕ) (room : MarkRoom x base work₀) (fit : Sharable x frames pieces (take (2 * x.span.silences) work₀)) where
  abbrev silences : List ℕ
  silences = take (2 * x.span.silences) work₀

  abbrev span : Span
  span = span_in x.gap x.padding x.span (take (2 * x.span.silences) work₀)

  -- before the first share nothing is passed, and all cuts are ahead
  pub sharing_start : Sharing x base pieces work₀ 1 (record { silences = 0; removed = 0 }) work₀
  sharing_start =
      record {
        some = omega arith;
        same = refl;
        size = refl;
        counting = counting_start x.gap x.padding silences (x.span.first + frames_before (kept_in span) pieces 1);
        ahead = refl;
      }

  -- the span's frames are those kept and those dropped
  span-frames : x.span.first + kept_in span + dropped span.gaps ≡ x.span.last
  unfolding kept_frames
  span-frames = omega (arith, dropped_less span.first span.gaps span.last room.founded.spread)

  module _ (i : ℕ) (passed : Passed) (work : List ℕ) (w : Sharing x base pieces work₀ i passed work) where
    -- after the last share all cuts are marked
    pub sharing_done : pieces ≤ i → work ≡ marking base (shares_of span pieces) work₀
    unfolding marking
    sharing_done h =
        let e : 0 ≡ pieces - i = omega arith in
        ap (λ (n : ℕ). marking base (shares_from span pieces i n) work) e ∙ w.ahead

    module _ (more : i < pieces) where
      most : pieces ≤ kept_in span
      most = omega (arith, fit.kept, fit.fit)

      less : frames_before (kept_in span) pieces i < kept_in span
      less = share_less (kept_in span) pieces i (omega (arith, more)) most more

      -- the kept frames are within the most frames
      pub frames_few : frames ≤ max_frames
      frames_few = omega (arith, fit.kept, span-frames, fit.few)

      -- so the product by which code tells the frames before a share stays small
      pub product_few : i * frames ≤ max_frames * max_frames
      product_few =
          let h : i ≤ max_frames = omega (arith, more, fit.fit, frames_few) in
          mul-le-mul {n₂ = max_frames} h frames_few

      -- its quotient is the number of frames before the cut after share i
      pub share_at : i * frames / pieces ≡ frames_before (kept_in span) pieces i
      share_at = ap (λ (n : ℕ). i * n / pieces) fit.kept

      -- and its boundary, moved on by all gaps, is within the most frames
      pub share_room : x.span.first + frames_before (kept_in span) pieces i + dropped span.gaps ≤ max_frames
      share_room = omega (arith, less, span-frames, fit.few)

      -- what the share's cut is asked with
      pub share_requires : Partable x (take (2 * x.span.silences) work) (x.span.first + i * frames / pieces) passed
      share_requires =
          subst (λ (ss : List ℕ). Partable x ss (x.span.first + i * frames / pieces) passed) (sym w.same)
          (subst (λ (n : ℕ). Partable x silences (x.span.first + n) passed) (sym share_at)
          (record { listed = room.founded.listed; counting = w.counting; room = share_room }))

      -- and answered
      pub share_parted : (r : Share) → Parted x (take (2 * x.span.silences) work) (x.span.first + i * frames / pieces) r → Parted x silences (x.span.first + frames_before (kept_in span) pieces i) r
      share_parted r q =
          subst (λ (ss : List ℕ). Parted x ss (x.span.first + frames_before (kept_in span) pieces i) r) w.same
          (subst (λ (n : ℕ). Parted x (take (2 * x.span.silences) work) (x.span.first + n) r) share_at q)

      place : Place span (place_after span (frames_before (kept_in span) pieces i))
      place = share_place span room.founded.spread pieces (omega (arith, more)) most i (omega (arith, w.some)) more

      -- the cut that code makes is that of the share
      cut_of : (r : Share) → Parted x silences (x.span.first + frames_before (kept_in span) pieces i) r → r.cut ≡ held_cut (place_after span (frames_before (kept_in span) pieces i))
      cut_of r q =
          q.cut_is
          ∙ ap (λ (k : ℕ). held_cut (place_at span.gaps k))
          (sym (after_moved span room.founded.spread (frames_before (kept_in span) pieces i) (share_first span room.founded.spread pieces (omega (arith, more)) most i (omega (arith, w.some))) less))
          ∙ ap held_cut (place_of span room.founded.spread (place_after span (frames_before (kept_in span) pieces i)) place)

      module _ (r : Share) (q : Parted x silences (x.span.first + frames_before (kept_in span) pieces i) r) where
        left_is : r.cut.left ≡ (place_after span (frames_before (kept_in span) pieces i)).left
        left_is = ap (λ (c : HeldCut). c.left) (cut_of r q)

        -- there is room for the mark of the share's cut
        pub sharing_room : base + r.cut.left < length work
        sharing_room =
            let o = place_inside span room.founded.spread (place_after span (frames_before (kept_in span) pieces i)) place in
            omega (arith, left_is, o.1, o.2, room.room, w.size)

        -- and with it the cuts from the next share on are ahead
        pub sharing_next : (work' : List ℕ) → work' ≡ mark_cut base (record { left = r.cut.left; right = r.cut.right }) work
            → Sharing x base pieces work₀ (i + 1) r.passed work'
        unfolding marking
        sharing_next work' e =
            record {
              some = omega (arith, w.some);
              same = ap (take (2 * x.span.silences)) is ∙ mark_stays base (2 * x.span.silences) here work room.apart ∙ w.same;
              size = ap length is ∙ mark_length base here work ∙ w.size;
              counting = subst (λ (j : ℕ). Counting x.gap x.padding silences (x.span.first + frames_before (kept_in span) pieces j) r.passed) one
                  (counting_later x.gap x.padding silences (x.span.first + frames_before (kept_in span) pieces i) (x.span.first + frames_before (kept_in span) pieces (suc i)) r.passed
                  (omega (arith, share_some (kept_in span) pieces i (omega (arith, more)) most)) q.counting);
              ahead = ap (marking base (shares_from span pieces (i + 1) (pieces - (i + 1)))) is ∙ step ∙ w.ahead;
            }
          where
            here : Cut
            here = place_after span (frames_before (kept_in span) pieces i)

            is : work' ≡ mark_cut base here work
            is = e ∙ ap (λ (c : HeldCut). mark_cut base (record { left = c.left; right = c.right }) work) (cut_of r q)

            one : suc i ≡ i + 1
            one = omega arith

            left : suc (pieces - (i + 1)) ≡ pieces - i
            left = omega (arith, more)

            step : marking base (shares_from span pieces (i + 1) (pieces - (i + 1))) (mark_cut base here work) ≡ marking base (shares_from span pieces i (pieces - i)) work
            step = ap (λ (j : ℕ). marking base (shares_from span pieces j (pieces - (i + 1))) (mark_cut base here work)) (sym one)
                ∙ ap (λ (n : ℕ). marking base (shares_from span pieces i n) work) left
