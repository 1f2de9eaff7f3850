-- The parts of work memory that are lent to be written down as a plan are the candidates' positions and numbers, and the path.
use Rattle.std.specs.Prelude.{◌≡◌, List, ℕ, ◌+◌, ◌-◌, ◌*◌, ◌≤◌, ◌<◌, Float, length, take, drop}
use Rattle.std.proofs.Common.{arith, length-drop, length-take-le}
use Rattle.base_terms.specs.Layout.{rights_at, entries_at, path_at}
use Rattle.plan_pieces.specs.Along.{reasons_in, pieces_along_numbers, cuts_along_numbers}
use Rattle.plan_pieces.specs.Drawn.{Drawn}
use Rattle.plan_pieces.specs.Output.{Output, Handed, handed_out_of}
use Rattle.plan_lists.specs.Positions.{entries_in}
use Rattle.plan_path.specs.Search.{lefts_in, rights_in}
use Rattle.plan_steps.specs.Hand.{path_in, HandRoom}

-- as many left positions are lent as there are candidates
pub hand_left : (frames k len : ℕ) (work positions : List ℕ) → HandRoom frames k len work positions → length (lefts_in k positions) ≡ k
hand_left frames k len work positions h = length-take-le k positions (omega (arith, h.few, h.u64s))

module _ (frames k len : ℕ) (work positions : List ℕ) (h : HandRoom frames k len work positions) (rights entries path : ℕ)
    (rights-at : rights ≡ rights_at frames) (entries_start : entries ≡ entries_at frames) (path-at : path ≡ path_at frames)
  where
    -- the parts as they are lent
    abbrev right_part : List ℕ
    right_part = take (rights + k - rights) (drop rights positions)

    abbrev entries_part : List ℕ
    entries_part = take (entries + 3 * k - entries) (drop entries work)

    abbrev path_part : List ℕ
    path_part = take (path + len - path) (drop path work)

    right_is : right_part ≡ rights_in frames k positions
    right_is = let e : rights + k - rights ≡ k = omega arith in rw (e, rights-at)

    entries_is : entries_part ≡ entries_in frames k work
    entries_is = let e : entries + 3 * k - entries ≡ 3 * k = omega arith in rw (e, entries_start)

    path_is : path_part ≡ path_in frames len work
    path_is = let e : path + len - path ≡ len = omega arith in rw (e, path-at)

    path_long : length (path_in frames len work) ≡ len
    path_long = length-take-le len (drop (path_at frames) work) (rw length-drop (omega (arith, h.short, h.few, h.u32s)))

    left_long : length (lefts_in k positions) ≡ k
    left_long = hand_left frames k len work positions h

    -- the plan can be written down
    pub hand_asked : Drawn (lefts_in k positions) right_part path_part × ((3 * length (lefts_in k positions) ≤ length entries_part) × (0 < length path_part))
    hand_asked = (
      rw (right_is, path_is) h.drawn,
      (
        rw (entries_is, left_long, length-take-le (3 * k) (drop (entries_at frames) work) (rw length-drop (omega (arith, h.few, h.u32s)))) (omega arith),
        rw (path_is, path_long) h.some,
      ),
    )

    -- and what is written down is the plan of the candidates and the path that work memory holds
    pub hand_done : (least : Float) (most : ℕ) (out : Output) (now : Handed)
        → now ≡ handed_out_of (length path_part - 1) (pieces_along_numbers (lefts_in k positions) right_part least most path_part)
        (cuts_along_numbers (lefts_in k positions) right_part (reasons_in entries_part) path_part) out
        → now ≡ handed_out_of (len - 1) (pieces_along_numbers (lefts_in k positions) (rights_in frames k positions) least most (path_in frames len work))
        (cuts_along_numbers (lefts_in k positions) (rights_in frames k positions) (reasons_in (entries_in frames k work)) (path_in frames len work)) out
    hand_done least most out now e = rw (right_is, path_is, entries_is, path_long) at e
