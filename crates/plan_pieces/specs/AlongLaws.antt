-- Writing three numbers for each step of a path: what is written so far, and what the rest of the path still gives, make up the whole.
use Rattle.std.specs.Prelude.{◌≡◌, Bool, ℕ, zero, suc, ◌+◌, ◌-◌, ◌*◌, ◌≤◌, ◌<◌, Float, length, get_or, drop, set}
use Rattle.std.proofs.Math.Path.{refl, ap}
use Rattle.std.proofs.Common.{sym, subst, ◌∙◌, add-one, arith, length-append, length-set}
use mathlib.Core.List.{List, [], ◌∷◌, ◌++◌, append_assoc, append-nil}
use Rattle.std.proofs.Math.Seq.{drop-cons}
use Rattle.base_terms.specs.Limits.{max_len}
use Rattle.base_terms.specs.Lists.{onto}
use Rattle.base_code.specs.FrontLaws.{onto_nil, onto_next}
use Rattle.path_pieces.specs.Pieces.{piece_length}
use Rattle.plan_pieces.specs.Flags.{is_tail, flags_of}
use Rattle.plan_pieces.specs.Along.{piece_at, piece_numbers, piece_numbers_from, cut_numbers, reasons_in, cut_numbers_from, cuts_along_numbers, put_three}
use Rattle.plan_pieces.specs.Drawn.{Drawn}
use Rattle.plan_pieces.specs.declared.pieces.PieceEnds.{PieceEnds}

-- ---- steps of a path

module _ (left right : List ℕ) where
  -- from piece i on, the pieces are the one from there to the next candidate, and those from piece i + 1 on
  pub pieces_step : (least : Float) (most k : ℕ) (path : List ℕ) (i : ℕ) → suc i < length path → piece_numbers_from left right least most k i (drop i path)
      ≡ piece_numbers left right least most (is_tail k i) (get_or path i 0) (get_or path (suc i) 0) ++ piece_numbers_from left right least most k (suc i) (drop (suc i) path)
  unfolding piece_numbers_from
  pieces_step least most k path i h = rw (drop-cons path i 0 (omega (arith, h)), drop-cons path (suc i) 0 h)

  -- a path of one candidate, or none, has no piece
  pub pieces_none : (least : Float) (most k n : ℕ) (path : List ℕ) → length path ≤ 1 → piece_numbers_from left right least most k n path ≡ []
  unfolding piece_numbers_from
  pieces_none least most k n [] h = refl
  pieces_none least most k n (i ∷ []) h = refl
  pieces_none least most k n (i ∷ (j ∷ rest)) h = absurd (omega arith)

  -- from step i on, the cuts are the one at the candidate after it, and those from step i + 1 on
  pub cuts-step : (reasons path : List ℕ) (i : ℕ) → suc (suc i) < length path
      → cuts_along_numbers left right reasons (drop i path) ≡ cut_numbers left right reasons (get_or path (suc i) 0) ++ cuts_along_numbers left right reasons (drop (suc i) path)
  unfolding cuts_along_numbers cut_numbers_from
  cuts-step reasons path i h =
      rw (drop-cons path i 0 (omega (arith, h)), drop-cons path (suc i) 0 (omega (arith, h)), drop-cons path (suc (suc i)) 0 h)

  -- a path of one piece, or none, has no cut
  pub cuts-none : (reasons path : List ℕ) → length path ≤ 2 → cuts_along_numbers left right reasons path ≡ []
  unfolding cuts_along_numbers cut_numbers_from
  cuts-none reasons [] h = refl
  cuts-none reasons (i ∷ []) h = refl
  cuts-none reasons (i ∷ (j ∷ [])) h = refl
  cuts-none reasons (i ∷ (j ∷ (k ∷ rest))) h = absurd (omega arith)

-- ---- a piece as the code holds it

module _ (left right path : List ℕ) (d : Drawn left right path) (i : ℕ) (h : suc i < length path) (p : PieceEnds) (lies : p ≡ piece_at left right path i) where
  -- it ends where it starts or after
  pub piece_rises : p.start ≤ p.end
  piece_rises = subst (λ (q : PieceEnds). q.start ≤ q.end) (sym lies) (d.rises i h)

  -- its length is within the limit of lengths
  pub piece_small : p.end - p.start ≤ max_len
  piece_small = subst (λ (q : PieceEnds). q.end - q.start ≤ max_len) (sym lies) (omega (arith, d.bounded (suc i) h))

  -- with its flags it is what the path gives next
  pub piece_next : (least : Float) (most k : ℕ) (tail : Bool) (flags : ℕ) → tail ≡ is_tail k i → flags ≡ flags_of tail least most (p.end - p.start)
      → piece_numbers_from left right least most k i (drop i path)
      ≡ (p.start ∷ (p.end ∷ (flags ∷ []))) ++ piece_numbers_from left right least most k (suc i) (drop (suc i) path)
  unfolding piece_length
  piece_next least most k tail flags t e =
      pieces_step left right least most k path i h
      ∙ ap (λ (ns : List ℕ). ns ++ piece_numbers_from left right least most k (suc i) (drop (suc i) path))
      (sym (ap (λ (f : ℕ). p.start ∷ (p.end ∷ (f ∷ []))) e
      ∙ ap (λ (b : Bool). p.start ∷ (p.end ∷ (flags_of b least most (p.end - p.start) ∷ []))) t
      ∙ ap (λ (q : PieceEnds). q.start ∷ (q.end ∷ (flags_of (is_tail k i) least most (q.end - q.start) ∷ []))) lies))

-- ---- a cut as the code reads it

-- the reason of candidate j is the third of its three numbers
pub reason_at_lem : (entries : List ℕ) (j : ℕ) → 3 * suc j ≤ length entries → get_or (reasons_in entries) j 0 ≡ get_or entries (3 * j + 2) 0
unfolding reasons_in
reason_at_lem [] j h = absurd (omega arith)
reason_at_lem (l ∷ []) j h = absurd (omega arith)
reason_at_lem (l ∷ (r ∷ [])) j h = absurd (omega arith)
reason_at_lem (l ∷ (r ∷ (c ∷ rest))) zero h = refl
reason_at_lem (l ∷ (r ∷ (c ∷ rest))) (suc j) h =
    let e : 3 * suc j + 2 ≡ suc (suc (suc (3 * j + 2))) = omega arith in
    reason_at_lem rest j (omega arith) ∙ ap (λ (k : ℕ). get_or (l ∷ (r ∷ (c ∷ rest))) k 0) (sym e)

-- the cut at candidate j, by its two positions and that number, and then the others
pub cut_next : (left right entries path : List ℕ) → Drawn left right path → 3 * length left ≤ length entries
    → (i : ℕ) → suc (suc i) < length path → (j : ℕ) → j ≡ get_or path (suc i) 0
    → cuts_along_numbers left right (reasons_in entries) (drop i path)
    ≡ (get_or left j 0 ∷ (get_or right j 0 ∷ (get_or entries (3 * j + 2) 0 ∷ []))) ++ cuts_along_numbers left right (reasons_in entries) (drop (suc i) path)
cut_next left right entries path d room i h j e =
    cuts-step left right (reasons_in entries) path i h
    ∙ ap (λ (k : ℕ). cut_numbers left right (reasons_in entries) k ++ cuts_along_numbers left right (reasons_in entries) (drop (suc i) path)) (sym e)
    ∙ ap (λ (r : ℕ). (get_or left j 0 ∷ (get_or right j 0 ∷ (r ∷ []))) ++ cuts_along_numbers left right (reasons_in entries) (drop (suc i) path))
    (reason_at_lem entries j (omega (arith, e, room, d.named (suc i) (omega (arith, h)))))

-- ---- three more numbers

-- they leave the length as it is
pub put_length : (at a b c : ℕ) (xs : List ℕ) → length (put_three at a b c xs) ≡ length xs
unfolding put_three
put_length at a b c xs = length-set (set (set xs at a) (at + 1) b) (at + 2) c ∙ length-set (set xs at a) (at + 1) b ∙ length-set xs at a

put_three_lem : (p xs : List ℕ) (at a b c : ℕ) → length p ≡ at → at + 3 ≤ length xs → put_three at a b c (onto p xs) ≡ onto (p ++ (a ∷ (b ∷ (c ∷ [])))) xs
unfolding put_three
put_three_lem p xs at a b c e h =
    ap (λ (ys : List ℕ). set (set ys (at + 1) b) (at + 2) c) (onto_next p xs at a e (omega arith))
    ∙ ap (λ (ys : List ℕ). set ys (at + 2) c) (onto_next (p ++ (a ∷ [])) xs (at + 1) b one (omega arith))
    ∙ onto_next ((p ++ (a ∷ [])) ++ (b ∷ [])) xs (at + 2) c two (omega arith)
    ∙ ap (λ (q : List ℕ). onto q xs) (append_assoc (p ++ (a ∷ [])) (b ∷ []) (c ∷ []) ∙ append_assoc p (a ∷ []) (b ∷ (c ∷ [])))
  where
    one : length (p ++ (a ∷ [])) ≡ at + 1
    one = simp length-append (omega (arith, e))

    two : length ((p ++ (a ∷ [])) ++ (b ∷ [])) ≡ at + 2
    two = simp length-append (omega (arith, e))

-- the numbers of the first i of some steps are written; `from` gives those of a step and all after it
pub record Writing (from : ℕ → List ℕ) (steps : ℕ) (out₀ out : List ℕ) (i : ℕ) : Type 0 where
  pub upto : i ≤ steps
  pub written : List ℕ
  pub size : length written ≡ 3 * i
  pub same : length out ≡ length out₀
  pub is : out ≡ onto written out₀
  pub rest : from 0 ≡ written ++ from i

module _ (from : ℕ → List ℕ) (steps : ℕ) (out₀ : List ℕ) where
  -- before the first step nothing is written
  pub writing_start : Writing from steps out₀ out₀ 0
  writing_start = record { upto = omega arith; written = []; size = refl; same = refl; is = sym (onto_nil out₀); rest = refl }

  module _ (out : List ℕ) (i : ℕ) (w : Writing from steps out₀ out i) where
    -- one step more, by three numbers that are those of the step
    pub writing_next : i < steps → (a b c : ℕ) (out' : List ℕ) → from i ≡ (a ∷ (b ∷ (c ∷ []))) ++ from (suc i) → 3 * i + 3 ≤ length out₀
        → out' ≡ put_three (3 * i) a b c out → Writing from steps out₀ out' (i + 1)
    writing_next more a b c out' step h e =
        record {
          upto = omega (arith, more);
          written = w.written ++ (a ∷ (b ∷ (c ∷ [])));
          size = simp length-append (omega (arith, w.size));
          same = ap length e ∙ put_length (3 * i) a b c out ∙ w.same;
          is = e ∙ ap (put_three (3 * i) a b c) w.is ∙ put_three_lem w.written out₀ (3 * i) a b c w.size h;
          rest = rw add-one (w.rest ∙ ap (λ (t : List ℕ). w.written ++ t) step ∙ sym (append_assoc w.written (a ∷ (b ∷ (c ∷ []))) (from (suc i))));
        }

    -- where the step gives nothing more, all are written
    pub writing_done : from i ≡ [] → out ≡ onto (from 0) out₀
    writing_done e =
        w.is ∙ ap (λ (p : List ℕ). onto p out₀) (sym (w.rest ∙ ap (λ (t : List ℕ). w.written ++ t) e ∙ append-nil w.written))
