-- What an answer of the operation means, with no other hypothesis than the answer.
--   found-by-length, found-by-count   the path that was found is document 01's best path, by length and by count
--   number-zero, number_short         0 is its number, and of no other answer; 12 that of an output that is too short
use Rattle.std.specs.Prelude.{◌≡◌, refl, ◌↔◌, true, false, List, Result, Ok, Err, ℕ, ◌*◌, ◌≤◌, leb, Float, take}
use Rattle.std.proofs.Math.Path.{sym, ap}
use Rattle.std.proofs.Common.{◌∙◌, arith, leb-true}
use Rattle.std.proofs.Math.Bool.{Bool, cond}
use Rattle.std.proofs.Math.ListN.{length}
use Rattle.base_code.specs.FrontLaws.{onto-take}
use Rattle.base_terms.specs.Lists.{onto}
use Rattle.base_terms.specs.Work.{Work}
use Rattle.path_pieces.specs.declared.lengths.Lengths.{Lengths}
use Rattle.path_pieces.specs.declared.mode.Mode.{Mode}
use Rattle.path_pieces.specs.declared.mode.Mode.TheVariants.{ByLength, ByCount}
use Rattle.path_pieces.specs.declared.score.Score.{Score}
use Rattle.path_rules.specs.Paths.{piece_count, last_candidate, path_score}
use Rattle.path_by_length.specs.Table.{best_score, best_path}
use Rattle.path_by_count.specs.Table.{best_path_by_count, best_score_by_count}
use Rattle.path_by_length.proofs.Theorems.{best_path-score, best_path-all}
use Rattle.path_by_count.specs.Theorems.{count_score, count_all}
use Rattle.path_rules.specs.declared.solved.Solved.{Solved}
use Rattle.path_tests.specs.Refusal.{first_refusal_of}
use Rattle.path_tests.specs.RefusalLaws.{AcceptedLists, accepted_lists}
use Rattle.path_tests.specs.declared.refusal.Refusal.{Refusal}
use Rattle.path_tests.specs.declared.refusal.Refusal.TheVariants.{BadLists, BadEnds, BadCosts, BadCount, ShortWork}
use Rattle.path_list.specs.declared.search.Error.TheVariants.{Refused, ShortParent, ShortPath}
use Rattle.path_list.specs.Answer.{Answer}
use Rattle.path_list.specs.Operation.{number_of, Outcome, outcome_of, handed_out_of, handed_by_count, sought_of, end_after, path_of}
use Rattle.path_list.specs.Found.{PathWritten, FoundByLength, FoundByCount}

-- ---- a path that is handed out, with its score

record Handed (way : List ℕ) (score : Score) (before after : List ℕ) (s : Solved) : Type 0 where
  is : s.score ≡ score
  front : take s.len after ≡ way
  output : PathWritten before after s

handed_is : (way : List ℕ) (score : Score) (path : List ℕ) (s : Solved) → (handed_out_of way score path).answer ≡ Ok s
    → Handed way score path (handed_out_of way score path).path s
unfolding handed_out_of
handed_is way score path s e = go (leb (length way) (length path)) (leb-true (length way) (length path)) e
  where
    outcome : Bool → Outcome
    outcome b = cond b (outcome_of (Ok (record { score = score; len = length way })) (onto way path)) (outcome_of (Err ShortPath) path)

    go : (b : Bool) → (b ≡ true → length way ≤ length path) → (outcome b).answer ≡ Ok s → Handed way score path (outcome b).path s
    go true h q =
        let r : record { score = score; len = length way } ≡ s = cc in
        let len : length way ≡ s.len = ap (λ (z : Solved). z.len) r in
        let front : take s.len (onto way path) ≡ way = rw (← len) (onto-take way path) in
        record {
          is = sym (ap (λ (z : Solved). z.score) r);
          front = front;
          output = record { fits = omega (arith, h refl); written = ap (λ (w : List ℕ). onto w path) (sym front) };
        }
    go false h q = let z : ◌≡◌ {A = ℕ} 0 1 = cc in absurd (omega arith)

module _ (l : Lengths) (left right : List ℕ) (cost : List Float) (path : List ℕ) (work : Work) (parent : List ℕ) (s : Solved) where
  -- an answer that was found is the search's, over candidates that no test refuses
  pub record Searched (mode : Mode) : Type 0 where
    -- no test fails
    pub fine : first_refusal_of left right cost l mode (length work.u32s) (length work.u64s) (length work.f64s) ≡ Ok tt
    -- so the candidates are of the search's domain, and the lists long enough
    pub accepted : AcceptedLists left right cost l mode (length work.u32s) (length work.u64s) (length work.f64s)
    -- the search found this
    pub answer : (sought_of l left right cost mode (length parent) path).answer ≡ Ok s
    -- and left this in the output
    pub output : (path_of l left right cost mode path work parent).path ≡ (sought_of l left right cost mode (length parent) path).path

  -- every such answer is
  pub searched : (mode : Mode) → (path_of l left right cost mode path work parent).answer ≡ Ok s → Searched mode
  unfolding path_of
  searched mode e =
      let p = go (first_refusal_of left right cost l mode (length work.u32s) (length work.u64s) (length work.f64s)) e in
      record {
        fine = p.0;
        accepted = accepted_lists left right cost l mode (length work.u32s) (length work.u64s) (length work.f64s) p.0;
        answer = p.1;
        output = p.2;
      }
    where
      sought : Outcome
      sought = sought_of l left right cost mode (length parent) path

      go : (v : Result Unit Refusal) → (end_after v sought path work parent).answer ≡ Ok s
          → (v ≡ Ok tt) × (sought.answer ≡ Ok s) × ((end_after v sought path work parent).path ≡ sought.path)
      go (Ok tt) q = (refl, q, refl)
      go (Err r) q = let z : ◌≡◌ {A = ℕ} 0 1 = cc in absurd (omega arith)

  -- by length
  pub found-by_length : (path_of l left right cost ByLength path work parent).answer ≡ Ok s
      → FoundByLength l left right cost path (path_of l left right cost ByLength path work parent).path s
  unfolding sought_of
  found-by_length e =
      let x = searched ByLength e in
      let h = handed_is (best_path l left right cost) (best_score l left right cost (last_candidate left)) path s x.answer in
      let ok = x.accepted.domain in
      rw x.output
      (record {
        output = h.output;
        best = rw h.front (best_path-all ok);
        score = ap (path_score l left right cost) h.front ∙ best_path-score ok ∙ sym h.is;
      })

  -- by count
  pub found-by_count : (count : ℕ) → (path_of l left right cost (ByCount count) path work parent).answer ≡ Ok s
      → FoundByCount count l left right cost path (path_of l left right cost (ByCount count) path work parent).path s
  unfolding sought_of
  found-by_count count e =
      let x = searched (ByCount count) e in
      let p = go (leb (piece_count left count * length left) (length parent)) x.answer in
      let h = handed_is (best_path_by_count l left right cost count) (best_score_by_count l left right cost count) path s p.0 in
      let ok = x.accepted.domain in
      let some = (x.accepted.counted count refl).0 in
      rw (x.output ∙ p.1)
      (record {
        output = h.output;
        best = rw h.front (count_all ok count some);
        score = ap (path_score l left right cost) h.front ∙ count_score ok count some ∙ sym h.is;
      })
    where
      sought : Bool → Outcome
      sought b = cond b (handed_by_count l left right cost count path) (outcome_of (Err ShortParent) path)

      go : (b : Bool) → (sought b).answer ≡ Ok s
          → ((handed_by_count l left right cost count path).answer ≡ Ok s) × ((sought b).path ≡ (handed_by_count l left right cost count path).path)
      go true q = (q, refl)
      go false q = let z : ◌≡◌ {A = ℕ} 0 1 = cc in absurd (omega arith)

-- ---- the number

-- 12 is that of the output that is too short, and of no other answer
pub number_short : (a : Answer) → number_of a ≡ 12 → a ≡ Err ShortPath
number_short (Ok s) e = absurd (omega arith)
number_short (Err (Refused BadLists)) e = absurd (omega arith)
number_short (Err (Refused BadEnds)) e = absurd (omega arith)
number_short (Err (Refused BadCosts)) e = absurd (omega arith)
number_short (Err (Refused BadCount)) e = absurd (omega arith)
number_short (Err (Refused ShortWork)) e = absurd (omega arith)
number_short (Err ShortParent) e = absurd (omega arith)
number_short (Err ShortPath) e = refl

-- 0 is the number exactly where a path was found
pub number_zero : (a : Answer) → (number_of a ≡ 0) ↔ ((s : Solved) × (a ≡ Ok s))
number_zero a = (found a, λ f. ap number_of f.1)
  where
    refused : (r : Refusal) → number_of (Err (Refused r)) ≡ 0 → ⊥
    refused BadLists e = omega arith
    refused BadEnds e = omega arith
    refused BadCosts e = omega arith
    refused BadCount e = omega arith
    refused ShortWork e = omega arith

    found : (a : Answer) → number_of a ≡ 0 → (s : Solved) × (a ≡ Ok s)
    found (Ok s) e = (s, refl)
    found (Err (Refused r)) e = absurd (refused r e)
    found (Err ShortParent) e = absurd (omega arith)
    found (Err ShortPath) e = absurd (omega arith)
