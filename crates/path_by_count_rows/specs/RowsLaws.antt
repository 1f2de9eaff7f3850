-- Laws of the rows: what the search for a predecessor reads of a row's tree, that each row is again one, and that a row looks at the one before it alone.
use Rattle.std.specs.Prelude.{◌≡◌, List, T, Float, length, get_or, take, drop, set, Option, Some}
use Rattle.std.proofs.Math.Path.{refl, sym}
use Rattle.std.proofs.Common.{ap, subst, ◌∙◌, inl, inr, le_refl, le_trans, arith, length-drop, length-set, get_or-set_same, get_or-set_other, get_or-take, get_or-drop, length-take-le, ext_get_or}
use Rattle.std.proofs.Math.Bool.{true}
use Prim.Native.Nat.{ℕ, zero, suc, ◌+◌, ◌-◌, ◌*◌, ◌≤◌, ◌<◌}
use Rattle.std.specs.Float.{nan}
use Rattle.base_terms.specs.Layout.{behind_tree, end_by_count}
use Rattle.base_laws.specs.Tests.{lt_or_le, same_test}
use Rattle.base_terms.specs.Floats.{nonneg}
use Rattle.base_laws.specs.Nonneg.{nought_is, nought-nonneg}
use Rattle.path_pieces.specs.Limits.{max_index}
use Rattle.path_pieces.specs.Pieces.{piece_length, may_start, no_score, with_piece, with_cut_at}
use Rattle.path_pieces.specs.PiecesLaws.{over-one, cut_at-over}
use Rattle.path_pieces.specs.Domain.{Candidates, Searchable}
use Rattle.path_pieces.specs.DomainLaws.{rights_rise, ends_rise, left_bounded, piece_bounded, piece_nonneg, cut_at-nonneg}
use Rattle.path_pieces.specs.Least.{found_score, found_index, predecessor_of}
use Rattle.path_pieces.specs.LeastLaws.{least_same, least_skip}
use Rattle.path_pieces.specs.PredecessorLaws.{predecessor_same, predecessor_chosen}
use Rattle.path_pieces.specs.declared.lengths.Lengths.{Lengths}
use Rattle.path_pieces.specs.declared.score.Score.{Score}
use Rattle.path_pieces.specs.declared.best.Best.{Best}
use Rattle.path_by_count_tree.specs.Least.{every, least_in}
use Rattle.path_by_count_search.specs.Starts.{arrival_at, Starts}
use Rattle.path_by_count_rows.specs.FirstLaws.{first_start_high, first_start-none, first_start-all}
use Rattle.path_by_count_tree.specs.Tree.{no_leaf}
use Rattle.path_by_count_tree.specs.TreeLaws.{Sound, covers-all, covers-front}
use Rattle.path_by_count_tree.specs.Fill.{written, kept, Padded, Linked}
use Rattle.path_by_count_rows.specs.Rows.{earliest_start, first_score, leaf_score, behind, Laid, Kept, ScoreRow, FirstRow, NextRow, FirstWritten, NextWritten, Planted, RowReady}

-- ---- where the last piece may start

module _ (l : Lengths) (left right : List ℕ) where
  -- the last piece may start somewhere before j
  pub start_below : (k j : ℕ) → 0 < k → k ≤ j → earliest_start l.limit left right k j < j
  start_below k j h g = omega (arith, first_start_high l.limit left right j)

  -- the least of the scores through the leaves of a row's tree is the best predecessor: the piece rule leaves the candidates from the first start on
  pub predecessor_by : (leaves : ℕ) (over : List ℕ) (cost : List Float) (k j from : ℕ) (b : Best) → Candidates left right → 0 < k → k ≤ j → j < length left
      → from ≡ earliest_start l.limit left right k j → Some b ≡ least_in (arrival_at l right over cost leaves (get_or left j 0)) from j
      → Some b ≡ predecessor_of l left right (leaf_score leaves over cost) (k - 1) j
  unfolding predecessor_of piece_length
  predecessor_by leaves over cost k j from b ok some reached inside e h =
      let test = may_start l.limit left right j in
      let score = arrival_at l right over cost leaves (get_or left j 0) in
      let low = start_below k j some reached in
      h
      ∙ least_same every test score score from j (λ i a m. same_test true (test i) (λ t. first_start-all l.limit left right ok j i inside (omega arith) m) (λ t. tt)) (λ i a m. refl)
      ∙ sym (least_skip test score (k - 1) from j (omega arith) (omega arith) (λ i a m. first_start-none l.limit left right j i (omega arith)))

-- ---- what stands behind the tree

-- an entry of it
pub behind-at : {A : Type 0} (n : ℕ) (xs : List A) (j : ℕ) (z : A) → j < n → get_or (behind n xs) j z ≡ get_or xs (behind_tree n + j) z
unfolding behind
behind-at n xs j z h = get_or-take n (drop (behind_tree n) xs) j z h ∙ get_or-drop (behind_tree n) xs j z

-- there are n of them
pub behind-length : {A : Type 0} (n : ℕ) (xs : List A) → end_by_count n ≤ length xs → length (behind n xs) ≡ n
unfolding behind
behind-length n xs h = length-take-le n (drop (behind_tree n) xs) (rw length-drop (omega arith))

-- the part that the code hands on
pub behind_part : {A : Type 0} (n : ℕ) {from to : ℕ} → from ≡ behind_tree n → to ≡ end_by_count n → (xs : List A) → take (to - from) (drop from xs) ≡ behind n xs
unfolding behind
behind_part n {from} {to} e f xs = let d : to - from ≡ n = omega (arith, e, f) in rw (d, e)

-- it stays where its entries do
pub behind_kept : (n : ℕ) {from : ℕ} {over₀ over : List ℕ} {cost₀ cost : List Float} → from ≤ behind_tree n → end_by_count n ≤ length cost₀ → Kept from over₀ cost₀ over cost
    → behind n cost ≡ behind n cost₀
behind_kept n {from} {over₀} {over} {cost₀} {cost} h g k =
    ext_get_or nan (behind n cost) (behind n cost₀) (behind-length n cost (omega (arith, k.costs)) ∙ sym (behind-length n cost₀ g))
    (λ i m. let b : i < n = omega (arith, behind-length n cost (omega (arith, k.costs))) in
    behind-at n cost i nan b ∙ ap (λ (s : Score). s.cost) (k.after (behind_tree n + i) (omega arith)) ∙ sym (behind-at n cost₀ i nan b))

-- what is kept from one place on is kept from a later one on
pub kept_later : {from to : ℕ} {over₀ over : List ℕ} {cost₀ cost : List Float} → from ≤ to → Kept from over₀ cost₀ over cost → Kept to over₀ cost₀ over cost
kept_later h k = record { overs = k.overs; costs = k.costs; after = λ m g. k.after m (le_trans h g) }

-- what one change keeps and then another keeps, both keep
pub kept_trans : {from : ℕ} {over₀ over₁ over₂ : List ℕ} {cost₀ cost₁ cost₂ : List Float} → Kept from over₁ cost₁ over₂ cost₂ → Kept from over₀ cost₀ over₁ cost₁
    → Kept from over₀ cost₀ over₂ cost₂
kept_trans a b = record { overs = a.overs ∙ b.overs; costs = a.costs ∙ b.costs; after = λ m g. a.after m g ∙ b.after m g }

-- so do candidates, first starts and cuts
pub laid_kept : {l : Lengths} {left right : List ℕ} {leaves from : ℕ} {over₀ over : List ℕ} {cost₀ cost : List Float} → Laid l left right leaves over₀ cost₀
    → from ≤ behind_tree (length left) → Kept from over₀ cost₀ over cost → Laid l left right leaves over cost
laid_kept {l} {left} {right} {leaves} {from} {over₀} {over} {cost₀} {cost} x h k = record {
  domain = rw (behind_kept (length left) h x.costs k) x.domain;
  tree = x.tree;
  overs = omega (arith, x.overs, k.overs);
  costs = omega (arith, x.costs, k.costs);
  firsts = λ j g. ap (λ (s : Score). s.over) (k.after (behind_tree (length left) + j) (omega arith)) ∙ x.firsts j g;
}

-- ---- what the search reads

module _ {l : Lengths} {left right : List ℕ} {leaves : ℕ} {over : List ℕ} {cost : List Float} where
  -- the tree's last leaf stands before the entries behind it
  pub tree_size : Laid l left right leaves over cost → leaves * 2 ≤ behind_tree (length left)
  tree_size x = omega (arith, x.tree.least)

  -- what the search reads of the tree
  pub starts_of : {k j : ℕ} → RowReady l left right leaves over cost k j → Starts l right over cost leaves j (get_or left j 0)
  starts_of {k} {j} x =
      let ok = x.laid.domain.candidates in
      record {
        preferred = x.laid.domain.preferred;
        rights = omega (arith, ok.paired, x.inside);
        rise = λ i m a b. rights_rise ok i m a (omega (arith, x.inside));
        behind = λ i a. ends_rise ok i j a x.inside;
        bounded = left_bounded ok j x.inside;
        overs = omega (arith, x.laid.overs, tree_size x.laid, x.laid.tree.enough, x.inside);
        costs = omega (arith, x.laid.costs, tree_size x.laid, x.laid.tree.enough, x.inside);
        few = λ i a. le_trans (x.few i a) (omega (arith, ok.few, x.inside));
        fine = λ i a. x.fine i a;
      }

-- the best predecessor comes before the candidate
pub predecessor_high : {l : Lengths} {left right : List ℕ} {leaves : ℕ} {over : List ℕ} {cost : List Float} {k j : ℕ} (b : Best) → RowReady l left right leaves over cost k j
    → Some b ≡ predecessor_of l left right (leaf_score leaves over cost) (k - 1) j → b.at < j
predecessor_high {l} {left} {right} {leaves} {over} {cost} {k} {j} b x e =
    let ok = x.laid.domain in
    let c = predecessor_chosen ok.candidates ok.preferred (leaf_score leaves over cost) (k - 1) j (omega (arith, x.some, x.reached)) x.inside x.fine in
    rw (ap found_index e) c.1.high

-- ---- each score of a row is one again

-- no more pieces over the limit than candidates before j, at a cost that is not negative
abbrev pub Fair : ℕ → Score → Type 0
Fair j s = (s.over ≤ j) × T (nonneg s.cost)

module _ {l : Lengths} {left right : List ℕ} {cut : List Float} (ok : Searchable l left right cut) where
  fair_piece : (s : Score) (i j : ℕ) → Fair i s → i < j → j < length left → Fair j (with_piece l s (piece_length left right i j))
  unfolding with_piece
  fair_piece s i j f g h =
      (omega (arith, f.0, over-one l.limit (piece_length left right i j)), unfold with_piece in piece_nonneg ok.preferred s (piece_length left right i j) (piece_bounded ok.candidates i j h) f.1)

  fair_cut : (s : Score) (j : ℕ) → Fair j s → j < length left → Fair j (with_cut_at cut j s)
  fair_cut s j f h = (rw (cut_at-over cut j s) f.0, cut_at-nonneg ok.costs j h s f.1)

  -- of the first row
  pub first_fair : (j : ℕ) → j < length left → Fair j (first_score l left right cut j)
  unfolding first_score
  first_fair zero h = (le_refl 0, nought-nonneg)
  first_fair (suc j) h =
      fair_cut (with_piece l no_score (piece_length left right 0 (suc j))) (suc j) (fair_piece no_score 0 (suc j) (le_refl 0, nought-nonneg) (omega arith) h) h

  -- and of a later one
  pub next_fair : (own : ℕ → Score) (k j : ℕ) → ((i : ℕ) → i < j → Fair i (own i)) → 0 < k → k ≤ j → j < length left
      → Fair j (with_cut_at cut j (found_score (predecessor_of l left right own (k - 1) j)))
  next_fair own k j f p m h =
      let found = predecessor_of l left right own (k - 1) j in
      let i = found_index found in
      let c = predecessor_chosen ok.candidates ok.preferred own (k - 1) j (omega arith) h (λ i a. (f i a).1) in
      fair_cut (found_score found) j (subst (Fair j) (sym c.0) (fair_piece (own i) i j (f i c.1.high) c.1.high h)) h

-- ---- the tree of a row

row_fair : {leaves n : ℕ} {over : List ℕ} {cost : List Float} → ScoreRow leaves n over cost → (i : ℕ) → i < n → Fair i (leaf_score leaves over cost i)
row_fair r i h = (r.few i h, r.fine i h)

linked_kept : {leaves : ℕ} {over₀ over : List ℕ} {cost₀ cost : List Float} → length over ≡ length over₀ → length cost ≡ length cost₀
    → Linked over₀ cost₀ leaves over cost 1 → Kept leaves over₀ cost₀ over cost
linked_kept eo ec x = record { overs = eo; costs = ec; after = x.after }

module _ (leaves n : ℕ) (over : List ℕ) (cost : List Float) where
  -- what is fair of the candidates' leaves, and nothing at the others, suits the tree
  leaf_few : n ≤ suc max_index → ((i : ℕ) → i < n → Fair i (leaf_score leaves over cost i))
      → ((i : ℕ) → n ≤ i → i < leaves → leaf_score leaves over cost i ≡ no_leaf) → (i : ℕ) → i < leaves → get_or over (leaves + i) 0 ≤ suc max_index
  leaf_few small f none i h = elim (lt_or_le i n) [
    | inl m ↦ le_trans (f i m).0 (omega arith)
    | inr m ↦ rw (ap (λ (s : Score). s.over) (none i m h)) (le_refl (suc max_index))
  ]

  leaf_fine : ((i : ℕ) → i < n → Fair i (leaf_score leaves over cost i))
      → ((i : ℕ) → n ≤ i → i < leaves → leaf_score leaves over cost i ≡ no_leaf) → (i : ℕ) → i < leaves → T (nonneg (get_or cost (leaves + i) nan))
  leaf_fine f none i h = elim (lt_or_le i n) [
    | inl m ↦ (f i m).1
    | inr m ↦ rw (ap (λ (s : Score). s.cost) (none i m h), nought_is) nought-nonneg
  ]

module _ {l : Lengths} {left right : List ℕ} {leaves : ℕ} where
  -- linked anew, a row has its tree
  pub planted : {over₀ over : List ℕ} {cost₀ cost : List Float} → Laid l left right leaves over₀ cost₀ → ScoreRow leaves (length left) over₀ cost₀
      → length over ≡ length over₀ → length cost ≡ length cost₀ → Linked over₀ cost₀ leaves over cost 1 → Planted l left right leaves over cost
  planted {over₀} {over} {cost₀} {cost} x r eo ec k =
      let keeps = linked_kept eo ec k in
      let laid = laid_kept x (omega (arith, tree_size x)) keeps in
      let same : (i : ℕ) → leaf_score leaves over cost i ≡ leaf_score leaves over₀ cost₀ i = λ i. k.after (leaves + i) (omega arith) in
      let row : ScoreRow leaves (length left) over cost = record {
        few = λ i h. rw (ap (λ (s : Score). s.over) (same i)) (r.few i h);
        fine = λ i h. rw (ap (λ (s : Score). s.cost) (same i)) (r.fine i h);
        beyond = λ i h g. same i ∙ r.beyond i h g;
      } in
      let sound : Sound leaves over cost = record {
        overs = omega (arith, laid.overs, tree_size laid);
        costs = omega (arith, laid.costs, tree_size laid);
        few = leaf_few leaves (length left) over cost x.domain.candidates.few (row_fair row) row.beyond;
        fine = leaf_fine leaves (length left) over cost (row_fair row) row.beyond;
        inner = λ node p h. k.inner node p p h;
      } in
      record { laid = laid; is_row = row; covers = covers-all sound x.tree.power }

-- ---- a row while it is written

module _ {l : Lengths} {left right : List ℕ} {leaves : ℕ} {over₀ : List ℕ} {cost₀ : List Float} where
  -- nothing of the first row yet
  pub first_start_lem : (row : List ℕ) → FirstWritten l left right leaves over₀ cost₀ over₀ cost₀ row 0
  first_start_lem row = record {
    score = λ j h. absurd (omega arith);
    parent = λ j h. absurd (omega arith);
    rest = record { overs = refl; costs = refl; after = λ m g. refl };
  }

  -- one more
  pub first_more : {over : List ℕ} {cost : List Float} {row : List ℕ} {n : ℕ} (s : Score) → n < length left → leaves + n < length over → leaves + n < length cost
      → n < length row → s ≡ first_score l left right (behind (length left) cost₀) n → FirstWritten l left right leaves over₀ cost₀ over cost row n
      → FirstWritten l left right leaves over₀ cost₀ (set over (leaves + n) s.over) (set cost (leaves + n) s.cost) (set row n 0) (n + 1)
  first_more {over} {cost} {row} {n} s inside h g m e x = record {
    score = λ j b. elim (lt_or_le j n) [
      | inl i ↦ kept over cost (leaves + n) s (leaves + j) (λ (q : leaves + j ≡ leaves + n). omega arith) ∙ x.score j i
      | inr i ↦ let q : n ≡ j = omega arith in rw (← q) (written over cost (leaves + n) s h g ∙ e)
    ];
    parent = λ j b. elim (lt_or_le j n) [
      | inl i ↦ get_or-set_other row n j 0 0 (λ (q : j ≡ n). omega arith) ∙ x.parent j i
      | inr i ↦ let q : n ≡ j = omega arith in rw (← q) (get_or-set_same row n 0 0 m)
    ];
    rest = record {
      overs = length-set over (leaves + n) s.over ∙ x.rest.overs;
      costs = length-set cost (leaves + n) s.cost ∙ x.rest.costs;
      after = λ k a. kept over cost (leaves + n) s k (λ (q : k ≡ leaves + n). omega arith) ∙ x.rest.after k a;
    };
  }

  -- the cuts are where they were
  pub first-cuts : {over : List ℕ} {cost : List Float} {row : List ℕ} {n : ℕ} → Laid l left right leaves over₀ cost₀
      → FirstWritten l left right leaves over₀ cost₀ over cost row n → behind (length left) cost ≡ behind (length left) cost₀
  first-cuts x w = behind_kept (length left) (omega (arith, tree_size x, x.tree.enough)) x.costs w.rest

  -- padded, it is the first row
  pub first_done : {over₁ over : List ℕ} {cost₁ cost : List Float} {row : List ℕ} → Laid l left right leaves over₀ cost₀
      → FirstWritten l left right leaves over₀ cost₀ over₁ cost₁ row (length left) → length over ≡ length over₁ → length cost ≡ length cost₁
      → Padded over₁ cost₁ (leaves + length left) over cost (leaves * 2) → FirstRow l left right leaves over₀ cost₀ over cost row
  first_done {over₁} {over} {cost₁} {cost} {row} x w eo ec p =
      let size = tree_size x in
      let pad : Kept (behind_tree (length left)) over₁ cost₁ over cost = record { overs = eo; costs = ec; after = λ m g. p.after m (omega arith) } in
      let keeps : Kept (behind_tree (length left)) over₀ cost₀ over cost = kept_trans pad (kept_later (omega (arith, x.tree.enough)) w.rest) in
      let cuts = behind_kept (length left) (omega arith) x.costs keeps in
      let same : (i : ℕ) → i < length left → leaf_score leaves over cost i ≡ leaf_score leaves over₁ cost₁ i = λ i h. p.before (leaves + i) (omega arith) in
      let score : (j : ℕ) → j < length left → leaf_score leaves over cost j ≡ first_score l left right (behind (length left) cost) j =
      λ j h. rw cuts (same j h ∙ w.score j h) in
      let fair : (i : ℕ) → i < length left → Fair i (leaf_score leaves over cost i) = λ i h. subst (Fair i) (sym (score i h)) (rw cuts (first_fair x.domain i h)) in
      record {
        score = score;
        parent = w.parent;
        laid = laid_kept x (omega arith) keeps;
        is_row = record { few = λ i h. (fair i h).0; fine = λ i h. (fair i h).1; beyond = λ i h g. p.beyond (leaves + i) (omega arith) (omega arith) };
        cuts = cuts;
      }

  -- nothing of row k yet
  pub next_start : {k : ℕ} (row : List ℕ) → NextWritten l left right leaves over₀ cost₀ over₀ cost₀ row k (length left)
  next_start row = record {
    score = λ j a b. absurd (omega arith);
    parent = λ j a b. absurd (omega arith);
    before = λ m a. refl;
    rest = record { overs = refl; costs = refl; after = λ m g. refl };
  }

  module _ {over : List ℕ} {cost : List Float} {row : List ℕ} {k n : ℕ} (t : Planted l left right leaves over₀ cost₀) (some : 0 < k) (reached : k ≤ n)
      (w : NextWritten l left right leaves over₀ cost₀ over cost row k n) where
    -- the scores are fair, before and after
    written_fair : (i : ℕ) → i < length left → Fair i (leaf_score leaves over cost i)
    written_fair i h = elim (lt_or_le i n) [
      | inl a ↦ subst (Fair i) (sym (w.before (leaves + i) (omega arith))) (row_fair t.is_row i h)
      | inr a ↦ subst (Fair i) (sym (w.score i a h))
          (next_fair t.laid.domain (leaf_score leaves over₀ cost₀) k i (λ m b. row_fair t.is_row m (omega arith)) some (omega arith) h)
    ]

    written_none : (i : ℕ) → length left ≤ i → i < leaves → leaf_score leaves over cost i ≡ no_leaf
    written_none i h g = w.rest.after (leaves + i) (omega arith) ∙ t.is_row.beyond i h g

    -- what the search for the next one down reads
    pub written_ready : (j : ℕ) → suc j ≡ n → k ≤ j → j < length left → RowReady l left right leaves over cost k j
    written_ready j e r h =
        let size = tree_size t.laid in
        record {
          laid = laid_kept t.laid (omega (arith, t.laid.tree.enough)) w.rest;
          some = some;
          reached = r;
          inside = h;
          covers = covers-front t.covers (omega arith) (omega (arith, t.laid.tree.enough)) (record {
            overs = w.rest.overs;
            costs = w.rest.costs;
            few = leaf_few leaves (length left) over cost t.laid.domain.candidates.few written_fair written_none;
            fine = leaf_fine leaves (length left) over cost written_fair written_none;
            same = λ m g. w.before m (omega arith);
          });
          few = λ i a. (written_fair i (omega arith)).0;
          fine = λ i a. (written_fair i (omega arith)).1;
        }

    -- the row before, at the candidates that are left
    same_own : (i : ℕ) → i < n → leaf_score leaves over cost i ≡ leaf_score leaves over₀ cost₀ i
    same_own i h = w.before (leaves + i) (omega arith)

    -- the cuts are where they were
    pub written-cuts : behind (length left) cost ≡ behind (length left) cost₀
    written-cuts = behind_kept (length left) (omega (arith, tree_size t.laid, t.laid.tree.enough)) t.laid.costs w.rest

    -- one more
    pub next_more : (j : ℕ) (b : Best) (s : Score) → suc j ≡ n → k ≤ j → j < length left → leaves + j < length over → leaves + j < length cost → j < length row
        → Some b ≡ predecessor_of l left right (leaf_score leaves over cost) (k - 1) j → s ≡ with_cut_at (behind (length left) cost₀) j b.score
        → NextWritten l left right leaves over₀ cost₀ (set over (leaves + j) s.over) (set cost (leaves + j) s.cost) (set row j b.at) k j
    next_more j b s e r inside h g m eb es =
        let same = predecessor_same l left right (leaf_score leaves over cost) (leaf_score leaves over₀ cost₀) (k - 1) j (λ i a u. same_own i (omega arith)) in
        let d : Some b ≡ predecessor_of l left right (leaf_score leaves over₀ cost₀) (k - 1) j = eb ∙ same in
        record {
          score = λ i a z. elim (lt_or_le j i) [
            | inl x ↦ kept over cost (leaves + j) s (leaves + i) (λ (q : leaves + i ≡ leaves + j). omega arith) ∙ w.score i (omega arith) z
            | inr x ↦ let q : j ≡ i = omega arith in
                rw (← q) (written over cost (leaves + j) s h g ∙ es ∙ ap (λ (c : Option Best). with_cut_at (behind (length left) cost₀) j (found_score c)) d)
          ];
          parent = λ i a z. elim (lt_or_le j i) [
            | inl x ↦ get_or-set_other row j i b.at 0 (λ (q : i ≡ j). omega arith) ∙ w.parent i (omega arith) z
            | inr x ↦ let q : j ≡ i = omega arith in rw (← q) (get_or-set_same row j b.at 0 m ∙ ap found_index d)
          ];
          before = λ i a. kept over cost (leaves + j) s i (λ (q : i ≡ leaves + j). omega arith) ∙ w.before i (omega arith);
          rest = record {
            overs = length-set over (leaves + j) s.over ∙ w.rest.overs;
            costs = length-set cost (leaves + j) s.cost ∙ w.rest.costs;
            after = λ i a. kept over cost (leaves + j) s i (λ (q : i ≡ leaves + j). omega arith) ∙ w.rest.after i a;
          };
        }

-- the whole row, by the scores before the tree was linked
pub next_done : {l : Lengths} {left right : List ℕ} {leaves k : ℕ} {over₀ over₁ over : List ℕ} {cost₀ cost₁ cost : List Float} {row : List ℕ}
    → Planted l left right leaves over₁ cost₁ → 0 < k → Laid l left right leaves over₀ cost₀ → length over₁ ≡ length over₀ → length cost₁ ≡ length cost₀
    → Linked over₀ cost₀ leaves over₁ cost₁ 1 → NextWritten l left right leaves over₁ cost₁ over cost row k k
    → NextRow l left right leaves over₀ cost₀ over cost row k
next_done {l} {left} {right} {leaves} {k} {over₀} {over₁} {over} {cost₀} {cost₁} {cost} t some x eo ec n w =
    let size = tree_size x in
    let cuts = written-cuts t some (le_refl k) w in
    let linked : behind (length left) cost₁ ≡ behind (length left) cost₀ = behind_kept (length left) (omega arith) x.costs (linked_kept eo ec n) in
    let own₀ = leaf_score leaves over₀ cost₀ in
    let own₁ = leaf_score leaves over₁ cost₁ in
    let same : (j : ℕ) → predecessor_of l left right own₁ (k - 1) j ≡ predecessor_of l left right own₀ (k - 1) j =
    λ j. predecessor_same l left right own₁ own₀ (k - 1) j (λ i a b. n.after (leaves + i) (omega arith)) in
    record {
      score = λ j a h. rw cuts (w.score j a h ∙ ap (λ (c : Option Best). with_cut_at (behind (length left) cost₁) j (found_score c)) (same j));
      parent = λ j a h. w.parent j a h ∙ ap found_index (same j);
      laid = laid_kept t.laid (omega (arith, t.laid.tree.enough)) w.rest;
      is_row = record {
        few = λ i h. (written_fair t some (le_refl k) w i h).0;
        fine = λ i h. (written_fair t some (le_refl k) w i h).1;
        beyond = written_none t some (le_refl k) w;
      };
      cuts = cuts ∙ linked;
    }

-- ---- the score of one piece, as the code finds it

module _ (l : Lengths) (left right : List ℕ) (cut : List Float) where
  -- to the first candidate there is no piece
  pub first-none : (j : ℕ) → j ≡ 0 → no_score ≡ first_score l left right cut j
  unfolding first_score
  first-none zero e = refl
  first-none (suc j) e = absurd (omega arith)

  -- to a later one there is one
  pub first_one : (j : ℕ) → 0 < j → with_cut_at cut j (with_piece l no_score (piece_length left right 0 j)) ≡ first_score l left right cut j
  unfolding first_score
  first_one zero h = absurd (omega arith)
  first_one (suc j) h = refl
