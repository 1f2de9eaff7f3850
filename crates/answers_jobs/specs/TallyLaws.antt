-- While records are counted, the numbers of a tally are at most the place that was reached, since a record takes a byte at
-- least, and with the records behind that place it is the tally of the sample.
use Rattle.std.specs.Prelude.{◌≡◌, refl, Bool, false, cond, List, ℕ, zero, suc, ◌+◌, ◌≤◌, ◌<◌, eqb, length, drop}
use Rattle.std.proofs.Common.{sym, ap, subst, ◌∙◌, arith, length-drop, drop-drop, eq-eqb, ne_eqb}
use Rattle.std.proofs.Math.Bool.{true}
use Rattle.answers_jobs.specs.Record.{replayed_of}
use Rattle.answers_jobs.specs.declared.record.Replayed.{Replayed}
use Rattle.answers_jobs.specs.Tally.{UpTo, no_record, with_record, with_records}
use Rattle.answers_jobs.specs.declared.report.Tally.{Tally}

-- before the first record
pub up_start : (t : Tally) → t ≡ no_record → UpTo 0 t
up_start t e = subst (UpTo 0) (sym e) (record { records_up = omega arith; agreeing_up = omega arith; differences_up = omega arith })

-- with one record more
pub up_next : (n m : ℕ) (t r : Tally) (same : Bool) → n < m → UpTo n t → r ≡ with_record t same → UpTo m r
up_next n m t r same h u e = subst (UpTo m) (sym e) (go same)
  where
    agreeing : (b : Bool) → cond b (t.records + 1) t.agreeing ≤ m
    agreeing true = omega (arith, u.records_up)
    agreeing false = omega (arith, u.agreeing_up)

    go : (same : Bool) → UpTo m (with_record t same)
    go false = unfold with_record in record { records_up = omega (arith, u.records_up); agreeing_up = omega (arith, u.agreeing_up); differences_up = omega (arith, u.differences_up) }
    go true = unfold with_record in record { records_up = omega (arith, u.records_up); agreeing_up = agreeing (eqb t.differences 0); differences_up = omega (arith, u.differences_up) }

-- a higher bound holds too
pub up_more : (n m : ℕ) (t : Tally) → n ≤ m → UpTo n t → UpTo m t
up_more n m t h u = record { records_up = omega (arith, u.records_up); agreeing_up = omega (arith, u.agreeing_up); differences_up = omega (arith, u.differences_up) }

-- ---- what is left to count

-- at most `most` records stand behind a place, and with them the tally t is that of the sample
pub record Tallied (s : List ℕ) (at : ℕ) (t : Tally) : Type 0 where
  pub most : ℕ
  pub enough : length s ≤ at + most
  pub whole : with_records (length s) s no_record ≡ with_records most (drop at s) t

-- before the first record
pub tallied_start : (s : List ℕ) (t : Tally) → t ≡ no_record → Tallied s 0 t
tallied_start s t e = record { most = length s; enough = omega arith; whole = rw e refl }

-- one record is counted where one stands
records_next : (n : ℕ) (s : List ℕ) (t : Tally) (r : Replayed) → 0 < length s → r ≡ replayed_of s
    → with_records (suc n) s t ≡ with_records n (drop r.size s) (with_record t r.same)
unfolding with_records
records_next n s t r h e = rw (e, ne_eqb (length s) 0 (λ z. omega (arith, z, h)))

-- with one record more
pub tallied_next : (s : List ℕ) (at : ℕ) (t u : Tally) (r : Replayed) → at < length s → 0 < r.size
    → r ≡ replayed_of (drop at s) → u ≡ with_record t r.same → Tallied s at t → Tallied s (at + r.size) u
tallied_next s at t u r h pos e f c = rw f (go c.most c.enough c.whole)
  where
    go : (n : ℕ) → length s ≤ at + n → with_records (length s) s no_record ≡ with_records n (drop at s) t
        → Tallied s (at + r.size) (with_record t r.same)
    go zero enough w = absurd (omega (arith, h, enough))
    go (suc n) enough w = record {
      most = n;
      enough = omega (arith, enough, pos);
      whole = w ∙ records_next n (drop at s) t r (omega (arith, h, length-drop at s)) e
          ∙ ap (λ (xs : List ℕ). with_records n xs (with_record t r.same)) (drop-drop r.size at s);
    }

-- behind the last record
pub tallied_end : (s : List ℕ) (at : ℕ) (t : Tally) → length s ≤ at → Tallied s at t → with_records (length s) s no_record ≡ t
unfolding with_records
tallied_end s at t h c = c.whole ∙ go c.most
  where
    go : (n : ℕ) → with_records n (drop at s) t ≡ t
    go zero = refl
    go (suc n) = rw (eq-eqb (length (drop at s)) 0 (omega (arith, h, length-drop at s)))
