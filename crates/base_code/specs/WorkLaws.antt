-- Test 13: a list has 16 entries for each of n exactly where a sixteenth of its length is n or more; and what the test leaves.
use Rattle.std.specs.Prelude.{◌≡◌, ℕ, ◌/◌, ◌<◌, ◌≤◌, true, false, ◌&&◌, List, length, from_bits, nat_le}
use Rattle.std.proofs.Common.{sym, ◌∙◌, inl, inr, arith, leb-true, le-leb}
use Rattle.std.proofs.lemmas.Bool.{lt-leb}
use Rattle.std.specs.Float.{binary64}
use Rattle.base_laws.specs.Tests.{both, lt_or_le}
use Rattle.base_terms.specs.Lists.{filled}
use Rattle.base_terms.specs.Work.{Work, cleared, work_length, work_ok}

-- a sixteenth of the length is n or more: the list is long enough
pub long_enough : (n len : ℕ) → n ≤ len / 16 → nat_le (work_length n) len ≡ true
long_enough n len h = le-leb (work_length n) len (omega arith)

-- a sixteenth of the length is below n: the list is too short
pub too_short : (n len : ℕ) → len / 16 < n → nat_le (work_length n) len ≡ false
too_short n len h = lt-leb (work_length n) len (omega arith)

-- either way
by_sixteenth : (n len : ℕ) → nat_le n (len / 16) ≡ nat_le (work_length n) len
by_sixteenth n len =
    elim (lt_or_le (len / 16) n) [
      | inl l ↦ lt-leb n (len / 16) l ∙ sym (too_short n len l)
      | inr l ↦ le-leb n (len / 16) l ∙ sym (long_enough n len l)
    ]

-- so for the three lists
pub by_sixteenths : (n n32 n64 nf : ℕ) → (nat_le n (n32 / 16) && nat_le n (n64 / 16) && nat_le n (nf / 16)) ≡ work_ok n n32 n64 nf
unfolding work_ok
by_sixteenths n n32 n64 nf = rw (by_sixteenth n n32, by_sixteenth n n64, by_sixteenth n nf)

-- each work list has 16 entries for each of n
pub record WorkIn (n n32 n64 nf : ℕ) : Type 0 where
  pub enough32 : work_length n ≤ n32
  pub enough64 : work_length n ≤ n64
  pub enoughf : work_length n ≤ nf

-- test 13 passes lists of that length alone
pub work_parts : (n n32 n64 nf : ℕ) → work_ok n n32 n64 nf ≡ true → WorkIn n n32 n64 nf
unfolding work_ok
work_parts n n32 n64 nf e =
    let p = both (nat_le (work_length n) n32 && nat_le (work_length n) n64) (nat_le (work_length n) nf) e in
    let q = both (nat_le (work_length n) n32) (nat_le (work_length n) n64) p.0 in
    record {
      enough32 = leb-true (work_length n) n32 q.0;
      enough64 = leb-true (work_length n) n64 q.1;
      enoughf = leb-true (work_length n) nf p.1;
    }

-- ---- cleared lists

-- cleared lists of one length are equal
pub filled_same : {A : Type 0} (v : A) (xs ys : List A) → length xs ≡ length ys → filled v xs ≡ filled v ys
unfolding filled
filled_same v xs ys e = rw e

-- so are cleared work lists
pub cleared_same : (v w : Work) → length v.u32s ≡ length w.u32s → length v.u64s ≡ length w.u64s → length v.f64s ≡ length w.f64s
    → cleared v ≡ cleared w
cleared_same v w a b c =
    rw (filled_same 0 v.u32s w.u32s a, filled_same 0 v.u64s w.u64s b, filled_same (from_bits binary64 0) v.f64s w.f64s c)
