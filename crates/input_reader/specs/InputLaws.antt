-- What one answer of `read` says, how a reading goes on from it, and what it leaves (`reads_fit`, `reads-length`, `reads_kept`).
use Rattle.std.specs.Prelude.{◌≡◌, refl, List, ℕ, ◌+◌, ◌-◌, ◌≤◌, ◌<◌, length, take, Result, Ok, Err, IfOk}
use Rattle.std.proofs.Common.{sym, ap, subst, ◌∙◌, arith, take-take}
use borrow.Rule.Slice.PartMut.{mid_of, put_mid, mid_len, same_len_mid, take_put}
use Rattle.std.specs.declared.io.Error.{Error}
use Rattle.input_reader.specs.Input.{ReadBehind, Reads, full, ended, failed, more, FitsIn}

-- ---- one read

-- what was put behind the front leaves it as it was
pub reads_behind : (done : ℕ) (before last : List ℕ) (answer : Result ℕ Error) → done < length before
    → length last ≡ length (mid_of done (length before - done) before) → IfOk answer (λ n. n ≤ length (mid_of done (length before - done) before))
    → ReadBehind done before answer (put_mid done (length before - done) before last)
reads_behind done before last answer h e m = record {
  room = h;
  front_stays = take_put done (length before - done) before last (omega (arith, h));
  length_stays = same_len_mid done (length before - done) before last e;
  moved = subst (λ (most : ℕ). IfOk answer (λ n. n ≤ most)) (mid_len done (length before) before (omega arith)) m;
}

-- ---- one read after another

-- what was read so far lies in the list, whose length stays; and the reads from here on are some of those from the start
pub record SoFar (buffer₀ buffer : List ℕ) (done : ℕ) : Type 0 where
  pub inside : done ≤ length buffer
  pub same_length : length buffer ≡ length buffer₀
  pub onwards : (r : Result ℕ Error) (after : List ℕ) → Reads done buffer r after → Reads 0 buffer₀ r after

-- before the first read
pub nothing_read : (buffer : List ℕ) → SoFar buffer buffer 0
nothing_read buffer = record { inside = omega arith; same_length = refl; onwards = λ r after w. w }

module _ {buffer₀ buffer : List ℕ} {done : ℕ} (so_far : SoFar buffer₀ buffer done) where
  -- the list is full
  pub read_full : length buffer ≤ done → Reads 0 buffer₀ (Ok done) buffer
  read_full h = so_far.onwards (Ok done) buffer (full done buffer (omega (arith, so_far.inside, h)))

  module _ {answer : Result ℕ Error} {after : List ℕ} (read : ReadBehind done buffer answer after) where
    saying : (a : Result ℕ Error) → answer ≡ a → ReadBehind done buffer a after
    saying a e = subst (λ (b : Result ℕ Error). ReadBehind done buffer b after) e read

    -- a read leaves the length as it was at the start
    pub read_same_length : length after ≡ length buffer₀
    read_same_length = read.length_stays ∙ so_far.same_length

    -- the input ended
    pub read_ended : answer ≡ Ok 0 → Reads 0 buffer₀ (Ok done) after
    read_ended e = so_far.onwards (Ok done) after (ended done buffer after (saying (Ok 0) e))

    -- the read failed
    pub read_failed : (error : Error) → answer ≡ Err error → Reads 0 buffer₀ (Err error) after
    read_failed error e = so_far.onwards (Err error) after (failed done error buffer after (saying (Err error) e))

    module _ {k : ℕ} (e : answer ≡ Ok k) (some : 0 < k) where
      -- there is room for them
      pub some_more : k ≤ length buffer - done
      some_more = (saying (Ok k) e).moved

      -- and it goes on behind them
      pub read_more : SoFar buffer₀ after (done + k)
      read_more = record {
        inside = omega (arith, read.room, some_more, read.length_stays);
        same_length = read_same_length;
        onwards = λ r last w. so_far.onwards r last (more done k buffer after r last some (saying (Ok k) e) w);
      }

-- ---- what all the reads leave

-- the bytes that were read lie in the list
pub reads_fit : {done : ℕ} {buffer after : List ℕ} {r : Result ℕ Error} → Reads done buffer r after → FitsIn r (length after)
reads_fit (full done buffer e) = omega (arith, e)
reads_fit (ended done buffer after w) = omega (arith, w.room, w.length_stays)
reads_fit (failed done error buffer after w) = tt
reads_fit (more done k buffer next r after s w on) = reads_fit on

-- what was read stays where it is, whatever is read behind it
pub reads_kept : {done : ℕ} {buffer after : List ℕ} {r : Result ℕ Error} → Reads done buffer r after → take done after ≡ take done buffer
reads_kept (full done buffer e) = refl
reads_kept (ended done buffer after w) = w.front_stays
reads_kept (failed done error buffer after w) = w.front_stays
reads_kept (more done k buffer next r after s w on) =
    sym (take-take done (done + k) after (omega arith)) ∙ ap (take done) (reads_kept on) ∙ take-take done (done + k) next (omega arith) ∙ w.front_stays
