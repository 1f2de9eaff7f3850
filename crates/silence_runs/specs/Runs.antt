-- Maximal runs of equal flags, as the Rust's `runs` finds them, and lists rewritten run by run.
use Rattle.std.specs.Prelude.{ℕ, suc, ◌-◌, cond, List, [], ◌∷◌, ◌++◌, eqb, take, drop, replicate}

-- so many frames of one flag
pub record Run : Type 0 where
  pub flag : ℕ
  pub frames : ℕ

-- n frames of flag x
abbrev pub run : ℕ → ℕ → Run
run x n = record { flag = x; frames = n }

-- one more frame in front: it joins a run of its own flag, and else is a run of its own
unfoldable pub with_frame : ℕ → List Run → List Run
with_frame x [] = run x 1 ∷ []
with_frame x (r ∷ rs) = cond (eqb x r.flag) (run x (suc r.frames) ∷ rs) (run x 1 ∷ (r ∷ rs))

-- the maximal runs of equal flags, in order
unfoldable pub runs : List ℕ → List Run
runs [] = []
runs (x ∷ xs) = with_frame x (runs xs)

-- the frames of a run, rewritten: of `kind` they become v of the run's length, of another kind they stay
unfoldable pub rewritten : ℕ → (ℕ → ℕ) → Run → List ℕ
rewritten kind v r = replicate r.frames (cond (eqb r.flag kind) (v r.frames) r.flag)

-- the frames of some runs, each rewritten
unfoldable pub rewritten_all : ℕ → (ℕ → ℕ) → List Run → List ℕ
rewritten_all kind v [] = []
rewritten_all kind v (r ∷ rs) = rewritten kind v r ++ rewritten_all kind v rs

-- each maximal run of `kind` becomes v of its length
unfoldable pub each_run : ℕ → (ℕ → ℕ) → List ℕ → List ℕ
each_run kind v xs = rewritten_all kind v (runs xs)

-- one step of it, in place: the flags from start to end become w
unfoldable pub put_run : ℕ → ℕ → ℕ → List ℕ → List ℕ
put_run start end w xs = take start xs ++ (replicate (end - start) w ++ drop end xs)
