-- What each function that writes a part of the listing asks for and promises: bytes written from a place of a list on, and nothing else.
use Rattle.std.specs.Prelude.{ℕ, ◌+◌, ◌≤◌, ◌≡◌, List, length}
use Rattle.std.proofs.lemmas.List.Edits.{sets}

-- the list has so many bytes from `at` on
pub record Room (size : ℕ) (list : List ℕ) (at : ℕ) : Type 0 where
  pub enough : at + size ≤ length list

-- `text` is written over the list from `at` on, and `next` is the place behind it
pub record Written (text before : List ℕ) (at : ℕ) (after : List ℕ) (next : ℕ) : Type 0 where
  pub bytes : after ≡ sets before at text
  pub behind : next ≡ at + length text
