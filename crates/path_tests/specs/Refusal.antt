-- Document 01's refusals of "path over lent candidates" before 14: 15, 16, 17, 8 and 13, in this order.
use Rattle.std.specs.Prelude.{ℕ, Bool, true, ◌&&◌, cond, List, Result, Ok, Err, ltb, leb, Float, length}
use Rattle.base_terms.specs.Lists.{all_of}
use Rattle.base_terms.specs.Work.{work_ok}
use Rattle.path_pieces.specs.declared.lengths.Lengths.{Lengths}
use Rattle.path_pieces.specs.declared.mode.Mode.{Mode}
use Rattle.path_pieces.specs.declared.mode.Mode.TheVariants.{ByLength, ByCount}
use Rattle.path_tests.specs.Ends.{lists_ok, ends_ok}
use Rattle.path_tests.specs.Costs.{is_cost, lengths_ok}
use Rattle.path_tests.specs.declared.refusal.Refusal.{Refusal}
use Rattle.path_tests.specs.declared.refusal.Refusal.TheVariants.{BadLists, BadEnds, BadCosts, BadCount, ShortWork}

-- 8: the highest count
abbrev pub max_count : ℕ
max_count = 1048576

-- a count is above 0 and within its limit
unfoldable pub is_count : ℕ → Bool
is_count count = ltb 0 count && leb count max_count

-- 8: by count only, the count
unfoldable pub count_ok : Mode → Bool
count_ok ByLength = true
count_ok (ByCount count) = is_count count

-- ---- the chain

-- what the rest of the chain says where a test passes, and else why it does not
abbrev pub or_else : Bool → Refusal → Result Unit Refusal → Result Unit Refusal
or_else passes refusal rest = cond passes rest (Err refusal)

-- the first test that fails, in document 01's order; 17 is that of the cuts' costs and that of the lengths
unfoldable pub first_refusal_of : List ℕ → List ℕ → List Float → Lengths → Mode → ℕ → ℕ → ℕ → Result Unit Refusal
first_refusal_of left right cost l mode n32 n64 nf =
    or_else (lists_ok (length left) (length right) (length cost)) BadLists
    (or_else (ends_ok left right l.limit) BadEnds
    (or_else (all_of is_cost cost) BadCosts
    (or_else (lengths_ok l) BadCosts
    (or_else (count_ok mode) BadCount
    (or_else (work_ok (length left) n32 n64 nf) ShortWork
    (Ok tt))))))

-- document 01's number for each case
abbrev pub number_of : Refusal → ℕ
number_of BadLists = 15
number_of BadEnds = 16
number_of BadCosts = 17
number_of BadCount = 8
number_of ShortWork = 13
