-- Listings, computed.
use Rattle.std.specs.Prelude.{◌≡◌, refl, [], ◌∷◌}
use Rattle.base_terms.specs.Lists.{tabulate}
use Rattle.listing.specs.Text.{text_bytes, decimal_within, decimal_of, joined}
use Rattle.listing.specs.Listing.{flags_word, reason_word, numbers_line, plan_line, piece_line, cut_line, lines_of, listed, listing_of, refusal_line}

-- document 01's recording R, as it is printed
pub recording_r : listing_of 2 (0 ∷ 400 ∷ 0 ∷ 400 ∷ 700 ∷ 0 ∷ []) (400 ∷ 400 ∷ 0 ∷ [])
    ≡ text_bytes "plan 2 1\npiece 0 400 -\npiece 400 700 -\ncut 400 400 silence\n"
unfolding listing_of listed lines_of piece_line cut_line plan_line numbers_line flags_word reason_word decimal_of decimal_within joined tabulate
recording_r = refl

-- no pieces, and so no cuts
pub empty_plan : listing_of 0 [] [] ≡ text_bytes "plan 0 0\n"
unfolding listing_of listed lines_of plan_line numbers_line decimal_of decimal_within joined tabulate
empty_plan = refl

-- a refusal, as it is printed
pub refusal_19 : refusal_line 19 ≡ text_bytes "refused 19\n"
unfolding refusal_line decimal_of decimal_within joined
refusal_19 = refl
