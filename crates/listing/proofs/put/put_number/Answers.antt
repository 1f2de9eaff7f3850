-- `put::put_number`: what `io::decimal` makes of a number are the digits of `decimal_of`.
use mathlib.Core.Path.{◌∙◌}
use Rattle.listing.proofs.TextLaws.{decimal_is}
use Rattle.listing.proofs.put.put_number.Goals as goal

pub put_text-requires : goal.put_text-requires
put_text-requires c = rw (c.decimal-k.ensures.digits ∙ decimal_is _ _ c.decimal-k.ensures.len) c.requires

pub returns : goal.returns
returns c = rw (c.decimal-k.ensures.digits ∙ decimal_is _ _ c.decimal-k.ensures.len) at c.put_text.ensures
