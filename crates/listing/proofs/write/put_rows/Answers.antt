-- `write::put_rows` writes one line after another.
use Rattle.listing.specs.Lines.{lines_start, lines_room, lines_next, lines_done}
use Rattle.listing.proofs.write.put_rows.Goals as goal

pub loop-i-init : goal.loop-i-init
loop-i-init g c = lines_start c.requires.room

pub put-next-requires : goal.put-next-requires
put-next-requires g c = lines_room c.loop-i.invariant c.loop-i-test.true

pub loop-i-preserved : goal.loop-i-preserved
loop-i-preserved g c = lines_next c.loop-i.invariant c.loop-i-test.true c.put-next.ensures

pub returns : goal.returns
returns g c = lines_done c.loop-i.invariant c.loop-i-test.false
