-- What is handed on is the answer of the read itself.
use Rattle.std.specs.Prelude.{◌≡◌, ◌-◌, ◌≤◌, length, IfOk}
use Rattle.std.proofs.Common.{rules}
use borrow.Rule.Slice.PartMut.{mid_of}
use Rattle.input_reader.specs.InputLaws.{reads_behind}
use Rattle.input_reader.proofs.input.read_behind.Goals as goal

pub returns : goal.returns
returns g c =
    let room = length c.args.buf.now - c.args.done in
    let same : length c.read.new.buf ≡ length (mid_of c.args.done room c.args.buf.now) = search rules in
    let moved : IfOk c.read.result (λ n. n ≤ length (mid_of c.args.done room c.args.buf.now)) = search rules in
    reads_behind c.args.done c.args.buf.now c.read.new.buf c.read.result c.requires same moved
