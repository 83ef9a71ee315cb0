use Rattle.std.proofs.Common.{◌≤◌, arith}
use Rattle.bits.specs.Ahead.{ahead}
use Rattle.bits.proofs.Pieces.{taken_more, taken_fits, taken_all}
use Rattle.bits.proofs.reader.Reader.take.Goals as goal

pub loop-left-preserved : goal.loop-left-preserved
loop-left-preserved c =
    let l : c.min-count.result ≤ c.loop-left.left = omega arith in
    taken_more (ahead c.args.self.now) c.args.width c.loop-left.value c.loop-left.left (ahead c.loop-left.self) c.min-count.result c.piece.result (ahead c.piece.new.self) c.loop-left.invariant c.requires.width l c.piece.ensures.value c.piece.ensures.small c.piece.ensures.after

pub overflow_add-value : goal.overflow_add-value
overflow_add-value c =
    let l : c.min-count.result ≤ c.loop-left.left = omega arith in
    record { fits = taken_fits (ahead c.args.self.now) c.args.width c.loop-left.value c.loop-left.left (ahead c.loop-left.self) c.min-count.result c.piece.result c.loop-left.invariant c.requires.width l c.piece.ensures.small }

pub returns : goal.returns
returns c =
    let t = taken_all (ahead c.args.self.now) c.args.width c.loop-left.value c.loop-left.left (ahead c.loop-left.self) c.loop-left.invariant (omega arith) in
    record { value = t.0; small = t.1; after = t.2 }
