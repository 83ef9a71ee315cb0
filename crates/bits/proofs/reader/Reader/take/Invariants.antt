use Rattle.bits.specs.Ahead.{ahead}
use Rattle.bits.proofs.Pieces.{Taken}
use Rattle.bits.proofs.reader.Reader.take.Given as goal

abbrev pub invariant-loop-left : goal.invariant-loop-left
invariant-loop-left l = Taken (ahead l.initial.self) l.width l.value l.left (ahead l.self)

abbrev pub decreases-loop-left : goal.decreases-loop-left
decreases-loop-left l = l.left
