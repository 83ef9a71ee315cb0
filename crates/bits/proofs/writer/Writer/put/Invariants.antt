use Rattle.bits.specs.Written.{written}
use Rattle.bits.proofs.Pieces.{Put}
use Rattle.bits.proofs.writer.Writer.put.Given as goal

abbrev pub invariant-loop-left : goal.invariant-loop-left
invariant-loop-left g l = Put (written l.initial.self) l.width l.value l.left (written l.self)

abbrev pub decreases-loop-left : goal.decreases-loop-left
decreases-loop-left g l = l.left
