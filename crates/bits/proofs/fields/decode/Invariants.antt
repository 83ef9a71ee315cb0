use Rattle.bits.specs.Ahead.{ahead}
use Rattle.bits.specs.Bits.{bits}
use Rattle.bits.proofs.Turns.{Read}
use Rattle.bits.proofs.fields.decode.Given as goal

abbrev pub invariant-loop-i : goal.invariant-loop-i
invariant-loop-i g l = Read l.fields (bits l.bytes) l.values l.i g.row.N (ahead l.bits)
