use Rattle.bits.specs.Layout.{first_bad}
use Rattle.bits.proofs.Turns.{Checked}
use Rattle.bits.proofs.fields.check.Given as goal

abbrev pub invariant-loop-i : goal.invariant-loop-i
invariant-loop-i l = Checked (first_bad l.«record» 1 l.fields l.values) l.«record» l.i-iterator.count l.i-iterator.iter.a.rest.now l.i-iterator.iter.b.rest.now
