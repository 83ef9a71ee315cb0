use Rattle.standard.specs.Portions.{to_come}
use Rattle.standard.proofs.Adding.{Added}
use Rattle.standard.proofs.segments.Segment.add_amounts.Given as goal

abbrev pub invariant-loop-used : goal.invariant-loop-used
invariant-loop-used g l = Added l.initial.amounts l.part.cents l.self.uses.now l.amounts (to_come l.used-iterator)
