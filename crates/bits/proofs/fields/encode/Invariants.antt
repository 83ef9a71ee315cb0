use Rattle.std.proofs.Common.{◌*◌}
use Rattle.bits.specs.Layout.{packed}
use Rattle.bits.specs.Written.{written}
use Rattle.bits.proofs.Turns.{Wrote}
use Rattle.bits.proofs.fields.encode.Given as goal

abbrev pub invariant-loop-field : goal.invariant-loop-field
invariant-loop-field g l = Wrote (packed l.fields l.values) (8 * g.row.M) (written l.bits) l.field-iterator.a.rest.now l.field-iterator.b.rest.now
