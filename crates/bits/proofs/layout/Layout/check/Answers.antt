use Rattle.bits.proofs.Turns.{narrow_all}
use Rattle.bits.proofs.layout.Layout.check.Goals as goal

pub check-requires-clause-narrow : goal.check-requires-clause-narrow
check-requires-clause-narrow g c = narrow_all _ c.args.self.now.narrow
