use Rattle.std.proofs.Common.{◌≡◌, map, take, arith}
use Rattle.std.proofs.lemmas.Grind.{common_steps}
use Rattle.std.proofs.lemmas.Iterator.{YieldsList-from_slice, YieldsList-from_take}
use Rattle.std.proofs.lemmas.Iterator.Consumers.{YieldsList-end}
use Rattle.pricing.proofs.page.PageDisplay.fmt.Goals as goal

pub loop-charges-preserved : goal.loop-charges-preserved
loop-charges-preserved g c = grind (arith, common_steps)

pub returns-clause-writes : goal.returns-clause-writes
returns-clause-writes g c =
    let p = c.args.self.now in
    let end = YieldsList-end (YieldsList-from_take p.points (YieldsList-from_slice p.charges (cc)) (cc)) c.loop-charges.yielded _ c.loop-charges.yielded_by _ _ c.in-None.is c.next.ensures.steps in
    let all : map (λ x. x.now) c.loop-charges.yielded ≡ take p.points p.charges = end.0 in
    grind (arith, common_steps)
