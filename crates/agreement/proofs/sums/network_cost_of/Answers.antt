use Rattle.std.proofs.Common.{◌≡◌, sum_by, min, arith, rules}
use Rattle.records.specs.declared.element.Element.{Element}
use Rattle.agreement.proofs.Summing.{small_total}
use Rattle.agreement.proofs.sums.network_cost_of.Goals as goal

pub returns-clause-small : goal.returns-clause-small
returns-clause-small c =
    let e : c.sum.result ≡ sum_by (λ (x : Element). min x.cost 4294967295) c.args.elements.now = search rules in
    omega (arith, e, small_total (λ (x : Element). x.cost) c.args.elements.now)
