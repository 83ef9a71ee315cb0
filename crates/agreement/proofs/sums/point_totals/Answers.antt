use Rattle.std.proofs.Common.{◌≡◌, sum_by, min, arith, rules}
use Rattle.records.specs.declared.point.Point.{Point}
use Rattle.agreement.proofs.Summing.{small_total}
use Rattle.agreement.proofs.sums.point_totals.Goals as goal

pub returns-clause-small : goal.returns-clause-small
returns-clause-small c =
    let entry : c.sum.result ≡ sum_by (λ (p : Point). min p.entry_cost 4294967295) c.args.points.now = search rules in
    let exit : c.sum-2.result ≡ sum_by (λ (p : Point). min p.exit_cost 4294967295) c.args.points.now = search rules in (
      omega (arith, entry, small_total (λ (p : Point). p.entry_cost) c.args.points.now),
      omega (arith, exit, small_total (λ (p : Point). p.exit_cost) c.args.points.now),
    )
