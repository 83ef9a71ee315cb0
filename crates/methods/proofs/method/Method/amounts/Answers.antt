use Rattle.std.proofs.Common.{◌≤◌, Ok, sym, ap, ◌∙◌, arith, rules}
use Rattle.std.specs.Result.{result_unwrap_or}
use Rattle.methods.specs.Asked.{asked}
use Rattle.methods.proofs.Answering.{asked_or_zero, all_within}
use Rattle.methods.proofs.Filled.{padded_by}
use Rattle.methods.proofs.method.Method.amounts.Goals as goal

pub returns : goal.returns
returns g c =
    let m = c.args.self.now in
    let pool = c.args.pool in
    let xs = g.Self.Method.amounts m pool in
    let count = g.Self.Method.points m in
    let met = g.met.Self.Method in
    let small : pool ≤ 100000000000 = omega arith in
    ap Ok (padded_by _ (λ k. result_unwrap_or (asked count pool k xs) 0) _ _ xs (omega (arith, met.allotted m pool, met.few m)) (λ k y q h e. search rules) c.from_fn.ensures.items
    (λ k h. asked_or_zero count pool k xs small (met.allotted m pool)))
    ∙ sym (all_within pool xs small)
