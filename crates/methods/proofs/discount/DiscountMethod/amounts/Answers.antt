use Rattle.std.proofs.Common.{◌-◌, get_or, Ok, sym, ap, ◌∙◌, arith, rules}
use Rattle.methods.specs.Lowered.{lowered}
use Rattle.methods.specs.Lowering.{lowered_all}
use Rattle.methods.proofs.Answering.{all_ok, all_within}
use Rattle.methods.proofs.Filled.{made_at}
use Rattle.methods.proofs.discount.DiscountMethod.amounts.Goals as goal

pub returns : goal.returns
returns g c =
    let m = c.args.self.now.method in
    let pool = c.args.pool in
    let xs = g.M.Method.amounts m pool in
    let figures = c.args.self.now.figures in
    let amounts = c.in_ok-amounts.amounts in
    let made = c.from_fn.ensures.items in
    let met = g.met.M.Method in
    let told = all_ok pool xs amounts c.in_ok-amounts.ensures in
    ap Ok (lowered_all xs figures _ (omega (arith, met.allotted m pool, met.few m)) made.long
    (λ k h. made_at _ (λ k. get_or amounts k 0 - get_or figures k 0) _ _ 64 k 0 h (λ k y q h e. search rules) made ∙ ap (λ ys. get_or ys k 0 - get_or figures k 0) told.1))
    ∙ sym (all_within pool (lowered xs figures) told.0)
