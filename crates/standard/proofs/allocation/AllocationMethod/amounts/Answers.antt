use Rattle.std.proofs.Common.{ℕ, List, length, sum_by, Ok, sym, refl, ap, ◌∙◌, arith}
use Rattle.std.proofs.lemmas.List.{get_or-replicate}
use Rattle.methods.specs.Asked.{asked_all}
use Rattle.methods.proofs.Answering.{all_within}
use Rattle.year.specs.Holds.{contents}
use Rattle.year.specs.declared.year.Year.{Year}
use Rattle.standard.specs.Allotted.{parts_in, amounts_in}
use Rattle.standard.specs.Segments.{Loaded, left, segments_in, of_segment}
use Rattle.standard.proofs.Filling.{filled_is}
use Rattle.standard.proofs.OfYear.{uses_placed}
use Rattle.standard.proofs.Parts.{sum_step, has_in_year, year_fits}
use Rattle.standard.proofs.allocation.AllocationMethod.amounts.Goals as goal

pub loop-segment-init : goal.loop-segment-init
loop-segment-init g c =
    let f = g.R.Rule.reduced c.args.self.now.rule in
    let pool = c.in_ok-pool.pool.cents in
    let made = ap left c.into_iter-segment-iterator.ensures.into_iter_gives in
    let rest = made ∙ c.new-segment-items.ensures ∙ ap (λ (y : Year). segments_in (contents y)) c.year.ensures in
    (refl, λ p h. omega (arith, get_or-replicate {A = ℕ} 64 p 0 0 h, ap (λ (xs : List Loaded). sum_by (of_segment f pool p) xs) rest, has_in_year f pool (contents (g.Y.Lends.lent c.args.self.now.year)) p))

pub add_amounts-requires : goal.add_amounts-requires
add_amounts-requires g c =
    let rule = c.args.self.now.rule in
    let d = contents (g.Y.Lends.lent c.args.self.now.year) in
    record { room = λ p h. omega (arith, c.loop-segment.invariant.1 p h, year_fits (g.R.Rule.reduced rule) c.in_ok-pool.pool.cents (g.met.R.Rule.less rule) d p) }

pub loop-segment-preserved : goal.loop-segment-preserved
loop-segment-preserved g c =
    let f = g.R.Rule.reduced c.args.self.now.rule in
    let pool = c.in_ok-pool.pool.cents in
    let steps = c.in-Some.ensures.steps in
    (c.type_inv.amounts, λ p h. omega (arith, c.add_amounts.ensures p h, c.loop-segment.invariant.1 p h, sum_step (of_segment f pool p) _ _ _ steps))

pub returns : goal.returns
returns g c =
    let lent = g.Y.Lends.lent c.args.self.now.year in
    let d = contents lent in
    let f = g.R.Rule.reduced c.args.self.now.rule in
    let pool = c.in_ok-pool.pool.cents in
    ap Ok (filled_is (length d.points) d.uses (parts_in f d pool) lent.few.0 (uses_placed lent) c.loop-segment.amounts c.loop-segment.invariant.0
    (λ p h. omega (arith, c.loop-segment.invariant.1 p h, ap (sum_by (of_segment f pool p)) c.in-None.ensures.steps.0)))
    ∙ sym (all_within pool (amounts_in f d pool) (omega arith))
    ∙ ap (λ (n : ℕ). asked_all n (amounts_in f d n)) c.in_ok-pool.ensures.value
