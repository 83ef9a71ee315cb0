use Rattle.std.proofs.Common.{rules, ℕ, ◌<◌, length, Ok, sym, ap, ◌∙◌, arith}
use Rattle.std.proofs.lemmas.Iterator.{YieldsList-from_map}
use Rattle.std.proofs.lemmas.Iterator.Consumers.{YieldsList-at, YieldsList-from_first, sum_by_from_yields_List, fits_by_from_yields_list}
use Rattle.methods.specs.Asked.{asked}
use Rattle.methods.proofs.Answering.{asked-within}
use Rattle.year.specs.Holds.{contents}
use Rattle.year.specs.declared.year.Year.{Year}
use Rattle.standard.specs.Allotted.{parts_in, amounts_in}
use Rattle.standard.specs.Exchange.{amount_at}
use Rattle.standard.specs.Segments.{loaded, left, segments_in, of_segment}
use Rattle.standard.proofs.Parts.{has_in_year, year_fits}
use Rattle.standard.proofs.allocation.AllocationMethod.amount.Goals as goal

pub sum-requires-clause-fits : goal.sum-requires-clause-fits
sum-requires-clause-fits g c =
    let rule = c.args.self.now.rule in
    let f = g.R.Rule.reduced rule in
    let p = c.args.place in
    let d = contents c.year-year.result.now in
    let pool = c.in_ok-pool.pool.cents in
    fits_by_from_yields_list (of_segment f pool p) (segments_in d) c.map.result 18446744073709551616
    (YieldsList-from_map _ (of_segment f pool p) (YieldsList-at c.map.ensures.source (YieldsList-from_first loaded left _ c.new-2.ensures)) c.map.ensures.closure (λ x r q k. search rules))
    (omega (arith, has_in_year f pool d p, year_fits f pool (g.met.R.Rule.less rule) d p))

pub returns : goal.returns
returns g c =
    let lent = g.Y.Lends.lent c.args.self.now.year in
    let d = contents lent in
    let f = g.R.Rule.reduced c.args.self.now.rule in
    let p = c.args.place in
    let pool = c.in_ok-pool.pool.cents in
    let here : p < length d.points = omega (arith, ap (λ (y : Year). length (contents y).points) c.year-year.ensures, ap length c.points.ensures) in
    let amount = sum_by_from_yields_List (of_segment f pool p) (segments_in d) c.map.result c.sum.result c.sum.ensures.ran
    (YieldsList-from_map _ (of_segment f pool p)
    (YieldsList-at c.map.ensures.source (YieldsList-from_first loaded left _ (c.new-2.ensures ∙ ap (λ (y : Year). segments_in (contents y)) c.year-year.ensures))) c.map.ensures.closure (λ x r q k. search rules)) in
    ap Ok (amount ∙ has_in_year f pool d p ∙ sym (amount_at (length d.points) d.uses (parts_in f d pool) p here))
    ∙ sym (asked-within (length d.points) pool p (amounts_in f d pool) (omega arith) here)
    ∙ ap (λ (n : ℕ). asked (length d.points) n p (amounts_in f d n)) c.in_ok-pool.ensures.value
