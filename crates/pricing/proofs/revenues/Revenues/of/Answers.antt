use Rattle.std.proofs.Common.{◌≡◌, ℕ, ◌-◌, ◌/◌, List, get_or, ℤ, nat_abs, ap, ◌∙◌, arith, lit<, w64, to_z, of_z}
use Rattle.records.specs.declared.header.Header.{Header}
use Rattle.year.specs.Holds.{contents}
use Rattle.year.specs.declared.year.Year.{Year}
use Rattle.pricing.specs.Revenues.{results, l1_of, l1, rest_of, rest, common_revenue}
use Rattle.pricing.specs.Signs.{not_below_zero}
use Rattle.pricing.proofs.Results.{common_most, results_most, rest_small, l1_small, locational_most}
use Rattle.pricing.proofs.Signed.{kept}
use Rattle.pricing.proofs.revenues.Revenues.of.Goals as goal

-- L1 and the rest of a year come through 64 bits as they are, from a header and results that are the year's
module _ (y : Year) (h : Header) (rs : List ℕ) (net : ℤ) (same : h ≡ (contents y).header) (found : rs ≡ results (contents y))
    (is : net ≡ l1_of (get_or rs 2 0 / 2) (to_z w64 (of_z w64 h.locational_residue))) where
  l1-kept : to_z w64 (of_z w64 net) ≡ l1 (contents y)
  unfolding l1
  l1-kept =
      let residue = kept h.locational_residue (contents y).header.locational_residue 10000000000 (ap (λ (x : Header). x.locational_residue) same) y.figures.2 (lit< tt) in
      kept net (l1 (contents y)) 110000000000 (is ∙ (λ i. l1_of (get_or (found i) 2 0 / 2) (residue i))) (l1_small (contents y) y.figures) (lit< tt)

  rest-kept : (left : ℤ) → left ≡ rest_of (get_or rs 2 0 - get_or rs 2 0 / 2) (to_z w64 (of_z w64 net)) (to_z w64 (of_z w64 h.other_residue)) → to_z w64 (of_z w64 left) ≡ rest (contents y)
  unfolding rest
  rest-kept left e =
      let residue = kept h.other_residue (contents y).header.other_residue 10000000000 (ap (λ (x : Header). x.other_residue) same) y.figures.3 (lit< tt) in
      kept left (rest (contents y)) 200000000000 (e ∙ (λ i. rest_of (get_or (found i) 2 0 - get_or (found i) 2 0 / 2) (l1-kept i) (residue i))) (rest_small (contents y) y.figures) (lit< tt)

pub returns-clause-rest : goal.returns-clause-rest
returns-clause-rest c =
    rest-kept c.args.year.now.year.now _ _ _ c.header-header.ensures c.results.ensures c.l1_of-l1.ensures _ c.rest_of.ensures

pub invariant_of-result-clause-shares : goal.invariant_of-result-clause-shares
invariant_of-result-clause-shares c =
    let y = c.args.year.now.year.now in
    let m = results_most (contents y) in
    let e = c.results.ensures in
    (omega (arith, ap (λ xs. get_or xs 0 0) e, y.figures), omega (arith, ap (λ xs. get_or xs 1 0) e, y.figures))

pub invariant_of-result-clause-revenues : goal.invariant_of-result-clause-revenues
unfolding common_revenue
invariant_of-result-clause-revenues c =
    let y = c.args.year.now.year.now in
    let h = c.header-header.ensures in
    let r = c.results.ensures in (
      omega (arith, c.not_below_zero.ensures, ap not_below_zero (l1-kept y _ _ _ h r c.l1_of-l1.ensures), locational_most (contents y) y.figures),
      omega (arith, ap (λ xs. get_or xs 3 0) r, ap (λ (x : Header). x.common_operating_cost) h, common_most (contents y) y.figures),
    )

pub invariant_of-result-clause-small : goal.invariant_of-result-clause-small
invariant_of-result-clause-small c =
    let y = c.args.year.now.year.now in
    omega (arith, ap nat_abs (rest-kept y _ _ _ c.header-header.ensures c.results.ensures c.l1_of-l1.ensures _ c.rest_of.ensures), rest_small (contents y) y.figures)
