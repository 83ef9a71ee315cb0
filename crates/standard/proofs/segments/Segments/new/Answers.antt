use Rattle.std.proofs.Common.{◌<◌, eqb, List, length, sum, sym, ap, ◌∙◌, subst, arith}
use Rattle.std.proofs.lemmas.List.Elements.{All-filter}
use Rattle.records.specs.declared.network_use.NetworkUse.{NetworkUse}
use Rattle.records.specs.declared.element.Element.{Element}
use Rattle.year.specs.Holds.{contents}
use Rattle.standard.specs.Allotted.{costs, demands, uses_of}
use Rattle.standard.specs.Order.{Placed, Rises}
use Rattle.standard.proofs.Fronts.{demand-sum}
use Rattle.standard.proofs.OfYear.{uses_rise, uses_placed}
use Rattle.standard.proofs.Segmenting.{length-portions}
use Rattle.standard.proofs.segments.Segments.new.Goals as goal

pub invariant_of-result : goal.invariant_of-result
invariant_of-result c =
    let y = c.args.year.now in
    let d = contents y in
    let es = sym (length-portions (λ (e : Element). e.cost) c.new.result.total c.new.result.before c.new.result.items.now) ∙ ap length c.new.ensures ∙ length-portions (λ (e : Element). e.cost) (sum (costs c.elements.result.now)) 0 c.elements.result.now ∙ ap length c.elements.ensures in
    record {
      few = omega (arith, y.few.1);
      rises = subst (λ (us : List NetworkUse). Rises 0 us) (sym c.uses.ensures) (uses_rise y);
      light = λ e h g. omega (arith, ap (λ us. sum (demands (uses_of e us))) c.uses.ensures, demand-sum e d.uses, y.used e (omega arith));
      placed = λ e h. All-filter (λ (u : NetworkUse). eqb u.element e) (λ u. u.point < 64) c.uses.result.now (subst (λ (us : List NetworkUse). Placed 64 us) (sym c.uses.ensures) (λ k u g. omega (arith, uses_placed y k u g, y.few.0)));
    }
