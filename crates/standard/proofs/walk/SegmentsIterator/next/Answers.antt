use Rattle.std.proofs.Common.{rules, ◌≡◌, ℕ, suc, ◌+◌, ◌≤◌, List, length, drop, sum, sym, ap, ◌∙◌, subst, arith}
use Rattle.std.specs.List.{prefix_len}
use Rattle.records.specs.declared.element.Element.{Element}
use Rattle.records.specs.declared.network_use.NetworkUse.{NetworkUse}
use Rattle.standard.specs.Allotted.{demands, uses_of}
use Rattle.standard.specs.Order.{own, Placed, Rises}
use Rattle.standard.specs.Portions.{portions}
use Rattle.standard.proofs.Fronts.{own_after, own_later, front_is}
use Rattle.standard.proofs.Segmenting.{length-portions, segments-step}
use Rattle.standard.proofs.walk.SegmentsIterator.next.Goals as goal

pub invariant_of-self : goal.invariant_of-self
invariant_of-self c =
    let t = c.next.new.self in
    let none : length t.items.now ≡ 0 = sym (length-portions (λ (e : Element). e.cost) t.total t.before t.items.now) ∙ ap length c.in_err-element.ensures.steps.1 in
    record { few = omega arith; rises = c.args.self.now.rises; light = λ e h g. absurd (omega arith); placed = c.args.self.now.placed }

pub invariant_of-self-2 : goal.invariant_of-self-2
invariant_of-self-2 c =
    let s = c.args.self.now in
    let t = c.next.new.self in
    let us = s.uses.now in
    let cost : Element → ℕ = λ e. e.cost in
    let some : length s.elements.items.now ≡ suc (length t.items.now) = sym (length-portions cost s.elements.total s.elements.before s.elements.items.now) ∙ ap length c.in_ok-element.ensures.steps ∙ ap suc (length-portions cost t.total t.before t.items.now) in
    let back : c.split_at.result.1.now ≡ drop (prefix_len (own s.place) us) us = c.split_at.ensures.back ∙ ap (λ n. drop n us) c.own_uses.ensures.is in
    let later : (e : ℕ) → s.place + 1 ≤ e → uses_of e us ≡ uses_of e c.split_at.result.1.now = λ e h. own_later s.place e us (omega arith) ∙ ap (uses_of e) (sym back) in
    record {
      few = omega arith;
      rises = subst (Rises (s.place + 1)) (sym back) (own_after s.place us s.rises);
      light = λ e h g. subst (λ (vs : List NetworkUse). sum (demands vs) ≤ 10000000) (later e h) (s.light e (omega arith) (omega arith));
      placed = λ e h. subst (Placed 64) (later e h) (s.placed e (omega arith));
    }

pub invariant_of-result : goal.invariant_of-result
invariant_of-result c =
    let s = c.args.self.now in
    let front : c.split_at.result.0.now ≡ uses_of s.place s.uses.now = front_is s.place s.uses.now s.rises c.own_uses.result c.own_uses.ensures.is c.split_at.result.0.now c.split_at.ensures.front in
    let some = ap length c.in_ok-element.ensures.steps in
    record {
      light = subst (λ (us : List NetworkUse). sum (demands us) ≤ 10000000) (sym front) (s.light s.place (omega arith) (omega (arith, length-portions (λ (e : Element). e.cost) s.elements.total s.elements.before s.elements.items.now)));
      placed = subst (Placed 64) (sym front) (s.placed s.place (omega arith));
    }

pub returns-clause-steps : goal.returns-clause-steps
returns-clause-steps c =
    let s = c.args.self.now in
    let t = c.next.new.self in
    let us = s.uses.now in
    let front : c.split_at.result.0.now ≡ uses_of s.place us = front_is s.place us s.rises c.own_uses.result c.own_uses.ensures.is c.split_at.result.0.now c.split_at.ensures.front in
    let back : c.split_at.result.1.now ≡ drop (prefix_len (own s.place) us) us = c.split_at.ensures.back ∙ ap (λ n. drop n us) c.own_uses.ensures.is in
    segments-step s.place _ _ (portions (λ (e : Element). e.cost) t.total t.before t.items.now) us c.split_at.result.0.now c.split_at.result.1.now c.in_ok-element.ensures.steps front back

pub returns-clause-goes : goal.returns-clause-goes
returns-clause-goes c =
    let e = ap length (returns-clause-steps c) in
    search rules
