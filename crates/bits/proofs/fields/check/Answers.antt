use Rattle.std.proofs.Common.{◌≡◌, length, Some, sym, refl, inl, inr, ap, ◌∙◌, arith, rules}
use Rattle.std.proofs.lemmas.List.{nil_from_length}
use Rattle.bits.proofs.Laws.{all_kept}
use Rattle.bits.proofs.Turns.{checked_more, checked_bad, checked_all}
use Rattle.bits.proofs.fields.check.Goals as goal

pub loop-i-init : goal.loop-i-init
loop-i-init c =
    let fs = c.args.fields.now in
    let vs = c.args.values.now in
    let a : c.into_iter-i-iterator.result.iter.a.rest.now ≡ fs = search rules in
    let b : c.into_iter-i-iterator.result.iter.b.rest.now ≡ vs = search rules in
    let n : c.into_iter-i-iterator.result.count ≡ 0 = search rules in
    rw (a, b, n) (record { left = refl; narrow = c.requires.narrow; count = omega arith })

pub keeps-requires : goal.keeps-requires
keeps-requires c =
    let s = c.in-Some.ensures.steps.0 in
    let r = rw (s.0, s.1) at c.loop-i.invariant in
    record { narrow = r.narrow.1; sign = r.narrow.0 }

pub returns-then-not-keeps-clause-fault : goal.returns-then-not-keeps-clause-fault
returns-then-not-keeps-clause-fault c =
    let s = c.in-Some.ensures.steps in
    let r = rw (s.0.0, s.0.1, ← s.1) at c.loop-i.invariant in
    ap Some c.outside.ensures ∙ sym (checked_bad _ c.args.record c.in-Some.i c.in-Some.field.now _ c.in-Some.value.now _ r (sym c.if-not-keeps.ensures))

pub loop-i-preserved : goal.loop-i-preserved
loop-i-preserved c =
    let s = c.in-Some.ensures.steps in
    let r = rw (s.0.0, s.0.1) at c.loop-i.invariant in
    rw s.2 (checked_more _ c.args.record c.loop-i.i-iterator.count c.in-Some.field.now _ c.in-Some.value.now _ r (sym c.if-not-keeps.ensures))

pub returns : goal.returns
returns c =
    let a = c.loop-i.i-iterator.iter.a.rest.now in
    let b = c.loop-i.i-iterator.iter.b.rest.now in
    let n = c.loop-i.invariant.count in
    let z : length a ≡ 0 = elim c.in-None.ensures.steps.0 [ inl (_, p) ↦ p.0 | inr (_, p) ↦ omega (arith, p.0) ] in
    let r = rw (nil_from_length a z, nil_from_length b (omega arith)) at c.loop-i.invariant in
    let e = checked_all _ c.args.record c.loop-i.i-iterator.count r in
    record { fault = sym e; kept = all_kept c.args.record 1 c.args.fields.now c.args.values.now e }
