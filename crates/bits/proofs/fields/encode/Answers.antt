use Rattle.std.proofs.Common.{◌≡◌, ◌*◌, refl, ap, ◌∙◌, arith, rules}
use Rattle.std.proofs.lemmas.Iterator.{empty_from_Zip}
use Rattle.bits.specs.Bits.{bytes_of}
use Rattle.bits.specs.Layout.{packed}
use Rattle.bits.specs.Written.{written}
use Rattle.bits.proofs.Turns.{wrote_more, wrote_all}
use Rattle.bits.proofs.fields.encode.Goals as goal

pub loop-field-init : goal.loop-field-init
loop-field-init g c =
    let fs = c.args.fields.now in
    let vs = c.args.values.now in
    let a : c.into_iter-field-iterator.result.a.rest.now ≡ fs = search rules in
    let b : c.into_iter-field-iterator.result.b.rest.now ≡ vs = search rules in
    rw (a, b, c.new-bits.ensures) (record { bits = refl; room = omega (arith, c.requires.whole); narrow = c.requires.narrow; count = omega arith })

pub put-requires : goal.put-requires
put-requires g c =
    let w = rw (c.in-Some.ensures.steps.0, c.in-Some.ensures.steps.1) at c.loop-field.invariant in
    (search rules, (omega (arith, w.narrow.1), omega (arith, w.room)))

pub loop-field-preserved : goal.loop-field-preserved
loop-field-preserved g c =
    let w = rw (c.in-Some.ensures.steps.0, c.in-Some.ensures.steps.1) at c.loop-field.invariant in
    wrote_more _ _ (written c.loop-field.bits) _ c.in-Some.field.now _ c.in-Some.value.now _ w c.put.ensures

pub finish-requires : goal.finish-requires
finish-requires g c =
    let spent = empty_from_Zip _ c.next.new.self _ c.in-None.is c.next.ensures.steps c.loop-field.invariant.count in
    let w = wrote_all _ (8 * g.row.M) (written c.loop-field.bits) (rw (spent.0, spent.1) at c.loop-field.invariant) in
    (search rules, (search rules, w.1))

pub returns : goal.returns
returns g c =
    let spent = empty_from_Zip _ c.next.new.self _ c.in-None.is c.next.ensures.steps c.loop-field.invariant.count in
    let w = wrote_all (packed c.args.fields.now c.args.values.now) _ (written c.loop-field.bits) (rw (spent.0, spent.1) at c.loop-field.invariant) in
    c.finish.ensures ∙ ap (bytes_of g.row.M) w.0
