use Rattle.std.proofs.Common.{◌+◌, get_or, ap, ◌∙◌, arith}
use Rattle.standard.specs.Allotted.{of_part}
use Rattle.standard.proofs.Adding.{added_none, added_all, inside, share_fits, added_at}
use Rattle.standard.proofs.segments.Segment.add_amounts.Goals as goal

pub loop-used-init : goal.loop-used-init
loop-used-init g c = added_none _ _ _ _ (omega arith) c.args.self.now.placed (rw c.into_iter-used-iterator.ensures.into_iter_gives c.new-used-items.ensures)

pub offset_bounds-amounts-from : goal.offset_bounds-amounts-from
offset_bounds-amounts-from g c =
    let i = inside _ _ _ _ _ c.loop-used.invariant _ _ c.in-Some.ensures.steps in
    omega (arith, c.from.ensures, i)

pub bounds-amounts-from : goal.bounds-amounts-from
bounds-amounts-from g c = omega (arith, c.from.ensures, inside _ _ _ _ _ c.loop-used.invariant _ _ c.in-Some.ensures.steps)

pub overflow_add-amounts : goal.overflow_add-amounts
overflow_add-amounts g c =
    let fits = share_fits _ _ _ _ _ c.loop-used.invariant _ _ c.in-Some.ensures.steps in
    let i = inside _ _ _ _ _ c.loop-used.invariant _ _ c.in-Some.ensures.steps in
    omega (arith, ap (λ n. get_or c.loop-used.amounts n 0) c.from.ensures, fits, c.requires.room c.in-Some.used.item.now.point i)

pub bounds-amounts-from-in-loop-used : goal.bounds-amounts-from-in-loop-used
bounds-amounts-from-in-loop-used g c = omega (arith, c.from.ensures, inside _ _ _ _ _ c.loop-used.invariant _ _ c.in-Some.ensures.steps)

pub loop-used-preserved : goal.loop-used-preserved
loop-used-preserved g c = added_at _ _ _ _ _ c.loop-used.invariant _ _ c.in-Some.ensures.steps c.from.result c.share.result c.from.ensures c.share.ensures

pub returns : goal.returns
returns g c = λ p h.
    added_all _ _ _ _ _ c.loop-used.invariant c.in-None.ensures.steps.0 p h
    ∙ ap (λ n. get_or c.args.amounts.now p 0 + of_part n p c.args.self.now.uses.now) c.part-part.ensures
