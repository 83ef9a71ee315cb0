use Rattle.std.proofs.Common.{◌∙◌, arith, length-append}
use Rattle.yearfile.proofs.Laying.{next, laid_more}
use Rattle.yearfile.proofs.lay.lay_all.Goals as goal

pub lay-end-requires : goal.lay-end-requires
lay-end-requires g c =
    let e = next c.args.items.now c.loop-item.item-index c.item-item.result c.loop-item-test.true c.item-item.is in
    let so = rw e at c.loop-item.invariant in
    record { ranged = so.ranged.0; room = omega (arith, simp length-append at so.end) }

pub loop-item-preserved : goal.loop-item-preserved
loop-item-preserved g c =
    let e = next c.args.items.now c.loop-item.item-index c.item-item.result c.loop-item-test.true c.item-item.is in
    let so = rw e at c.loop-item.invariant in
    let l = simp length-append at so.end in
    record {
      ranged = so.ranged.1;
      after = rw (c.lay-end.ensures.end, c.lay-end.ensures.after) (laid_more c.loop-item.end (g.T.Lay.bytes c.item-item.result) _ c.loop-item.buffer (omega arith) ∙ so.after);
      end = omega arith;
    }
