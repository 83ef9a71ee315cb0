use Rattle.std.proofs.Common.{length, ap, ◌∙◌, arith}
use Rattle.std.proofs.lemmas.List.{take_rest, length-drop}
use Rattle.bits.proofs.Trips.{length_record}
use Rattle.yearfile.proofs.Laying.{written}
use Rattle.yearfile.proofs.rows.lay.Goals as goal

pub unwrap-requires : goal.unwrap-requires
unwrap-requires g c =
    let n = ap length (take_rest c.args.buffer.now c.args.at) ∙ length-drop c.args.at c.args.buffer.now in
    written g.T.Row.form c.args.item.now _ c.write.result c.requires.ranged (omega (arith, length_record g.T.Row.form c.args.item.now)) c.write.ensures.fault

pub returns-clause-end : goal.returns-clause-end
returns-clause-end g c =
    let n = rw c.unwrap.ensures at c.write.ensures.count in
    omega (arith, length_record g.T.Row.form c.args.item.now, g.met.T.Row.sized.size)
