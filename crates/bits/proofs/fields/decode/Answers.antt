use Rattle.std.proofs.Common.{ℕ, List, replicate, sym, ap, ◌∙◌, subst, arith}
use Rattle.bits.specs.Ahead.{ahead}
use Rattle.bits.specs.Bits.{bits}
use Rattle.bits.specs.Layout.{meaning}
use Rattle.bits.proofs.Digits.{length-bits}
use Rattle.bits.proofs.Turns.{Read, blank, narrow_at, read_none, read_more, read_all, read_width}
use Rattle.bits.proofs.fields.decode.Goals as goal

pub loop-i-init : goal.loop-i-init
loop-i-init g c =
    subst (λ (x : List ℕ). Read c.args.fields.now (bits c.args.bytes.now) (replicate g.row.N 0) 0 g.row.N x) (sym c.new-bits.ensures)
    (read_none c.args.fields.now (bits c.args.bytes.now) g.row.N (omega (arith, length-bits c.args.bytes.now)))

pub take-requires : goal.take-requires
take-requires g c =
    let w = narrow_at c.args.fields.now c.loop-i.i blank (c.requires.narrow) (omega arith) in
    let s = read_width c.args.fields.now c.loop-i.i blank (omega arith) in
    record { width = omega (arith, w.1); room = omega (arith, s, c.loop-i.invariant.room) }

pub meaning-requires : goal.meaning-requires
meaning-requires g c =
    let w = narrow_at c.args.fields.now c.loop-i.i blank (c.requires.narrow) (omega arith) in
    record { narrow = w.1; sign = w.0; small = c.take.ensures.small }

pub loop-i-preserved : goal.loop-i-preserved
loop-i-preserved g c =
    read_more c.args.fields.now (bits c.args.bytes.now) c.loop-i.values c.loop-i.i g.row.N (ahead c.loop-i.bits) (ahead c.take.new.self) _ c.meaning.result c.loop-i.invariant (omega arith) (omega arith)
    (c.meaning.ensures ∙ ap (meaning _ _) c.take.ensures.value) c.take.ensures.after

pub returns : goal.returns
returns g c = read_all c.args.fields.now (bits c.args.bytes.now) c.loop-i.values c.loop-i.i g.row.N (ahead c.loop-i.bits) c.loop-i.invariant (omega arith) (omega arith)
