use Rattle.std.proofs.Common.{◌≤◌, arith, rules}
use Rattle.bits.specs.Written.{written}
use Rattle.bits.proofs.Pieces.{put_more, put_all, put_room, piece_lt}
use Rattle.bits.proofs.writer.Writer.put.Goals as goal

pub loop-left-preserved : goal.loop-left-preserved
loop-left-preserved g c =
    let l : c.min-count.result ≤ c.loop-left.left = omega arith in
    let m : c.min-count.result ≤ 8 = omega arith in
    put_more (written c.args.self.now) c.args.width c.args.value c.loop-left.left (written c.loop-left.self) c.min-count.result (written c.piece.new.self) c.loop-left.invariant l m c.piece.ensures

pub piece-requires : goal.piece-requires
piece-requires g c =
    let m : c.min-count.result ≤ 8 = omega arith in (
      search rules,
      (
        piece_lt _ c.min-count.result m,
        (
          omega arith,
          put_room c.loop-left.self.bytes (written c.args.self.now) c.loop-left.self.whole c.loop-left.self.used c.loop-left.self.part c.args.width c.args.value c.loop-left.left g.row.N c.loop-left.self.len c.loop-left.self.bound c.loop-left.invariant c.requires.room c.loop-left-test.true,
        ),
      ),
    )

pub returns : goal.returns
returns g c = put_all (written c.args.self.now) c.args.width c.args.value c.loop-left.left (written c.loop-left.self) c.loop-left.invariant (omega arith)
