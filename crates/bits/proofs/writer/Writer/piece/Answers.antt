use Rattle.std.proofs.Common.{take, arith, rules}
use Rattle.bits.specs.Bits.{bits}
use Rattle.bits.proofs.Pieces.{part_byte, part_lt, part_more, byte_more}
use Rattle.bits.proofs.writer.Writer.piece.Goals as goal

pub overflow_cast-self-then-self-eq8 : goal.overflow_cast-self-then-self-eq8
overflow_cast-self-then-self-eq8 g c = record { fits = part_byte c.args.self.now.used c.args.count c.args.self.now.part c.args.value c.args.self.now.small c.requires.small c.if-self-eq8.true }

pub invariant_of-self-else-self-eq8 : goal.invariant_of-self-else-self-eq8
invariant_of-self-else-self-eq8 g c = search (rules, part_lt)

pub returns-then-self-eq8 : goal.returns-then-self-eq8
returns-then-self-eq8 g c =
    byte_more c.args.self.now.bytes c.args.self.now.whole c.args.self.now.used c.args.count c.args.self.now.part c.args.value c.args.self.now.small c.requires.small c.if-self-eq8.true (omega arith)

pub returns-else-self-eq8 : goal.returns-else-self-eq8
returns-else-self-eq8 g c =
    part_more (bits (take c.args.self.now.whole c.args.self.now.bytes)) c.args.self.now.used c.args.count c.args.self.now.part c.args.value c.args.self.now.small c.requires.small c.requires.within
