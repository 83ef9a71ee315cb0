use Rattle.std.proofs.Common.{get_or, w8, Fits, rules}
use Rattle.bits.proofs.Pieces.{all_written}
use Rattle.bits.proofs.writer.Writer.finish.Goals as goal

pub returns : goal.returns
returns g c =
    all_written c.args.self.bytes c.args.self.whole c.args.self.used c.args.self.part g.row.N
    (λ i. let f : Fits w8 (get_or c.args.self.bytes i 0) = search rules in f.fits)
    c.args.self.len c.args.self.bound c.args.self.within c.requires
