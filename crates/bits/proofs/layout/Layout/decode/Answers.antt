use Rattle.std.proofs.Common.{rules}
use Rattle.bits.proofs.Turns.{narrow_all}
use Rattle.bits.proofs.layout.Layout.decode.Goals as goal

pub decode-requires : goal.decode-requires
decode-requires g c = (search rules, (narrow_all _ c.args.self.now.narrow, search rules))
