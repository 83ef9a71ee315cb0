use Rattle.std.proofs.Common.{rules}
use Rattle.bits.proofs.Turns.{narrow_all}
use Rattle.bits.proofs.layout.Layout.encode.Goals as goal

pub encode-requires : goal.encode-requires
encode-requires g c = (search rules, (narrow_all _ c.args.self.now.narrow, search rules))
