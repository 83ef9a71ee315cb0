use Rattle.std.proofs.Common.{refl}
use Rattle.bits.specs.Bits.{bits, bits_of}
use Rattle.bits.proofs.writer.Writer.new.Goals as goal

pub returns : goal.returns
unfolding bits bits_of
returns g c = refl
