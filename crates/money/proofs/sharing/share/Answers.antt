use Rattle.std.proofs.Common.{mul-le-mul_left, arith}
use Rattle.money.proofs.Shares.{div_mono}
use Rattle.money.proofs.sharing.share.Goals as goal

pub overflow_sub-result : goal.overflow_sub-result
overflow_sub-result c = grind (arith, div_mono, mul-le-mul_left)
