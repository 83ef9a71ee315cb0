use Rattle.std.proofs.Common.{refl}
use Rattle.money.specs.Sharing.{shares_of}
use Rattle.money.proofs.worked.worked_cases.Goals as goal

pub returns : goal.returns
unfolding shares_of
returns c = record { thirds = refl; stamp = (refl, refl, refl); months = refl }
