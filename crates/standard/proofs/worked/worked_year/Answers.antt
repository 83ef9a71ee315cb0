use Rattle.std.proofs.Common.{refl}
use Rattle.money.specs.Sharing.{shares_of}
use Rattle.standard.specs.Allotted.{parts_of, amounts_of}
use Rattle.standard.proofs.worked.worked_year.Goals as goal

pub returns : goal.returns
unfolding parts_of amounts_of shares_of
returns c = record { standard = refl; parts = refl; modified = refl; discount = refl }
