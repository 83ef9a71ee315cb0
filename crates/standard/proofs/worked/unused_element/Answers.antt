use Rattle.std.proofs.Common.{refl}
use Rattle.money.specs.Sharing.{shares_of}
use Rattle.standard.specs.Allotted.{parts_of, amounts_of}
use Rattle.standard.proofs.worked.unused_element.Goals as goal

pub returns : goal.returns
unfolding parts_of amounts_of shares_of
returns c = record { parts = refl; amounts = refl; reduced = refl; modified = refl }
