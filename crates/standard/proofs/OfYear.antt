-- What the limits of a year give a method. Assumes nothing.
use Rattle.std.proofs.Common.{◌<◌, length, arith}
use Rattle.std.proofs.lemmas.List.Elements.{All-from_get_or}
use Rattle.agreement.specs.Together.{no_use}
use Rattle.year.specs.Holds.{contents}
use Rattle.year.specs.declared.year.Year.{Year}
use Rattle.standard.specs.Order.{Placed, Rises}
use Rattle.standard.proofs.Fronts.{rises_all}

pub uses_rise : (y : Year) → Rises 0 (contents y).uses
uses_rise y = rises_all (contents y).uses y.rising (λ k h. omega (arith, (y.named k h).1, y.few.0))

pub uses_placed : (y : Year) → Placed (length (contents y).points) (contents y).uses
uses_placed y = All-from_get_or (λ u. u.point < length (contents y).points) (contents y).uses no_use (λ k h. (y.named k h).1)
