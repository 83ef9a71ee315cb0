use Rattle.std.proofs.Common.{[], ◌∷◌, ◌++◌, map}
use Rattle.std.specs.Prelude.{codes}
use Rattle.std.specs.Fmt.{HasWritten, IsPlainFormatter}
use Rattle.pricing.specs.Printed.{spaced, lines_of}
use Rattle.pricing.proofs.page.PageDisplay.fmt.Given as goal

abbrev pub invariant-loop-charges : goal.invariant-loop-charges
invariant-loop-charges g l =
    IsPlainFormatter l.fn.f → HasWritten g.W.Write.write_str_gives l.fn.f (spaced l.self.year (l.self.points ∷ []) ++ (codes "\n" ++ lines_of (map (λ x. x.now) l.yielded))) l.f
