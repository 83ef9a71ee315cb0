-- The uses of a year stand by element: those of one element follow each other.
use Rattle.std.specs.Prelude.{ℕ, ◌<◌, ◌≤◌, Bool, List, [], ◌∷◌, ◌==◌}
use Rattle.std.specs.List.{All}
use Rattle.std.proofs.Math.Bridge.{le_prop}
use mathlib.Core.HLevel.{×_prop, Unit-prop}
use Rattle.records.specs.declared.network_use.NetworkUse.{NetworkUse}

-- whether a use is of the element at place e
abbrev pub own : ℕ → NetworkUse → Bool
own e u = u.element == e

-- no use is of an element before e, and none of one before that of the use ahead of it
abbrev pub Rises : ℕ → List NetworkUse → Type 0
Rises e [] = Unit {0}
Rises e (u ∷ us) = (e ≤ u.element) × Rises u.element us

pub rises-prop : (e : ℕ) (us : List NetworkUse) → IsProp (Rises e us)
rises-prop e [] = Unit-prop
rises-prop e (u ∷ us) = ×_prop le_prop (rises-prop u.element us)

-- each use is by one of so many points
abbrev pub Placed : ℕ → List NetworkUse → Type 0
Placed points us = All (λ u. u.point < points) us
