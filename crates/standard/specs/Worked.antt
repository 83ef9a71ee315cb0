-- A small year: three points, one element, and its use by the second and the third point.
use Rattle.std.specs.Prelude.{List, [], ◌∷◌}
use Rattle.records.specs.declared.element.Element.{Element}
use Rattle.records.specs.declared.network_use.NetworkUse.{NetworkUse}

abbrev pub worked_elements : List Element
worked_elements = record { cost = 500; rating = 2000; peak = 1500 } ∷ []

abbrev pub worked_uses : List NetworkUse
worked_uses = record { element = 0; point = 1; demand = 1000 } ∷ record { element = 0; point = 2; demand = 500 } ∷ []

-- Three elements of equal cost: a peak below the rating, at the rating and above it. The second is not used.
abbrev pub three_elements : List Element
three_elements =
    record { cost = 1; rating = 10; peak = 5 } ∷ record { cost = 1; rating = 10; peak = 10 } ∷ record { cost = 1; rating = 10; peak = 11 } ∷ []

abbrev pub their_uses : List NetworkUse
their_uses =
    record { element = 0; point = 0; demand = 1 } ∷ record { element = 0; point = 2; demand = 2 } ∷ record { element = 2; point = 1; demand = 5 } ∷ []
