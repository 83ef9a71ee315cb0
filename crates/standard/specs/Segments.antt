-- The elements of a network, each with its portion of all costs and with its uses.
use Rattle.std.specs.Prelude.{ℕ, ◌+◌, List, [], ◌∷◌, sum}
use Rattle.agreement.specs.Data.{YearData}
use Rattle.records.specs.declared.element.Element.{Element}
use Rattle.records.specs.declared.network_use.NetworkUse.{NetworkUse}
use Rattle.standard.specs.Allotted.{costs, uses_of, of_part}
use Rattle.standard.specs.Portions.{Portioned, portions, portion, to_come, reduced_part}
use Rattle.standard.specs.declared.segments.Segment.{Segment}
use Rattle.standard.specs.declared.segments.Segments.{Segments}

pub record Loaded : Type 0 where
  pub element : Portioned Element
  pub uses : List NetworkUse

-- elements from place e on, with the uses that are theirs
abbrev pub segments : ℕ → List (Portioned Element) → List NetworkUse → List Loaded
segments e [] us = []
segments e (x ∷ xs) us = record { element = x; uses = uses_of e us } ∷ segments (e + 1) xs us

-- all elements of a year
abbrev pub segments_in : YearData → List Loaded
segments_in d = segments 0 (portions (λ (e : Element). e.cost) (sum (costs d.elements)) 0 d.elements) d.uses

-- a segment of the code, and the segments that are still to come
abbrev pub loaded : Segment → Loaded
loaded s = record { element = portion s.element; uses = s.uses.now }

abbrev pub left : Segments → List Loaded
left s = segments s.place (to_come s.elements) s.uses.now

-- what the point at place p has of an element's part
abbrev pub of_segment : (ℕ → Element → ℕ) → ℕ → ℕ → Loaded → ℕ
of_segment rule pool p s = of_part (reduced_part rule pool s.element) p s.uses
