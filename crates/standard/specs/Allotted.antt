-- What a method means over a year, element by element: the pool is shared over the costs of the elements, each part is
-- reduced by the method's rule and then shared over the uses of its element, and a point has the sum of its shares.
use Rattle.std.specs.Prelude.{ℕ, ◌+◌, cond, List, [], ◌∷◌, map, length, filter, ◌==◌, nat_eq}
use Rattle.std.specs.List.{range_with_len}
use Rattle.agreement.specs.Data.{YearData}
use Rattle.money.specs.Sharing.{shares_of}
use Rattle.records.specs.declared.element.Element.{Element}
use Rattle.records.specs.declared.network_use.NetworkUse.{NetworkUse}
use Rattle.standard.specs.Reduced.{reduced_by}

abbrev pub costs : List Element → List ℕ
costs es = map (λ (e : Element). e.cost) es

abbrev pub demands : List NetworkUse → List ℕ
demands us = map (λ (u : NetworkUse). u.demand) us

-- the uses of the element at place e, in the order of their places
abbrev pub uses_of : ℕ → List NetworkUse → List NetworkUse
uses_of e us = filter (λ (u : NetworkUse). nat_eq u.element e) us

-- of shares, one for each use, those that are of the point at place p, together
abbrev pub at_point : ℕ → List NetworkUse → List ℕ → ℕ
at_point p [] shares = 0
at_point p (u ∷ us) [] = 0
at_point p (u ∷ us) (share ∷ shares) = cond (u.point == p) share 0 + at_point p us shares

-- what a point has of a part that is shared over these uses
abbrev pub of_part : ℕ → ℕ → List NetworkUse → ℕ
of_part part p us = at_point p us (shares_of part (demands us))

-- what a point has of the parts of the elements from place e on
abbrev pub of_parts : List NetworkUse → ℕ → ℕ → List ℕ → ℕ
of_parts uses p e [] = 0
of_parts uses p e (part ∷ parts) = of_part part p (uses_of e uses) + of_parts uses p (e + 1) parts

-- the parts of all elements
unfoldable pub parts_of : (ℕ → Element → ℕ) → List Element → ℕ → List ℕ
parts_of rule es pool = reduced_by rule (shares_of pool (costs es)) es

-- what so many points have of the parts, by place
unfoldable pub amounts_of : ℕ → List NetworkUse → List ℕ → List ℕ
amounts_of points uses parts = map (λ p. of_parts uses p 0 parts) (range_with_len 0 points)

-- the parts and the amounts of a year
abbrev pub parts_in : (ℕ → Element → ℕ) → YearData → ℕ → List ℕ
parts_in rule d pool = parts_of rule d.elements pool

abbrev pub amounts_in : (ℕ → Element → ℕ) → YearData → ℕ → List ℕ
amounts_in rule d pool = amounts_of (length d.points) d.uses (parts_in rule d pool)
