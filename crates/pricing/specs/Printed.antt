-- What a page prints, in decimal.
use Rattle.std.specs.Prelude.{ℕ, ◌+◌, min, List, [], ◌∷◌, ◌++◌, map, take, flat_map, codes, decimal}
use Rattle.pricing.specs.declared.page.Line.{Line}
use Rattle.pricing.specs.declared.page.Line.TheVariants.{Heading, Charges, Left}
use Rattle.pricing.specs.declared.page.Page.{Page}
use Rattle.pricing.specs.declared.page.PointCharges.{PointCharges}

-- numbers with a space between two
abbrev pub spaced : ℕ → List ℕ → List ℕ
spaced n [] = decimal n
spaced n (m ∷ ms) = decimal n ++ (codes " " ++ spaced m ms)

-- the identifier of a point and its five charges
abbrev pub charges_text : PointCharges → List ℕ
charges_text c = spaced c.identifier (c.entry ∷ c.exit ∷ c.locational ∷ c.non_locational ∷ c.common ∷ [])

-- a line for each point
abbrev pub lines_of : List PointCharges → List ℕ
lines_of rows = flat_map (λ c. charges_text c ++ codes "\n") rows

-- what both spreads left, up to 2^64 − 1
abbrev pub left_of : Page → ℕ
left_of p = min (p.non_locational_remainder + p.common_remainder) 18446744073709551615

-- the year and the number of points, a line for each point, and what both spreads left, up to 2^64 − 1
abbrev pub page_text : Page → List ℕ
page_text p =
    spaced p.year (p.points ∷ []) ++ (codes "\n" ++ (lines_of (take p.points p.charges) ++ (codes "left " ++ decimal (left_of p))))

-- a line by itself
abbrev pub line_text : Line → List ℕ
line_text (Heading year points) = spaced year (points ∷ [])
line_text (Charges c) = charges_text c
line_text (Left cents) = codes "left " ++ decimal cents

-- the lines of a page
abbrev pub page_lines : Page → List Line
page_lines p = Heading p.year p.points ∷ (map (λ c. Charges c) (take p.points p.charges) ++ (Left (left_of p) ∷ []))
