-- Parts, each reduced for its element.
use Rattle.std.specs.Prelude.{ℕ, ◌*◌, ◌/◌, cond, List, [], ◌∷◌, nat_lt}
use Rattle.records.specs.declared.element.Element.{Element}

-- the part as it is
abbrev pub unreduced : ℕ → Element → ℕ
unreduced part e = part

-- where the peak is below the rating, the part goes down with the peak
abbrev pub by_peak : ℕ → Element → ℕ
by_peak part e = cond (nat_lt e.peak e.rating) (part * e.peak / e.rating) part

-- the parts of elements, each reduced by a rule
abbrev pub reduced_by : (ℕ → Element → ℕ) → List ℕ → List Element → List ℕ
reduced_by rule [] es = []
reduced_by rule (part ∷ parts) [] = []
reduced_by rule (part ∷ parts) (e ∷ es) = rule part e ∷ reduced_by rule parts es
