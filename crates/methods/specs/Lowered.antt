-- Amounts lowered by agreed figures.
use Rattle.std.specs.Prelude.{ℕ, ◌-◌, cond, List, [], ◌∷◌, Some, None, Option, slice_set}
use Rattle.bits.specs.declared.refusal.Refusal.{Refusal}
use Rattle.bits.specs.declared.refusal.Refusal.TheVariants.{ArgumentOutOfRange}
use Rattle.methods.specs.Asked.{in_range}

-- each amount less the figure for its place, and never below zero
abbrev pub lowered : List ℕ → List ℕ → List ℕ
lowered [] figures = []
lowered (a ∷ amounts) [] = a ∷ amounts
lowered (a ∷ amounts) (f ∷ figures) = (a - f) ∷ lowered amounts figures

-- 8: the figure or the place is out of range
abbrev pub agree_refusal : ℕ → ℕ → ℕ → Option Refusal
agree_refusal count place figure = cond (in_range count figure place) None (Some ArgumentOutOfRange)

-- the figures once one is agreed for a place; as they were where that is refused
abbrev pub agreed : ℕ → ℕ → ℕ → List ℕ → List ℕ
agreed count place figure figures = cond (in_range count figure place) (slice_set figures place figure) figures
