-- Items in their order, each with its portion of all weights: it lies after what the items before it weigh.
use Rattle.std.specs.Prelude.{ℕ, ◌+◌, List, [], ◌∷◌}
use Rattle.money.specs.Sharing.{share_of}
use Rattle.records.specs.declared.element.Element.{Element}
use Rattle.standard.specs.declared.portions.Portion.{Portion}
use Rattle.standard.specs.declared.portions.Portions.{Portions}

pub record Portioned (X : Type 0) : Type 0 where
  pub item : X
  pub before : ℕ
  pub total : ℕ

-- the portions of items that come after others, of what all weigh
abbrev pub portions : {X : Type 0} → (X → ℕ) → ℕ → ℕ → List X → List (Portioned X)
portions weight total before [] = []
portions weight total before (x ∷ xs) = record { item = x; before = before; total = total } ∷ portions weight total (before + weight x) xs

-- a portion of the code, and the portions that are still to come
abbrev pub portion : {X : Type 0} {w : _} → Portion X w → Portioned X
portion p = record { item = p.item.now; before = p.before; total = p.total }

abbrev pub to_come : {X : Type 0} {w : _} → Portions X w → List (Portioned X)
to_come {w = w} s = portions w.weight s.total s.before s.items.now

-- what a rule makes of an element's share of a pool
abbrev pub reduced_part : (ℕ → Element → ℕ) → ℕ → Portioned Element → ℕ
reduced_part rule pool x = rule (share_of pool x.before x.item.cost x.total) x.item
