-- What the figures of a year come to.
use Rattle.std.specs.Prelude.{ℕ, ◌+◌, cond, List, sum_by, ◌==◌}
use Rattle.records.specs.declared.element.Element.{Element}
use Rattle.records.specs.declared.network_use.NetworkUse.{NetworkUse}
use Rattle.records.specs.declared.point.Point.{Point}

abbrev pub entry_cost_of : List Point → ℕ
entry_cost_of ps = sum_by (λ (p : Point). p.entry_cost) ps

abbrev pub exit_cost_of : List Point → ℕ
exit_cost_of ps = sum_by (λ (p : Point). p.exit_cost) ps

abbrev pub network_cost : List Element → ℕ
network_cost es = sum_by (λ (e : Element). e.cost) es

-- all costs together: entry, exit, the shared network and the common cost
abbrev pub total_cost : List Point → List Element → ℕ → ℕ
total_cost ps es common = entry_cost_of ps + exit_cost_of ps + network_cost es + common

abbrev pub total_demand : List Point → ℕ
total_demand ps = sum_by (λ (p : Point). p.contract_demand) ps

abbrev pub total_energy : List Point → ℕ
total_energy ps = sum_by (λ (p : Point). p.energy) ps

-- the kW of a use that are drawn from the element at place e
abbrev pub drawn : ℕ → NetworkUse → ℕ
drawn e u = cond (u.element == e) u.demand 0

-- all uses of the element at place e
abbrev pub total_use : ℕ → List NetworkUse → ℕ
total_use e us = sum_by (drawn e) us
