use Rattle.std.proofs.Common.{◌≡◌, ℕ, ◌+◌, ◌<◌, length, get_or, sum_by}
use Rattle.year.specs.Holds.{contents}
use Rattle.standard.specs.Allotted.{of_parts, parts_in}
use Rattle.standard.specs.Segments.{left, of_segment}
use Rattle.standard.proofs.allocation.AllocationMethod.amounts.Given as goal

-- of each point: what it has so far, and what it has of the elements to come
abbrev pub invariant-loop-segment : goal.invariant-loop-segment
invariant-loop-segment g l =
    let f = g.R.Rule.reduced l.self.rule in
    let d = contents (g.Y.Lends.lent l.self.year) in
    (length l.amounts ≡ 64)
    × ((p : ℕ) → p < 64 → get_or l.amounts p 0 + sum_by (of_segment f l.pool.cents p) (left l.segment-iterator) ≡ of_parts d.uses p 0 (parts_in f d l.pool.cents))
