-- Records without a fault together keep the limits. Assumes nothing.
use Rattle.std.proofs.Common.{◌≡◌, ℕ, zero, suc, ◌+◌, ◌-◌, ◌<◌, ◌≤◌, Bool, true, not, eqb, List, length, get_or, take, Some, None, Option, refl, ap, ◌∙◌, add-zero, zero-add, arith}
use Rattle.std.proofs.lemmas.List.{get_or-take, length-take-le}
use Rattle.std.proofs.lemmas.List.Sums.{AllPass-from_list_all}
use Rattle.std.proofs.lemmas.Bool.Decides.{nat_tests}
use Rattle.bits.specs.Laid.{◌or_else◌}
use Rattle.bits.specs.declared.fault.Fault.{Fault}
use Rattle.records.specs.declared.network_use.NetworkUse.{NetworkUse}
use Rattle.records.specs.declared.point.Point.{Point}
use Rattle.agreement.specs.Agreement.{cost_of, together_fault}
use Rattle.agreement.specs.Data.{YearData}
use Rattle.agreement.specs.Limits.{Distinct, Named, Rising, Within, UsedWithin, Priced}
use Rattle.agreement.specs.Together.{first_fault_among, free, no_point, no_use, unless, repeated_at, repeated_fault, placed_at, misplaced_at, misplaced_fault, over_fault, overused_fault, zero_fault}
use Rattle.agreement.specs.Totals.{total_demand, total_energy, total_use}

pub or_none : (f g : Option Fault) → None ≡ (f or_else g) → (None ≡ f) × (None ≡ g)
or_none None g h = (refl, h)
or_none (Some f) g h = (h, grind arith)

none_at : (n i k : ℕ) (fault_at : ℕ → Option Fault) → None ≡ first_fault_among n i fault_at → k < n → None ≡ fault_at (i + k)
unfolding first_fault_among
none_at zero i k fault_at h l = absurd (omega arith)
none_at (suc n) i zero fault_at h l = rw add-zero (or_none (fault_at i) (first_fault_among n (suc i) fault_at) h).0
none_at (suc n) i (suc k) fault_at h l =
    let e : i + suc k ≡ suc i + k = omega arith in
    rw e (none_at n (suc i) k fault_at (or_none (fault_at i) (first_fault_among n (suc i) fault_at) h).1 (omega arith))

none_from : (n k : ℕ) (fault_at : ℕ → Option Fault) → None ≡ first_fault_among n 0 fault_at → k < n → None ≡ fault_at k
none_from n k fault_at h l = none_at n 0 k fault_at h l ∙ ap fault_at (zero-add k)

passes : {test : Bool} (x : Fault) → None ≡ unless test x → test ≡ true
passes {test} x h = grind arith

pub distinct : (ps : List Point) → None ≡ repeated_fault ps → Distinct ps
distinct ps h i j l m e =
    let x = (get_or ps j no_point).identifier in
    let b : free x (take j ps) ≡ true = passes _ (none_from (length ps) j (repeated_at ps) h m) in
    let t : length (take j ps) ≡ j = length-take-le j ps (omega arith) in
    let a = AllPass-from_list_all (λ (p : Point). not (eqb p.identifier x)) (take j ps) b i no_point (omega arith) in
    let g : get_or (take j ps) i no_point ≡ get_or ps i no_point = get_or-take j ps i no_point l in
    grind (arith, nat_tests)

module _ (points elements : ℕ) (us : List NetworkUse) (h : None ≡ misplaced_fault points elements us) (k : ℕ) (l : k < length us) where
  placed : placed_at points elements us k ≡ true
  placed = passes _ (none_from (length us) k (misplaced_at points elements us) h l)

  pub named_at : ((get_or us k no_use).element < elements) × ((get_or us k no_use).point < points)
  named_at = let p = placed in (grind (arith, nat_tests), grind (arith, nat_tests))

pub rising : (points elements : ℕ) (us : List NetworkUse) → None ≡ misplaced_fault points elements us → Rising us
rising points elements us h k l =
    let p = placed points elements us h (k + 1) l in
    let s : k + 1 - 1 ≡ k = omega arith in
    grind (arith, nat_tests, rw s at p)

under : (total limit : ℕ) → None ≡ over_fault total limit → total ≤ limit
under total limit h = grind (arith, nat_tests)

some_of : (total : ℕ) → None ≡ zero_fault total → 1 ≤ total
some_of total h = grind (arith, nat_tests)

-- the limits on what the records say together
pub record Kept (d : YearData) : Type 0 where
  pub distinct : Distinct d.points
  pub named : Named d
  pub rising : Rising d.uses
  pub within : Within d
  pub used : UsedWithin d
  pub priced : Priced d

pub kept : (d : YearData) → None ≡ together_fault d → Kept d
kept d h =
    let a = or_none (repeated_fault d.points) _ h in
    let b = or_none (misplaced_fault (length d.points) (length d.elements) d.uses) _ a.1 in
    let c = or_none (over_fault (cost_of d) 10000000) _ b.1 in
    let e = or_none (over_fault (total_demand d.points) 10000000) _ c.1 in
    let f = or_none (over_fault (total_energy d.points) 50000000) _ e.1 in
    let g = or_none (overused_fault (length d.elements) d.uses) _ f.1 in
    let i = or_none (zero_fault (cost_of d)) _ g.1 in
    record {
      distinct = distinct d.points a.0;
      named = λ k l. named_at (length d.points) (length d.elements) d.uses b.0 k l;
      rising = rising (length d.points) (length d.elements) d.uses b.0;
      within = (under (cost_of d) 10000000 c.0, under (total_demand d.points) 10000000 e.0, under (total_energy d.points) 50000000 f.0);
      used = λ e l. under (total_use e d.uses) 10000000 (none_from (length d.elements) e (λ e. over_fault (total_use e d.uses) 10000000) g.0 l);
      priced = λ _. (some_of (cost_of d) i.0, some_of (total_energy d.points) i.1);
    }
