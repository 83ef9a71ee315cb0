-- The uses of each element, step by step. Assumes nothing.
use Rattle.std.proofs.Common.{◌≡◌, ℕ, zero, suc, ◌+◌, ◌-◌, ◌<◌, ◌≤◌, Bool, true, ◌||◌, eqb, ◌⊎◌, List, length, get_or, take, slice_get, replicate, Some, None, sum_by, sym, refl, ap, inl, inr, ⊎_elim, zero-add, arith}
use Rattle.std.proofs.lemmas.List.{take_all, get_or-take, length-take-le, length-replicate, get_or-replicate}
use Rattle.std.proofs.lemmas.Option.{slice_get-get_or}
use Rattle.std.proofs.lemmas.List.Sums.{sum_by_more, sum_by-take-le}
use Rattle.std.proofs.lemmas.Bool.Decides.{nat_tests, leb_tells}
use Rattle.bits.specs.Faults.{year_fault}
use Rattle.bits.specs.declared.refusal.Refusal.TheVariants.{TotalOverLimit}
use Rattle.records.specs.declared.network_use.NetworkUse.{NetworkUse}
use Rattle.agreement.specs.Totals.{drawn, total_use}
use Rattle.agreement.proofs.Firsts.{first_some, none_each}
use Rattle.std.specs.Option.{option_map_or}
use Rattle.agreement.specs.Together.{no_use, over_fault, overused_fault, unless}

-- the uses of each element among the first i uses, none above the limit
pub record Used (us : List NetworkUse) (i : ℕ) (used : List ℕ) : Type 0 where
  pub long : length used ≡ 256
  pub totals : (e : ℕ) → e < 256 → get_or used e 0 ≡ total_use e (take i us)
  pub small : (e : ℕ) → e < 256 → get_or used e 0 ≤ 10000000

pub used_none : (us : List NetworkUse) → Used us 0 (replicate 256 0)
used_none us = record { long = length-replicate {A = ℕ} 256 0; totals = λ e l. get_or-replicate {A = ℕ} 256 e 0 0 l; small = λ e l. omega (arith, get_or-replicate {A = ℕ} 256 e 0 0 l) }

-- a total is over its limit or it is not, and the fault says which
over_or : (total limit : ℕ) → (over_fault total limit ≡ None) ⊎ (over_fault total limit ≡ Some (year_fault TotalOverLimit 0))
over_or total limit = ⊎_elim (λ q. inl (ap (λ (b : Bool). unless b (year_fault TotalOverLimit 0)) q.0)) (λ q. inr (ap (λ (b : Bool). unless b (year_fault TotalOverLimit 0)) q.0)) (leb_tells total limit)

-- one element is over its limit, whatever came of those before it
overused : (elements : ℕ) (us : List NetworkUse) (e : ℕ) → e < elements → 10000000 < total_use e us → overused_fault elements us ≡ Some (year_fault TotalOverLimit 0)
overused elements us e l h = first_some elements 0 e (λ k. over_fault (total_use k us) 10000000) _ (λ k. over_or (total_use k us) 10000000) l (rw (zero-add e) (grind (arith, nat_tests)))

pub none_overused : (elements : ℕ) (us : List NetworkUse) → ((e : ℕ) → e < elements → total_use e us ≤ 10000000) → overused_fault elements us ≡ None
none_overused elements us h = none_each elements (λ e. over_fault (total_use e us) 10000000) (λ e l. let small = h e l in grind (arith, nat_tests))

module _ (us : List NetworkUse) (i : ℕ) (used : List ℕ) (so : Used us i used) (elements : ℕ) (few : elements ≤ 256) where
  pub used_all : length us ≤ i → None ≡ overused_fault elements us
  used_all h =
      sym (none_overused elements us (λ e l. omega (arith, so.totals e (omega arith), so.small e (omega arith), ap (sum_by (drawn e)) (take_all i us h))))

  pub used_over : i < length us → (get_or us i no_use).element < elements → 10000000 < get_or used (get_or us i no_use).element 0 + (get_or us i no_use).demand → overused_fault elements us ≡ Some (year_fault TotalOverLimit 0)
  used_over h l over =
      let e = (get_or us i no_use).element in
      let own : drawn e (get_or us i no_use) ≡ (get_or us i no_use).demand = grind (arith, nat_tests) in
      overused elements us e l (omega (arith, so.totals e (omega arith), sum_by_more (drawn e) us i no_use h, sum_by-take-le (drawn e) us (i + 1)))

-- the last of the first i uses, if there is one, is the one before the use at place i
pub last_before : (us : List NetworkUse) (test : NetworkUse → Bool) (i : ℕ) → i < length us → option_map_or test (slice_get (take i us) (length (take i us) - 1)) true ≡ (eqb i 0 || test (get_or us (i - 1) no_use))
last_before us test zero l = refl
last_before us test (suc i) l =
    let t = length-take-le (suc i) us (omega arith) in
    let s : suc i - 1 ≡ i = omega arith in
    let e : length (take (suc i) us) - 1 ≡ i = omega (arith, t) in
    rw (e, s, slice_get-get_or (take (suc i) us) i no_use (omega (arith, t)), get_or-take (suc i) us i no_use (omega arith)) (grind (arith, nat_tests))
