-- The first fault at a run of places, step by step. Assumes nothing.
use Rattle.std.proofs.Common.{◌≡◌, ℕ, zero, suc, ◌+◌, ◌<◌, Bool, true, false, ◌⊎◌, Some, None, Option, sym, refl, ap, ◌∙◌, zero-add, arith}
use Rattle.std.specs.Option.{option_map}
use Rattle.bits.specs.declared.fault.Fault.{Fault}
use Rattle.agreement.specs.Together.{first_fault_among, unless}

-- the first place with a fault, where those before it have none
first_at : (n i k : ℕ) (fault_at : ℕ → Option Fault) (x : Fault) → k < n → fault_at (i + k) ≡ Some x → ((j : ℕ) → j < k → fault_at (i + j) ≡ None) → first_fault_among n i fault_at ≡ Some x
unfolding first_fault_among
first_at zero i k fault_at x l e before = absurd (omega arith)
first_at (suc n) i zero fault_at x l e before = grind arith
first_at (suc n) i (suc k) fault_at x l e before =
    let s : i + suc k ≡ suc i + k = omega arith in
    grind (arith, before 0 (omega arith), first_at n (suc i) k fault_at x (omega arith) (rw s at e) (λ j m. let t : suc i + j ≡ i + suc j = omega arith in rw t (before (suc j) (omega arith))))

-- no place has a fault
none_all : (n i : ℕ) (fault_at : ℕ → Option Fault) → ((k : ℕ) → k < n → fault_at (i + k) ≡ None) → first_fault_among n i fault_at ≡ None
unfolding first_fault_among
none_all zero i fault_at h = refl
none_all (suc n) i fault_at h =
    grind (arith, h 0 (omega arith), none_all n (suc i) fault_at (λ k l. let e : suc i + k ≡ i + suc k = omega arith in rw e (h (suc k) (omega arith))))

pub none_each : (n : ℕ) (fault_at : ℕ → Option Fault) → ((k : ℕ) → k < n → fault_at k ≡ None) → first_fault_among n 0 fault_at ≡ None
none_each n fault_at h = none_all n 0 fault_at (λ k l. ap fault_at (zero-add k) ∙ h k l)

-- the first place whose test fails has the first fault
first_failing : (n k : ℕ) (test : ℕ → Bool) (fault : ℕ → Fault) → k < n → test k ≡ false → ((j : ℕ) → j < k → test j ≡ true) → Some (fault k) ≡ first_fault_among n 0 (λ i. unless (test i) (fault i))
first_failing n k test fault l fails before =
    let here : unless (test (0 + k)) (fault (0 + k)) ≡ Some (fault k) = rw (zero-add k, fails) in
    sym (first_at n 0 k (λ i. unless (test i) (fault i)) (fault k) l here (λ j m. rw (zero-add j, before j m)))

pub none_failing : (n : ℕ) (test : ℕ → Bool) (fault : ℕ → Fault) → ((k : ℕ) → k < n → test k ≡ true) → None ≡ first_fault_among n 0 (λ i. unless (test i) (fault i))
none_failing n test fault h = sym (none_each n (λ i. unless (test i) (fault i)) (λ k l. rw (h k l)))

-- the fault at the first place whose test fails, or none where each passes
pub fault_at_first : (n : ℕ) (place : Option ℕ) (test : ℕ → Bool) (fault : ℕ → Fault) {given : ℕ → Fault} → ((i : ℕ) → given i ≡ fault i) → ((i : ℕ) → place ≡ Some i → (i < n) × (test i ≡ false) × ((j : ℕ) → j < i → test j ≡ true)) → (place ≡ None → (k : ℕ) → k < n → test k ≡ true) → option_map given place ≡ first_fault_among n 0 (λ i. unless (test i) (fault i))
fault_at_first n (Some i) test fault same some none = let s = some i refl in ap Some (same i) ∙ first_failing n i test fault s.0 s.1 s.2
fault_at_first n None test fault same some none = none_failing n test fault (none refl)

-- where every place has one and the same fault or none, one place with it is enough
pub first_some : (n i k : ℕ) (fault_at : ℕ → Option Fault) (x : Fault) → ((j : ℕ) → (fault_at j ≡ None) ⊎ (fault_at j ≡ Some x)) → k < n → fault_at (i + k) ≡ Some x → first_fault_among n i fault_at ≡ Some x
unfolding first_fault_among
first_some zero i k fault_at x each l e = absurd (omega arith)
first_some (suc n) i zero fault_at x each l e = grind arith
first_some (suc n) i (suc k) fault_at x each l e =
    let s : i + suc k ≡ suc i + k = omega arith in
    grind (arith, each i, first_some n (suc i) k fault_at x each (omega arith) (rw s at e))
