-- The uses of one element are the front of what is left of the uses. Assumes nothing.
use Rattle.std.proofs.Common.{◌≡◌, ℕ, suc, ◌+◌, ◌<◌, ◌≤◌, List, [], ◌∷◌, length, get_or, take, drop, sum, sym, refl, ap, ◌∙◌, subst, ⊎_elim, one-add, arith}
use Rattle.std.specs.List.{prefix_len}
use Rattle.std.proofs.lemmas.List.Sums.{sum_by-cons}
use Rattle.std.proofs.lemmas.Bool.{eq-eqb, ne_eqb, cases_eq, cond-true, cond-false}
use Rattle.std.proofs.lemmas.Bool.Decides.{nat_tests}
use Rattle.agreement.specs.Limits.{Rising}
use Rattle.agreement.specs.Together.{no_use}
use Rattle.agreement.specs.Totals.{drawn, total_use}
use Rattle.records.specs.declared.network_use.NetworkUse.{NetworkUse}
use Rattle.standard.specs.Allotted.{demands, uses_of}
use Rattle.standard.specs.Order.{own, Rises}

uses_yes : (e : ℕ) (u : NetworkUse) (us : List NetworkUse) → u.element ≡ e → uses_of e (u ∷ us) ≡ u ∷ uses_of e us
uses_yes e u us h = cond-true _ _ _ (eq-eqb u.element e h)

uses_no : (e : ℕ) (u : NetworkUse) (us : List NetworkUse) → (u.element ≡ e → ⊥) → uses_of e (u ∷ us) ≡ uses_of e us
uses_no e u us h = cond-false _ _ _ (ne_eqb u.element e h)

lead_yes : (e : ℕ) (u : NetworkUse) (us : List NetworkUse) → u.element ≡ e → prefix_len (own e) (u ∷ us) ≡ suc (prefix_len (own e) us)
lead_yes e u us h = cond-true _ _ _ (eq-eqb u.element e h) ∙ one-add (prefix_len (own e) us)

lead_no : (e : ℕ) (u : NetworkUse) (us : List NetworkUse) → (u.element ≡ e → ⊥) → prefix_len (own e) (u ∷ us) ≡ 0
lead_no e u us h = cond-false _ _ _ (ne_eqb u.element e h)

rises_from : (e f : ℕ) (us : List NetworkUse) → e ≤ f → Rises f us → Rises e us
rises_from e f [] h r = r
rises_from e f (u ∷ us) h r = (omega arith, r.1)

none_before : (e f : ℕ) (us : List NetworkUse) → e < f → Rises f us → uses_of e us ≡ []
none_before e f [] h r = refl
none_before e f (u ∷ us) h r = grind (arith, nat_tests, none_before e u.element us (omega arith) r.1)

-- the front holds all uses of the element
own-front : (e : ℕ) (us : List NetworkUse) → Rises e us → take (prefix_len (own e) us) us ≡ uses_of e us
own-front e [] r = refl
own-front e (u ∷ us) r = ⊎_elim
    (λ same. ap (λ n. take n (u ∷ us)) (lead_yes e u us same)
    ∙ (ap (λ vs. u ∷ vs) (own-front e us (rises_from e u.element us (omega arith) r.1)) ∙ sym (uses_yes e u us same)))
    (λ other. ap (λ n. take n (u ∷ us)) (lead_no e u us other)
    ∙ (sym (none_before e u.element us (omega (arith, r.0)) r.1) ∙ sym (uses_no e u us other)))
    (cases_eq u.element e)

pub front_is : (e : ℕ) (us : List NetworkUse) → Rises e us → (count : ℕ) → count ≡ prefix_len (own e) us → (front : List NetworkUse) → front ≡ take count us → front ≡ uses_of e us
front_is e us r count counted front h = h ∙ ap (λ n. take n us) counted ∙ own-front e us r

-- what follows rises from the next element on
pub own_after : (e : ℕ) (us : List NetworkUse) → Rises e us → Rises (e + 1) (drop (prefix_len (own e) us) us)
own_after e [] r = r
own_after e (u ∷ us) r = ⊎_elim
    (λ same. subst (λ (n : ℕ). Rises (e + 1) (drop n (u ∷ us))) (sym (lead_yes e u us same)) (own_after e us (rises_from e u.element us (omega arith) r.1)))
    (λ other. subst (λ (n : ℕ). Rises (e + 1) (drop n (u ∷ us))) (sym (lead_no e u us other)) (omega (arith, r.0), r.1))
    (cases_eq u.element e)

-- and has all uses of later elements
pub own_later : (e f : ℕ) (us : List NetworkUse) → e < f → uses_of f us ≡ uses_of f (drop (prefix_len (own e) us) us)
own_later e f [] h = refl
own_later e f (u ∷ us) h = ⊎_elim
    (λ same. uses_no f u us (λ z. omega arith) ∙ (own_later e f us h ∙ sym (ap (λ n. uses_of f (drop n (u ∷ us))) (lead_yes e u us same))))
    (λ other. sym (ap (λ n. uses_of f (drop n (u ∷ us))) (lead_no e u us other)))
    (cases_eq u.element e)

-- what the uses of an element come to
pub demand-sum : (e : ℕ) (us : List NetworkUse) → sum (demands (uses_of e us)) ≡ total_use e us
demand-sum e [] = refl
demand-sum e (u ∷ us) = grind (arith, nat_tests, sum_by-cons (drawn e) u us, sum_by-cons (λ (n : ℕ). n) u.demand (demands (uses_of e us)), demand-sum e us)

-- uses that rise by element and point rise by element
rises_on : (u : NetworkUse) (us : List NetworkUse) → Rising (u ∷ us) → ((k : ℕ) → k < length (u ∷ us) → (get_or (u ∷ us) k no_use).point < 65536) → Rises u.element us
rises_on u [] r p = tt
rises_on u (v ∷ us) r p = (
  omega (arith, r 0 (omega arith), p 1 (omega arith)),
  rises_on v us
      (λ k h. let e : suc k + 1 ≡ suc (k + 1) = omega arith in let q = r (suc k) (omega arith) in rw e at q)
      (λ k h. p (suc k) (omega arith)),
)

pub rises_all : (us : List NetworkUse) → Rising us → ((k : ℕ) → k < length us → (get_or us k no_use).point < 65536) → Rises 0 us
rises_all [] r p = tt
rises_all (u ∷ us) r p = (omega arith, rises_on u us r p)
