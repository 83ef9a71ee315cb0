-- Arrays that are made place by place. Assumes nothing.
use Rattle.std.proofs.Common.{◌≡◌, ℕ, zero, suc, ◌+◌, ◌<◌, ◌≤◌, List, map, length, get_or, subst, ap, sym, ◌∙◌, ⊎_elim, arith}
use Rattle.std.specs.Array.{IsFromFnResult, IsFromFnResultFrom}
use Rattle.std.specs.Fn.{Mut, Called}
use Rattle.std.specs.List.{range_with_len}
use Rattle.std.proofs.lemmas.Bool.{cases_lt}
use Rattle.std.proofs.lemmas.List.FromFn.{fill_by_all}
use Rattle.methods.specs.Asked.{padded}
use Rattle.methods.specs.Padding.{padded_at, padded-length}

module _ {F B : Type 0} (g : Mut F (ℕ × Unit {0}) B) (h : ℕ → B) (f : F) (ys : List B) where
  from : (n i : ℕ) → ((k : ℕ) (y : B) (q : F) → k < i + n → Called g f (k, tt) y q → (y ≡ h k) × (q ≡ f))
      → IsFromFnResultFrom g f ys i n → (k : ℕ) (d : B) → i ≤ k → k < i + n → get_or ys k d ≡ h k
  from zero i one made k d low high = absurd (omega arith)
  from (suc n) i one made k d low high =
      let here = one i made.1 made.0 (omega arith) made.3 in
      let rest = subst (λ p. IsFromFnResultFrom g p ys (i + 1) n) here.1 made.4 in
      ⊎_elim
      (λ more. from n (i + 1) (λ m y q small. one m y q (omega arith)) rest k d (omega arith) (omega arith))
      (λ no. let same : k ≡ i = omega arith in ap (λ m. get_or ys m d) same ∙ (made.2.1 d ∙ (here.0 ∙ ap h (sym same))))
      (cases_lt i k)

  -- what `from_fn` makes by a closure that stays as it is: at each place what a call gives there
  pub made_at : (n k : ℕ) (d : B) → k < n → ((k : ℕ) (y : B) (q : F) → k < n → Called g f (k, tt) y q → (y ≡ h k) × (q ≡ f))
      → IsFromFnResult g f ys n → get_or ys k d ≡ h k
  made_at n k d small one made = from n 0 (λ m y q s. one m y q (omega arith)) made.each k d (omega arith) (omega arith)

  pub made_by : (n : ℕ) (d : B) → ((k : ℕ) (y : B) (q : F) → k < n → Called g f (k, tt) y q → (y ≡ h k) × (q ≡ f))
      → IsFromFnResult g f ys n → ys ≡ map h (range_with_len 0 n)
  made_by n d one made = fill_by_all h ys n d made.long (λ k small. made_at n k d small one made)

-- numbers: those of a list by place, and zero past its end
pub padded_by : {F : Type 0} (g : Mut F (ℕ × Unit {0}) ℕ) (h : ℕ → ℕ) (f : F) (ys xs : List ℕ) → length xs ≤ 64
    → ((k : ℕ) (y : ℕ) (q : F) → k < 64 → Called g f (k, tt) y q → (y ≡ h k) × (q ≡ f))
    → IsFromFnResult g f ys 64 → ((k : ℕ) → k < 64 → h k ≡ get_or xs k 0) → ys ≡ padded xs
padded_by g h f ys xs few one made same =
    made_by g h f ys 64 0 one made ∙ sym (fill_by_all h (padded xs) 64 0 (padded-length xs few) (λ k s. padded_at xs k ∙ sym (same k s)))
