-- Uses by points that are there. Assumes nothing.
use Rattle.std.proofs.Common.{◌≡◌, ℕ, suc, ◌+◌, ◌<◌, ◌≤◌, eqb, List, [], ◌∷◌, refl, arith}
use Rattle.std.proofs.lemmas.Bool.Decides.{nat_tests}
use Rattle.std.proofs.lemmas.List.Elements.{All-filter}
use Rattle.money.specs.Sharing.{shares_of}
use Rattle.records.specs.declared.network_use.NetworkUse.{NetworkUse}
use Rattle.standard.specs.Allotted.{demands, uses_of, at_point, of_parts}
use Rattle.standard.specs.Order.{Placed}

module _ (n : ℕ) where
  -- past the last point there is nothing
  past_point : (p : ℕ) (us : List NetworkUse) (shares : List ℕ) → n ≤ p → Placed n us → at_point p us shares ≡ 0
  past_point p [] shares h so = refl
  past_point p (u ∷ us) [] h so = refl
  past_point p (u ∷ us) (x ∷ xs) h so = grind (arith, nat_tests, so 0 u (omega arith), past_point p us xs h (λ k d g. so (suc k) d (omega arith)))

  pub past_points : (uses : List NetworkUse) (p e : ℕ) (parts : List ℕ) → n ≤ p → Placed n uses → of_parts uses p e parts ≡ 0
  past_points uses p e [] h so = refl
  past_points uses p e (part ∷ parts) h so =
      let us = uses_of e uses in
      omega (arith, past_point p us (shares_of part (demands us)) h (All-filter (λ (u : NetworkUse). eqb u.element e) (λ u. u.point < n) uses so), past_points uses p (e + 1) parts h so)
