-- An array that holds what every point has is the padded list of amounts. Assumes nothing.
use Rattle.std.proofs.Common.{◌≡◌, ℕ, ◌<◌, ◌≤◌, List, length, get_or, sym, ◌∙◌, arith}
use Rattle.std.proofs.lemmas.List.{ext_get_or, get_or_past}
use Rattle.methods.specs.Asked.{padded}
use Rattle.methods.specs.Padding.{padded_at, padded-length}
use Rattle.records.specs.declared.network_use.NetworkUse.{NetworkUse}
use Rattle.standard.specs.Allotted.{of_parts, amounts_of}
use Rattle.standard.specs.Order.{Placed}
use Rattle.standard.specs.Exchange.{amounts_length, amount_at}
use Rattle.standard.proofs.Placing.{past_points}

module _ (points : ℕ) (uses : List NetworkUse) (parts : List ℕ) (few : points ≤ 64) (placed : Placed points uses) where
  -- past the last point there are no amounts, and no uses
  entry : (k : ℕ) → get_or (amounts_of points uses parts) k 0 ≡ of_parts uses k 0 parts
  entry k = grind (arith, amount_at points uses parts k, past_points points uses k 0 parts, get_or_past (amounts_of points uses parts) k 0, amounts_length points uses parts, placed)

  pub filled_is : (amounts : List ℕ) → length amounts ≡ 64 → ((p : ℕ) → p < 64 → get_or amounts p 0 ≡ of_parts uses p 0 parts) → amounts ≡ padded (amounts_of points uses parts)
  filled_is amounts long each =
      let wide : length (padded (amounts_of points uses parts)) ≡ 64 = padded-length (amounts_of points uses parts) (omega (arith, amounts_length points uses parts)) in
      ext_get_or 0 amounts (padded (amounts_of points uses parts)) (omega arith) (λ k h. each k (omega arith) ∙ sym (padded_at (amounts_of points uses parts) k ∙ entry k))
