-- The walk over the elements and their uses, one by one. Assumes nothing.
use Rattle.std.proofs.Common.{◌≡◌, ℕ, suc, ◌+◌, ◌<◌, List, [], ◌∷◌, length, drop, sym, refl, ap, ◌∙◌, arith}
use Rattle.std.specs.List.{prefix_len}
use Rattle.records.specs.declared.element.Element.{Element}
use Rattle.records.specs.declared.network_use.NetworkUse.{NetworkUse}
use Rattle.standard.specs.Allotted.{uses_of}
use Rattle.standard.specs.Order.{own}
use Rattle.standard.specs.Portions.{Portioned, portions}
use Rattle.standard.specs.Segments.{segments}
use Rattle.standard.proofs.Fronts.{own_later}

module _ {X : Type 0} (weight : X → ℕ) (total : ℕ) where
  pub length-portions : (before : ℕ) (xs : List X) → length (portions weight total before xs) ≡ length xs
  length-portions before [] = refl
  length-portions before (x ∷ xs) = ap suc (length-portions (before + weight x) xs)

-- of later elements nothing is lost with the uses at the front
pub segments-later : (e f : ℕ) (xs : List (Portioned Element)) (us : List NetworkUse) → e < f → segments f xs us ≡ segments f xs (drop (prefix_len (own e) us) us)
segments-later e f [] us h = refl
segments-later e f (x ∷ xs) us h =
    ap (λ vs. record { element = x; uses = vs } ∷ segments (f + 1) xs us) (own_later e f us h)
    ∙ ap (λ ys. record { element = x; uses = uses_of f (drop (prefix_len (own e) us) us) } ∷ ys) (segments-later e (f + 1) xs us (omega arith))

-- one element on: its uses are the front of what is left of the uses
pub segments-step : (e : ℕ) (ps : List (Portioned Element)) (x : Portioned Element) (qs : List (Portioned Element)) (us front back : List NetworkUse)
    → ps ≡ x ∷ qs → front ≡ uses_of e us → back ≡ drop (prefix_len (own e) us) us
    → segments e ps us ≡ record { element = x; uses = front } ∷ segments (e + 1) qs back
segments-step e ps x qs us front back p f b =
    ap (λ xs. segments e xs us) p
    ∙ ap (λ vs. record { element = x; uses = vs } ∷ segments (e + 1) qs us) (sym f)
    ∙ ap (λ ys. record { element = x; uses = front } ∷ ys) (segments-later e (e + 1) qs us (omega arith) ∙ ap (segments (e + 1) qs) (sym b))
