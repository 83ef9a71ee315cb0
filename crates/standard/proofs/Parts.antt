-- The parts of the elements, by their portions of the costs. Assumes nothing.
use Rattle.std.proofs.Common.{◌≡◌, ℕ, ◌+◌, ◌<◌, ◌≤◌, List, [], ◌∷◌, map, length, sum, sum_by, Some, None, Option, Ok, sym, refl, ap, ◌∙◌, arith}
use Rattle.std.specs.List.{slice_get}
use Rattle.std.specs.Option.{IsSome, option_map}
use Rattle.std.proofs.lemmas.Bool.Decides.{nat_tests}
use Rattle.std.proofs.lemmas.Option.{slice_get-map, slice_get_within, slice_get-get_or, get_or_from_slice_get}
use Rattle.std.proofs.lemmas.List.Sums.{sum_by-cons}
use Rattle.agreement.specs.Together.{no_element}
use Rattle.agreement.specs.Data.{YearData}
use Rattle.methods.specs.Asked.{asked}
use Rattle.money.specs.Sharing.{shares_after, shares_of}
use Rattle.records.specs.declared.element.Element.{Element}
use Rattle.records.specs.declared.network_use.NetworkUse.{NetworkUse}
use Rattle.standard.specs.Allotted.{costs, uses_of, of_parts, parts_of, parts_in}
use Rattle.standard.specs.Exchange.{parts_have}
use Rattle.standard.specs.Parting.{parts-sum}
use Rattle.standard.specs.Portions.{Portioned, portions, reduced_part}
use Rattle.standard.specs.Reduced.{reduced_by}
use Rattle.standard.specs.Segments.{segments, segments_in, of_segment}
use Rattle.standard.proofs.Segmenting.{length-portions}

first : Portioned Element
first = record { item = no_element; before = 0; total = 0 }

pub sum_step : {X : Type 0} (f : X → ℕ) (xs : List X) (x : X) (ys : List X) → xs ≡ x ∷ ys → sum_by f xs ≡ f x + sum_by f ys
sum_step f xs x ys e = ap (sum_by f) e ∙ sum_by-cons f x ys

module _ (rule : ℕ → Element → ℕ) (pool : ℕ) where
  after : (total before : ℕ) (es : List Element) → reduced_by rule (shares_after pool total before (costs es)) es ≡ map (reduced_part rule pool) (portions (λ (e : Element). e.cost) total before es)
  after total before [] = refl
  after total before (e ∷ es) = ap (λ xs. reduced_part rule pool (record { item = e; before = before; total = total }) ∷ xs) (after total (before + e.cost) es)

  pub parts_are : (es : List Element) → parts_of rule es pool ≡ map (reduced_part rule pool) (portions (λ (e : Element). e.cost) (sum (costs es)) 0 es)
  unfolding parts_of shares_of
  parts_are es = after (sum (costs es)) 0 es

  -- what a point has of all elements is a sum over them
  pub of_segments : (p e : ℕ) (xs : List (Portioned Element)) (us : List NetworkUse) → sum_by (of_segment rule pool p) (segments e xs us) ≡ of_parts us p e (map (reduced_part rule pool) xs)
  of_segments p e [] us = refl
  of_segments p e (x ∷ xs) us = omega (arith, sum_by-cons (of_segment rule pool p) (record { element = x; uses = uses_of e us }) (segments (e + 1) xs us), of_segments p (e + 1) xs us)

  -- what a point has in a year
  pub has_in_year : (d : YearData) (p : ℕ) → sum_by (of_segment rule pool p) (segments_in d) ≡ of_parts d.uses p 0 (parts_in rule d pool)
  has_in_year d p = of_segments p 0 (portions (λ (e : Element). e.cost) (sum (costs d.elements)) 0 d.elements) d.uses ∙ ap (of_parts d.uses p 0) (sym (parts_are d.elements))

  pub year_fits : ((part : ℕ) (e : Element) → rule part e ≤ part) → (d : YearData) (p : ℕ) → of_parts d.uses p 0 (parts_in rule d pool) ≤ pool
  year_fits less d p = omega (arith, parts_have d.uses p 0 (parts_in rule d pool), parts-sum rule d.elements pool less)

  module _ (es : List Element) (place : ℕ) where
    -- the part of an element that is there
    pub part_there : (x : Portioned Element) → slice_get (portions (λ (e : Element). e.cost) (sum (costs es)) 0 es) place ≡ Some x → pool ≤ 100000000000
        → asked (length es) pool place (parts_of rule es pool) ≡ Ok (reduced_part rule pool x)
    part_there x here small =
        let long = length-portions (λ (e : Element). e.cost) (sum (costs es)) 0 es in
        grind (arith, nat_tests, parts_are es, slice_get_within, slice_get-map (reduced_part rule pool) (portions (λ (e : Element). e.cost) (sum (costs es)) 0 es) place, get_or_from_slice_get (map (reduced_part rule pool) (portions (λ (e : Element). e.cost) (sum (costs es)) 0 es)) place (reduced_part rule pool x) 0)

    -- the walk comes to each element that is there
    pub part_comes : {A : Type 0} (v : A → Portioned Element) (r : Option A) → option_map v r ≡ slice_get (portions (λ (e : Element). e.cost) (sum (costs es)) 0 es) place → place < length es → IsSome r
    part_comes v (Some x) e h = refl
    part_comes v None e h =
        let long = length-portions (λ (e : Element). e.cost) (sum (costs es)) 0 es in
        let there = slice_get-get_or (portions (λ (e : Element). e.cost) (sum (costs es)) 0 es) place first (omega arith) in
        cc
