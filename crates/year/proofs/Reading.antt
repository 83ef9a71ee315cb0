-- What the records of a file say, and what they keep where none has a fault. Assumes nothing.
use Rattle.std.proofs.Common.{◌≡◌, ℕ, ◌+◌, List, [], ◌∷◌, map, drop, None, refl, ap, ◌∙◌, subst, arith}
use Rattle.std.proofs.lemmas.List.{length-map}
use Rattle.agreement.specs.Agreement.{together_fault}
use Rattle.agreement.specs.Data.{YearData, year_data, Few}
use Rattle.bits.specs.Laid.{◌or_else◌}
use Rattle.records.specs.Elements.{element_of}
use Rattle.records.specs.Headers.{HeaderIn, header_of, header_fault}
use Rattle.records.specs.Points.{point_of}
use Rattle.records.specs.Uses.{use_of}
use Rattle.records.specs.declared.header.Header.{Header}
use Rattle.year.specs.Contents.{gathered}
use Rattle.year.specs.Ranges.{Counted}
use Rattle.year.specs.YearFile.{year_after, year_of, first_fault}
use Rattle.yearfile.proofs.Telling.{length-chunks}
use Rattle.yearfile.specs.File.{point_parts, element_parts, use_parts, length_fault, told_after}
use Rattle.yearfile.specs.Told.{Told, in_order, first_told_fault}

-- records told in order, each among those of its kind
told_apart : (h : Header) (n : ℕ) (ps es us : List (List ℕ)) → gathered h (in_order n ps es us) ≡ year_data h (map point_of ps) (map element_of es) (map use_of us)
told_apart h n [] [] [] = refl
told_apart h n [] [] (u ∷ us) = ap (λ (d : YearData). year_data h d.points d.elements (use_of u ∷ d.uses)) (told_apart h (n + 1) [] [] us)
told_apart h n [] (e ∷ es) us = ap (λ (d : YearData). year_data h d.points (element_of e ∷ d.elements) d.uses) (told_apart h (n + 1) [] es us)
told_apart h n (p ∷ ps) es us = ap (λ (d : YearData). year_data h (point_of p ∷ d.points) d.elements d.uses) (told_apart h (n + 1) ps es us)

-- the records that a header announces say what the file says
pub gathers : (h : Header) (rest : List ℕ) → gathered h (told_after h rest) ≡ year_after h rest
gathers h rest = told_apart h 0 (point_parts h rest) (element_parts h rest) (use_parts h rest)

pub counts : (h : Header) (rest : List ℕ) → Counted (year_after h rest)
counts h rest = (simp (length-map, length-chunks), simp (length-map, length-chunks), simp (length-map, length-chunks))

-- a header that keeps its ranges announces few enough records
pub few : (h : Header) (rest : List ℕ) → HeaderIn h → Few (year_after h rest)
few h rest in_range = let c = counts h rest in grind arith

-- a file whose header and length have no fault, as it is taken apart
pub record Taken (file : List ℕ) (h : Header) (rest : List ℕ) : Type 0 where
  pub header : h ≡ header_of file
  pub after : rest ≡ drop 27 file
  pub in_range : HeaderIn h
  pub fine : None ≡ header_fault file
  pub whole : None ≡ length_fault h rest

module _ {file : List ℕ} {h : Header} {rest : List ℕ} (so : Taken file h rest) where
  same : year_after h rest ≡ year_of file
  same = rw (so.header, so.after)

  pub few_file : Few (year_of file)
  few_file = subst (λ (d : YearData). Few d) same (few h rest so.in_range)

  -- the records that it announces are all that is in the year, and what is wrong is wrong with them
  module _ (ts : List Told) (e : ts ≡ told_after h rest) where
    pub year_left : gathered h ts ≡ year_of file
    year_left = ap (gathered h) e ∙ (gathers h rest ∙ same)

    pub fault_left : (first_told_fault ts or_else together_fault (year_of file)) ≡ first_fault file
    fault_left =
        let w : None ≡ length_fault (header_of file) (drop 27 file) = rw (← so.header, ← so.after) so.whole in
        rw (e, so.header, so.after, ← so.fine, ← w)
