-- The records of a file, cut into parts and told in their order. Assumes nothing.
use Rattle.std.proofs.Common.{◌≡◌, ℕ, zero, suc, ◌+◌, ◌*◌, List, [], ◌∷◌, length, take, drop, None, refl, ap, mul-suc, arith}
use Rattle.std.specs.Simd.{first_chunks}
use Rattle.std.proofs.lemmas.List.{take-take, drop-take, drop-drop}
use Rattle.records.specs.Elements.{element_fault}
use Rattle.records.specs.Points.{point_fault}
use Rattle.records.specs.Uses.{use_fault}
use Rattle.records.specs.declared.header.Header.{Header}
use Rattle.yearfile.proofs.Parting.{Fine, AlwaysFine}
use Rattle.yearfile.specs.File.{told_after}
use Rattle.yearfile.specs.Told.{in_order, first_told_fault}

pub length-chunks : (size n : ℕ) (bs : List ℕ) → length (first_chunks size n bs) ≡ n
length-chunks size zero bs = refl
length-chunks size (suc n) bs = ap suc (length-chunks size n (drop size bs))

-- the parts of just as many bytes as they take
pub chunks_take : (size n : ℕ) (bs : List ℕ) → first_chunks size n (take (size * n) bs) ≡ first_chunks size n bs
chunks_take size zero bs = refl
chunks_take size (suc n) bs =
    let m = mul-suc size n in
    let l : size * suc n ≡ size + size * n = omega arith in
    rw (l, take-take size (size + size * n) bs (omega arith), drop-take size (size * n) bs, chunks_take size n (drop size bs))

-- all parts of a front of a file
pub cut : (size n at count : ℕ) (front bs : List ℕ) → front ≡ take at bs → at ≡ size * n → count ≡ n → first_chunks size count front ≡ first_chunks size n bs
cut size n at count front bs f a e = rw (f, a, e) (chunks_take size n bs)

-- a file cut into points, elements and uses
module _ (h : Header) (rest front back mid last : List ℕ) (at past : ℕ) (p : front ≡ take at rest) (q : back ≡ drop at rest) (r : mid ≡ take past back) (s : last ≡ drop past back) where
  pub cut_up : (m n k : ℕ) → at ≡ 15 * h.points → past ≡ 9 * h.elements → m ≡ h.points → n ≡ h.elements → k ≡ h.uses → in_order 0 (first_chunks 15 m front) (first_chunks 9 n mid) (first_chunks 5 k last) ≡ told_after h rest
  cut_up m n k a b c d e =
      let points = cut 15 h.points at m front rest p a c in
      let elements = cut 9 h.elements past n mid back r b d in
      rw (points, elements, s, e, q, a, b, drop-drop (9 * h.elements) (15 * h.points) rest)

-- records in their order have no fault just where none of their parts has
pub fine_told : (n : ℕ) (ps es us : List (List ℕ))
    → AlwaysFine point_fault ps → AlwaysFine element_fault es → AlwaysFine use_fault us → first_told_fault (in_order n ps es us) ≡ None
fine_told n [] [] [] p e u = refl
fine_told n [] [] (x ∷ us) p e u = rw (u.0 n) (fine_told (n + 1) [] [] us p e u.1)
fine_told n [] (x ∷ es) us p e u = rw (e.0 n) (fine_told (n + 1) [] es us p e.1 u)
fine_told n (x ∷ ps) es us p e u = rw (p.0 n) (fine_told (n + 1) ps es us p.1 e u)

pub told_fine : (n : ℕ) (ps es us : List (List ℕ)) → None ≡ first_told_fault (in_order n ps es us)
    → Fine point_fault ps × (Fine element_fault es × Fine use_fault us)
told_fine n [] [] [] h = (tt, (tt, tt))
told_fine n [] [] (x ∷ us) h = let r = told_fine (n + 1) [] [] us (grind arith) in (tt, (tt, ((n, grind arith), r.1.1)))
told_fine n [] (x ∷ es) us h = let r = told_fine (n + 1) [] es us (grind arith) in (tt, (((n, grind arith), r.1.0), r.1.1))
told_fine n (x ∷ ps) es us h = let r = told_fine (n + 1) ps es us (grind arith) in (((n, grind arith), r.0), r.1)
