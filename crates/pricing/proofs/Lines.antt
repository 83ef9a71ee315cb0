-- The lines of a page. Assumes nothing.
use Rattle.std.proofs.Common.{◌≡◌, ℕ, zero, suc, ◌<◌, List, [], ◌∷◌, ◌++◌, map, length, get_or, take, Some, None, refl, append_assoc, append-nil, arith}
use Rattle.std.specs.Prelude.{codes}
use Rattle.std.specs.List.{flat_map, slice_get}
use Rattle.pricing.specs.Printed.{line_text, lines_of, page_lines, page_text}
use Rattle.pricing.specs.declared.page.Line.{Line}
use Rattle.pricing.specs.declared.page.Line.TheVariants.{Charges}
use Rattle.pricing.specs.declared.page.Page.{Page}
use Rattle.pricing.specs.declared.page.PointCharges.{PointCharges}

-- the charges of points, and then a last line
abbrev pub ended : List PointCharges → Line → List Line
ended rows last = map (λ c. Charges c) rows ++ (last ∷ [])

pub row_at : (rows : List PointCharges) (last : Line) (k : ℕ) (d : PointCharges) → k < length rows → slice_get (ended rows last) k ≡ Some (Charges (get_or rows k d))
row_at [] last k d h = absurd (omega arith)
row_at (x ∷ xs) last zero d h = refl
row_at (x ∷ xs) last (suc k) d h = row_at xs last k d (omega arith)

pub last_at : (rows : List PointCharges) (last : Line) (k : ℕ) → k ≡ length rows → slice_get (ended rows last) k ≡ Some last
last_at [] last zero e = refl
last_at [] last (suc k) e = absurd (omega arith)
last_at (x ∷ xs) last zero e = absurd (omega arith)
last_at (x ∷ xs) last (suc k) e = last_at xs last k (omega arith)

pub past_at : (rows : List PointCharges) (last : Line) (k : ℕ) → length rows < k → slice_get (ended rows last) k ≡ None
past_at [] last zero h = absurd (omega arith)
past_at [] last (suc k) h = refl
past_at (x ∷ xs) last zero h = absurd (omega arith)
past_at (x ∷ xs) last (suc k) h = past_at xs last k (omega arith)

-- each line with its end
abbrev pub printed : List Line → List ℕ
printed ls = flat_map (λ l. line_text l ++ codes "\n") ls

rows_printed : (rows : List PointCharges) (last : Line) → printed (ended rows last) ≡ lines_of rows ++ (line_text last ++ codes "\n")
rows_printed [] last = simp append-nil
rows_printed (x ∷ xs) last = simp append_assoc (rw (rows_printed xs last) refl)

pub whole : (p : Page) → printed (page_lines p) ≡ page_text p ++ codes "\n"
whole p = rw (rows_printed (take p.points p.charges) _) (simp append_assoc)
