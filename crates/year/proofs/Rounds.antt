-- A year and its file determine each other. Assumes nothing.
use Rattle.std.proofs.Common.{◌≡◌, ℕ, ◌+◌, ◌*◌, ◌<◌, ◌≤◌, List, [], ◌++◌, map, length, get_or, take, drop, ℤ, pos, negsuc, nat_abs, Some, None, sym, ap, ◌∙◌, append-nil, arith, rules, length-append}
use Rattle.std.specs.List.{AllByRecursion, flat_map}
use Rattle.std.specs.Simd.{first_chunks}
use Rattle.std.proofs.ByRecursion.{All-get_or, All-from_get_or}
use Rattle.std.proofs.lemmas.List.{take-append-drop, length-drop, length-take-le, drop_all, drop-drop, take_at, drop_at}
use Rattle.std.proofs.lemmas.List.Sums.{get_or-le-sum_by}
use Rattle.std.proofs.lemmas.Bool.Decides.{nat_tests}
use Rattle.agreement.specs.Agreement.{together_fault}
use Rattle.agreement.specs.Data.{YearData}
use Rattle.agreement.specs.Together.{no_point, no_element, no_use}
use Rattle.agreement.specs.Totals.{drawn}
use Rattle.agreement.proofs.Keeping.{Kept, kept}
use Rattle.agreement.proofs.Sound.{sound}
use Rattle.bits.specs.Forms.{record_fault, InRange}
use Rattle.bits.specs.Layout.{signed, Keeps}
use Rattle.bits.specs.Signs.{twos}
use Rattle.bits.specs.declared.fault.Fault.{Fault}
use Rattle.bits.proofs.Trips.{length_record, written_read, read_written}
use Rattle.bits.proofs.Digits.{Bytes}
use Rattle.records.specs.Elements.{element_bytes, element_fault, element_form, element_of}
use Rattle.records.specs.Headers.{header_bytes, header_fault, header_form, header_of}
use Rattle.records.specs.Points.{point_bytes, point_fault, point_form, point_of}
use Rattle.records.specs.Uses.{use_bytes, use_fault, use_form, use_of}
use Rattle.records.specs.declared.element.Element.{Element}
use Rattle.records.specs.declared.header.Header.{Header}
use Rattle.records.specs.declared.network_use.NetworkUse.{NetworkUse}
use Rattle.records.specs.declared.point.Point.{Point}
use Rattle.records.specs.Laws.{element_lawful, header_lawful, point_lawful, use_lawful}
use Rattle.year.proofs.Reading.{counts, few}
use Rattle.year.specs.YearBytes.{year_bytes, Sound}
use Rattle.year.specs.YearFile.{year_after, year_of, first_fault}
use Rattle.yearfile.specs.File.{point_parts, element_parts, use_parts, announced, length_fault, told_after}
use Rattle.yearfile.specs.Told.{first_told_fault}
use Rattle.yearfile.proofs.Telling.{fine_told, told_fine}
use Rattle.yearfile.proofs.Parting.{Fine, bytes_drop, bytes_take, length_all, parts_all, past_all, read_back, none_back, write_back}

-- a number near zero, in two's complement, keeps its range
signed_in : (z : ℤ) → nat_abs z ≤ 10000000000 → Keeps (signed 35 10000000000) (twos z)
signed_in (pos n) h = grind (arith, nat_tests)
signed_in (negsuc n) h = grind (arith, nat_tests)

module _ (d : YearData) (so : Sound d) where
  -- the header of a sound year, and each of its records, keeps its ranges
  pub header_ranged : InRange header_form d.header
  unfolding header_form
  header_ranged =
      let y = so.dated so.some in
      let c = so.counted in
      let w = so.few in
      let f = so.figures in
      let t = so.within.0 in
      let l = signed_in d.header.locational_residue f.2 in
      let o = signed_in d.header.other_residue f.3 in
      let p = so.some in
      grind arith

  point_ranged : (k : ℕ) → k < length d.points → InRange point_form (get_or d.points k no_point)
  unfolding point_form
  point_ranged k l =
      let i = so.identified k l in
      let n = get_or-le-sum_by (λ (p : Point). p.entry_cost) d.points k no_point l in
      let x = get_or-le-sum_by (λ (p : Point). p.exit_cost) d.points k no_point l in
      let q = get_or-le-sum_by (λ (p : Point). p.contract_demand) d.points k no_point l in
      let e = get_or-le-sum_by (λ (p : Point). p.energy) d.points k no_point l in
      let w = so.within in
      grind arith

  element_ranged : (k : ℕ) → k < length d.elements → InRange element_form (get_or d.elements k no_element)
  unfolding element_form
  element_ranged k l = let r = so.rated k l in grind arith

  use_ranged : (k : ℕ) → k < length d.uses → InRange use_form (get_or d.uses k no_use)
  unfolding use_form
  use_ranged k l =
      let n = so.named k l in
      let w = so.few in
      let u = so.used (get_or d.uses k no_use).element n.0 in
      let g = get_or-le-sum_by (drawn (get_or d.uses k no_use).element) d.uses k no_use l in
      grind (arith, nat_tests)

  pub points_ranged : AllByRecursion (InRange point_form) d.points
  points_ranged = All-from_get_or (InRange point_form) d.points no_point point_ranged

  pub elements_ranged : AllByRecursion (InRange element_form) d.elements
  elements_ranged = All-from_get_or (InRange element_form) d.elements no_element element_ranged

  pub uses_ranged : AllByRecursion (InRange use_form) d.uses
  uses_ranged = All-from_get_or (InRange use_form) d.uses no_use use_ranged

-- the records of a year without its header
abbrev body : YearData → List ℕ
body d = flat_map point_bytes d.points ++ (flat_map element_bytes d.elements ++ flat_map use_bytes d.uses)

module _ (d : YearData) (so : Sound d) where
  abbrev h : Header
  h = d.header

  abbrev ps : List Point
  ps = d.points

  abbrev es : List Element
  es = d.elements

  abbrev us : List NetworkUse
  us = d.uses

  parts : (point_parts h (body d) ≡ map point_bytes ps) × ((element_parts h (body d) ≡ map element_bytes es) × (use_parts h (body d) ≡ map use_bytes us))
  unfolding point_form element_form use_form
  parts =
      let p = flat_map element_bytes es ++ flat_map use_bytes us in
      let u : first_chunks 5 (length us) (flat_map use_bytes us) ≡ map use_bytes us = rw append-nil at (parts_all use_form us []) in
      rw (so.counted.0, so.counted.1, so.counted.2, ← drop-drop (9 * length es) (15 * length ps) (body d), past_all point_form ps p, past_all element_form es (flat_map use_bytes us))
      (parts_all point_form ps p, (parts_all element_form es (flat_map use_bytes us), u))

  year_back : year_after h (body d) ≡ d
  year_back = rw (parts.0, parts.1.0, parts.1.1, read_back point_form point_lawful ps (points_ranged d so), read_back element_form element_lawful es (elements_ranged d so), read_back use_form use_lawful us (uses_ranged d so))

  told_back : first_told_fault (told_after h (body d)) ≡ None
  told_back =
      rw (parts.0, parts.1.0, parts.1.1)
      (fine_told 0 _ _ _ (none_back point_form point_lawful ps (points_ranged d so)) (none_back element_form element_lawful es (elements_ranged d so)) (none_back use_form use_lawful us (uses_ranged d so)))

  pub length-body : length (body d) ≡ announced h
  unfolding point_form element_form use_form
  length-body = simp length-append (omega (arith, length_all point_form ps, length_all element_form es, length_all use_form us, so.counted.0, so.counted.1, so.counted.2))

  length_back : length_fault h (body d) ≡ None
  length_back = let n = length-body in grind (arith, nat_tests)

  pub length-head : length (header_bytes h) ≡ 27
  unfolding header_form
  length-head = length_record header_form h

  head : take 27 (year_bytes d) ≡ header_bytes h
  head = take_at (header_bytes h) (body d) 27 length-head

  after : drop 27 (year_bytes d) ≡ body d
  after = drop_at (header_bytes h) (body d) 27 length-head

  header_back : header_of (year_bytes d) ≡ h
  header_back = rw head (written_read header_form header_lawful 0 h (header_ranged d so)).1

  header_fine : header_fault (year_bytes d) ≡ None
  header_fine =
      let f : record_fault header_form 0 (take 27 (year_bytes d)) ≡ None = rw head (written_read header_form header_lawful 0 h (header_ranged d so)).0 in
      let l : 27 ≤ length (year_bytes d) = simp length-append (omega (arith, length-head)) in
      grind (arith, nat_tests)

  limits_kept : Kept d
  limits_kept = search rules

  -- what a sound year writes is read back as the same year, without a fault
  pub written_then_read : (None ≡ first_fault (year_bytes d)) × (year_of (year_bytes d) ≡ d)
  written_then_read =
      let y : year_of (year_bytes d) ≡ d = rw (header_back, after) year_back in
      let l : length_fault (header_of (year_bytes d)) (drop 27 (year_bytes d)) ≡ None = rw (header_back, after) length_back in
      let t : first_told_fault (told_after (header_of (year_bytes d)) (drop 27 (year_bytes d))) ≡ None = rw (header_back, after) told_back in
      let a : together_fault (year_of (year_bytes d)) ≡ None = ap together_fault y ∙ sound d so.some limits_kept in
      (sym (rw (header_fine, l, t) a), y)

-- a file without a fault is what its year writes, and that year is sound
module _ (file : List ℕ) (bytes : Bytes file) (fine : None ≡ first_fault file) where
  abbrev hd : Header
  hd = header_of file

  abbrev rest : List ℕ
  rest = drop 27 file

  abbrev mid : List ℕ
  mid = drop (15 * hd.points) rest

  abbrev last : List ℕ
  last = drop (15 * hd.points + 9 * hd.elements) rest

  nothing_wrong : (None ≡ header_fault file) × ((None ≡ length_fault hd rest) × ((None ≡ first_told_fault (told_after hd rest)) × (None ≡ together_fault (year_of file))))
  nothing_wrong = (grind arith, (grind arith, (grind arith, grind arith)))

  header_read : InRange header_form hd × (take 27 file ≡ header_bytes hd)
  unfolding header_form
  header_read =
      let n = nothing_wrong.0 in
      let l : 27 ≤ length file = grind (arith, nat_tests) in
      let f : record_fault header_form 0 (take 27 file) ≡ None = grind (arith, nat_tests) in
      read_written header_form header_lawful 0 (take 27 file) (length-take-le 27 file l) (bytes_take 27 file bytes) f

  length_rest : length rest ≡ announced hd
  length_rest = let n = nothing_wrong.1.0 in grind (arith, nat_tests)

  parts_fine : Fine point_fault (point_parts hd rest) × (Fine element_fault (element_parts hd rest) × Fine use_fault (use_parts hd rest))
  parts_fine = told_fine 0 (point_parts hd rest) (element_parts hd rest) (use_parts hd rest) nothing_wrong.1.1.0

  points_read : AllByRecursion (InRange point_form) (map point_of (point_parts hd rest)) × (flat_map point_bytes (map point_of (point_parts hd rest)) ++ mid ≡ rest)
  unfolding point_form
  points_read = write_back point_form point_lawful hd.points rest (omega (arith, length_rest)) (bytes_drop 27 file bytes) parts_fine.0

  elements_read : AllByRecursion (InRange element_form) (map element_of (element_parts hd rest)) × (flat_map element_bytes (map element_of (element_parts hd rest)) ++ last ≡ mid)
  unfolding element_form
  elements_read =
      let l : 9 * hd.elements ≤ length mid = omega (arith, length_rest, length-drop (15 * hd.points) rest) in
      rw (← drop-drop (9 * hd.elements) (15 * hd.points) rest) (write_back element_form element_lawful hd.elements mid l (bytes_drop (15 * hd.points) rest (bytes_drop 27 file bytes)) parts_fine.1.0)

  uses_read : flat_map use_bytes (map use_of (use_parts hd rest)) ≡ last
  unfolding use_form
  uses_read =
      let n : length last ≡ 5 * hd.uses = omega (arith, length_rest, length-drop (15 * hd.points + 9 * hd.elements) rest) in
      let none : drop (5 * hd.uses) last ≡ [] = drop_all (5 * hd.uses) last (omega (arith, n)) in
      let w = (write_back use_form use_lawful hd.uses last (omega (arith, n)) (bytes_drop (15 * hd.points + 9 * hd.elements) rest (bytes_drop 27 file bytes)) parts_fine.1.1).1 in
      rw append-nil at (rw none at w)

  pub read_then_written : year_bytes (year_of file) ≡ file
  read_then_written = rw (uses_read, elements_read.1, points_read.1, ← header_read.1) (take-append-drop 27 file)

  pub sound_file : Sound (year_of file)
  unfolding header_form point_form element_form
  sound_file =
      let c = counts hd rest in
      let r = header_read.0 in
      let k = kept (year_of file) nothing_wrong.1.1.1 in
      record {
        some = grind arith;
        few = few hd rest header_read.0;
        counted = c;
        figures = grind arith;
        dated = grind arith;
        identified = λ i l. let p = All-get_or (InRange point_form) (year_of file).points i no_point l points_read.0 in grind arith;
        rated = λ i l. let e = All-get_or (InRange element_form) (year_of file).elements i no_element l elements_read.0 in grind arith;
        distinct = k.distinct;
        named = k.named;
        rising = k.rising;
        within = k.within;
        used = k.used;
        priced = k.priced;
      }

-- what a sound year writes is not refused
pub never_refused : (file : List ℕ) (f : Fault) → Some f ≡ first_fault file → (d : YearData) → Sound d → file ≡ year_bytes d → ⊥
never_refused file f e d so b =
    let n = (written_then_read d so).0 in
    let s = ap first_fault b in
    cc
