-- The header obeys the laws of records. Assumes nothing.
use Rattle.std.proofs.Common.{◌≡◌, ℕ, ◌<◌, ◌≤◌, List, ◌++◌, length, take, drop, Some, None, Ok, Err, Result, ap, ◌∙◌, arith}
use Rattle.std.proofs.lemmas.List.{length-append, take_at, drop_at, take_all, take-append-drop}
use Rattle.std.proofs.lemmas.Bool.Decides.{nat_tests}
use Rattle.bits.specs.Faults.{short_fault}
use Rattle.bits.specs.Forms.{record_of, record_fault}
use Rattle.bits.specs.declared.fault.Fault.{Fault}
use Rattle.bits.proofs.Trips.{length_record}
use Rattle.records.specs.Headers.{header_form, header_of, header_fault, header_bytes, HeaderIn}
use Rattle.records.specs.declared.header.Header.{Header}

pub length_header : (h : Header) → length (header_bytes h) ≡ 27
unfolding header_form
length_header h = length_record header_form h

-- a file that is long enough is judged by its first 27 bytes
file_long : (file : List ℕ) → 27 ≤ length file → header_fault file ≡ record_fault header_form 0 (take 27 file)
file_long file l = grind (arith, nat_tests)

front : (file : List ℕ) (h : Header) (rest : List ℕ) → file ≡ header_bytes h ++ rest → (take 27 file ≡ header_bytes h) × (drop 27 file ≡ rest)
front file h rest e = rw e (take_at (header_bytes h) rest 27 (length_header h), drop_at (header_bytes h) rest 27 (length_header h))

pub file_short : (file : List ℕ) → length file < 27 → (Some short_fault ≡ header_fault file) × ((h : Header) (rest : List ℕ) → HeaderIn h → file ≡ header_bytes h ++ rest → ⊥)
file_short file l = (grind (arith, nat_tests), λ h rest i e. omega (arith, simp length-append at (ap length e), length_header h))

-- a file whose first 27 bytes are no header
pub file_fails : (file bytes : List ℕ) (f : Fault) → 27 ≤ length file → bytes ≡ take 27 file → Some f ≡ record_fault header_form 0 bytes → ((h : Header) → HeaderIn h → bytes ≡ header_bytes h → ◌≡◌ {A = Result Header Fault} (Err f) (Ok h))
    → (Some f ≡ header_fault file) × ((h : Header) (rest : List ℕ) → HeaderIn h → file ≡ header_bytes h ++ rest → ⊥)
file_fails file bytes f l b e n = (cc (file_long file l), λ h rest i g. let w = n h i (b ∙ (front file h rest g).0) in cc)

-- a file whose first 27 bytes are the header h
pub file_succeeds : (file bytes rest : List ℕ) (h : Header) → 27 ≤ length file → bytes ≡ take 27 file → rest ≡ drop 27 file → None ≡ record_fault header_form 0 bytes → h ≡ record_of header_form bytes → HeaderIn h × (bytes ≡ header_bytes h)
    → ((g : Header) → HeaderIn g → bytes ≡ header_bytes g → ◌≡◌ {A = Result Header Fault} (Ok h) (Ok g))
    → (None ≡ header_fault file) × (h ≡ header_of file) × (HeaderIn h × (file ≡ header_bytes h ++ rest)) × ((g : Header) (r : List ℕ) → HeaderIn g → file ≡ header_bytes g ++ r → (h ≡ g) × (rest ≡ r))
file_succeeds file bytes rest h l b r e v i n = (
  cc (file_long file l),
  cc,
  (i.0, let t = take-append-drop 27 file in cc),
  λ g q j k. let t = front file g q k in let w = n g j (b ∙ t.0) in (cc, r ∙ t.1),
)

-- a header that is written is read back
pub header_stands : (h : Header) → HeaderIn h → record_fault header_form 0 (header_bytes h) ≡ None → record_of header_form (header_bytes h) ≡ h
    → HeaderIn h × (header_fault (header_bytes h) ≡ None) × (header_of (header_bytes h) ≡ h)
header_stands h i n e =
    let f = file_long (header_bytes h) (omega (arith, length_header h)) in
    let t : take 27 (header_bytes h) ≡ header_bytes h = take_all 27 (header_bytes h) (omega (arith, length_header h)) in
    (i, cc, cc)
