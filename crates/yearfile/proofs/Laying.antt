-- Bytes laid one after another. Assumes nothing.
use Rattle.std.proofs.Common.{◌≡◌, ℕ, ◌+◌, ◌<◌, ◌≤◌, List, ◌∷◌, ◌++◌, length, get_or, drop, Ok, Err, Result, sym, refl, ap, ◌∙◌, arith, rules}
use Rattle.std.specs.Result.{IsOk, result_err}
use Rattle.std.proofs.lemmas.List.{same_lists, places, drop_more}
use Rattle.std.proofs.lemmas.Bool.Decides.{nat_tests}
use Rattle.bits.specs.Forms.{Form, record_refusal, InRange}
use Rattle.bits.specs.declared.fault.Fault.{Fault}
use Rattle.bits.proofs.Laws.{none_bad}
use Rattle.yearfile.specs.Bytes.{laid_at}

-- a record that keeps its ranges is written wherever there is room
pub written : {X : Type 0} (F : Form X) (x : X) (room : ℕ) (r : Result ℕ Fault) → InRange F x → F.size ≤ room → result_err r ≡ record_refusal F 0 x room → IsOk r
unfolding record_refusal
written F x room (Ok n) h s e = refl
written F x room (Err f) h s e =
    let b = none_bad 0 1 (F.fields (F.values x)) (F.values x) h.0 in
    grind (arith, nat_tests)

-- bytes laid after bytes
pub laid_more : (at : ℕ) (a b buffer : List ℕ) → at ≤ length buffer → laid_at (at + length a) b (laid_at at a buffer) ≡ laid_at at (a ++ b) buffer
laid_more at a b buffer h = same_lists _ _ (search (rules, places)) (λ k d l. grind (arith, places))

-- the item that comes next
pub next : {X : Type 0} (xs : List X) (i : ℕ) (x : X) → i < length xs → x ≡ get_or xs i x → drop i xs ≡ x ∷ drop (i + 1) xs
next xs i x h e = drop_more xs i x h ∙ ap (λ (y : _). y ∷ drop (i + 1) xs) (sym e)
