use Rattle.std.proofs.Common.{◌≡◌, ℕ, List, get_or, sym, ap, arith, rules}
use Rattle.std.proofs.lemmas.List.{drop-drop}
use Rattle.bits.specs.Bits.{bits}
use Rattle.bits.proofs.Pieces.{piece_given, byte_done, some_bytes}
use Rattle.bits.proofs.reader.Reader.piece.Goals as goal

pub unwrap-requires : goal.unwrap-requires
unwrap-requires c = search (rules, some_bytes)

pub returns-then-low-eq0 : goal.returns-then-low-eq0
returns-then-low-eq0 c =
    let xs = c.args.self.now.rest.now in
    let s = (rw c.unwrap.ensures at c.split_first.ensures).cases.0 in
    let h : get_or xs 0 0 ≡ c.unwrap.result.0.now = ap (λ (l : List ℕ). get_or l 0 0) s in
    let p = piece_given xs c.args.self.now.used c.args.count c.requires.some c.requires.within c.requires.room in
    record { value = rw (c.from.ensures, ← h) p.0; small = rw (c.from.ensures, ← h) p.1; after = byte_done xs _ _ c.args.self.now.used c.args.count s (omega arith) }

pub returns-else-low-eq0 : goal.returns-else-low-eq0
returns-else-low-eq0 c =
    let xs = c.args.self.now.rest.now in
    let s = (rw c.unwrap.ensures at c.split_first.ensures).cases.0 in
    let h : get_or xs 0 0 ≡ c.unwrap.result.0.now = ap (λ (l : List ℕ). get_or l 0 0) s in
    let p = piece_given xs c.args.self.now.used c.args.count c.requires.some c.requires.within c.requires.room in
    record { value = rw (c.from.ensures, ← h) p.0; small = rw (c.from.ensures, ← h) p.1; after = sym (drop-drop c.args.count c.args.self.now.used (bits xs)) }
