use Rattle.std.proofs.Common.{◌≡◌, ◌+◌, length, drop}
use Rattle.std.specs.List.{AllByRecursion, flat_map}
use Rattle.yearfile.specs.Bytes.{laid_at}
use Rattle.yearfile.proofs.lay.lay_all.Given as goal

-- with the rest laid too, the buffer will be as it is to be
abbrev pub invariant-loop-item : goal.invariant-loop-item
invariant-loop-item g l =
    let bytes = g.T.Lay.bytes in
    let rest = drop l.item-index l.items in
    record {
      ranged : AllByRecursion g.T.Lay.ranged rest;
      after : laid_at l.end (flat_map bytes rest) l.buffer ≡ laid_at l.at (flat_map bytes l.items) l.initial.buffer;
      end : l.end + length (flat_map bytes rest) ≡ l.at + length (flat_map bytes l.items);
    }
