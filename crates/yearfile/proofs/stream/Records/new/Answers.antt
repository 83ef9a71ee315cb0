use Rattle.std.proofs.Common.{◌≡◌, ◌*◌, ◌/◌, length, arith}
use Rattle.yearfile.proofs.Telling.{cut_up}
use Rattle.yearfile.proofs.stream.Records.new.Goals as goal

pub returns : goal.returns
returns c =
    let h = c.args.header.now in
    let front = c.split_at.result.0.now in
    let mid = c.split_at-2.result.0.now in
    let last = c.split_at-2.result.1.now in
    let a : 15 * c.from.result ≡ 15 * h.points = omega arith in
    let b : 9 * c.from-2.result ≡ 9 * h.elements = omega arith in
    let m : length front / 15 ≡ h.points = omega arith in
    let n : length mid / 9 ≡ h.elements = omega arith in
    let k : length last / 5 ≡ h.uses = omega arith in
    let e = cut_up h c.args.rest.now front c.split_at.result.1.now mid last _ _ c.split_at.ensures.front c.split_at.ensures.back c.split_at-2.ensures.front c.split_at-2.ensures.back _ _ _ a b m n k in
    rw (c.iter.ensures.rest, c.iter-2.ensures.rest, c.iter-3.ensures.rest, c.as_chunks.ensures.front, c.as_chunks-2.ensures.front, c.as_chunks-3.ensures.front) e
