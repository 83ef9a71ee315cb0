use Rattle.std.proofs.Common.{length, arith}
use Rattle.records.specs.Headers.{header_form}
use Rattle.year.proofs.Rounds.{header_ranged, points_ranged, elements_ranged, uses_ranged, written_then_read}
use Rattle.year.proofs.Sending.{sound_of, short, fits, rooms, sent}
use Rattle.year.proofs.year.Year.write.Goals as goal

pub returns-then-buffer-announced-clause-refused : goal.returns-then-buffer-announced-clause-refused
returns-then-buffer-announced-clause-refused c =
    rw (← c.in_ok-lists.ensures.lends) (short _ (sound_of c.in_ok-lists.field-0) _ (omega arith))

pub lay-past_header-requires : goal.lay-past_header-requires
unfolding header_form
lay-past_header-requires c =
    let so = sound_of c.in_ok-lists.field-0 in
    let r = rooms _ so (length c.args.buffer.now) (omega arith) in
    record { ranged = header_ranged _ so; room = omega arith }

pub lay_all-past_points-requires : goal.lay_all-past_points-requires
lay_all-past_points-requires c =
    let so = sound_of c.in_ok-lists.field-0 in
    let r = rooms _ so (length c.args.buffer.now) (omega arith) in
    rw c.deref.ensures.value (record { ranged = points_ranged _ so; room = omega arith })

pub lay_all-past_elements-requires : goal.lay_all-past_elements-requires
lay_all-past_elements-requires c =
    let so = sound_of c.in_ok-lists.field-0 in
    let r = rooms _ so (length c.args.buffer.now) (omega arith) in
    let p = rw c.deref.ensures.value at c.lay_all-past_points.ensures.end in
    rw c.deref-2.ensures.value (record { ranged = elements_ranged _ so; room = omega arith })

pub lay_all-requires : goal.lay_all-requires
lay_all-requires c =
    let so = sound_of c.in_ok-lists.field-0 in
    let r = rooms _ so (length c.args.buffer.now) (omega arith) in
    let p = rw c.deref.ensures.value at c.lay_all-past_points.ensures.end in
    let e = rw c.deref-2.ensures.value at c.lay_all-past_elements.ensures.end in
    rw c.deref-3.ensures.value (record { ranged = uses_ranged _ so; room = omega arith })

pub returns : goal.returns
returns c =
    let so = sound_of c.in_ok-lists.field-0 in
    let p = rw c.deref.ensures.value at c.lay_all-past_points.ensures in
    let e = rw c.deref-2.ensures.value at c.lay_all-past_elements.ensures in
    let u = rw c.deref-3.ensures.value at c.lay_all.ensures in
    rw (← c.in_ok-lists.ensures.lends) (record {
      refused = fits _ so (length c.args.buffer.now) (omega arith);
      written = sent _ _ _ _ _ _ _ _ _ _ _ _ _ (omega arith) (omega arith) (rooms _ so _ (omega arith)) c.lay-past_header.ensures.after c.lay-past_header.ensures.end p.after p.end e.after e.end u.after u.end;
      back = written_then_read _ so;
    })
