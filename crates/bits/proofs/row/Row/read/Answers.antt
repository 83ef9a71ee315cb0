use Rattle.std.proofs.Common.{◌≡◌, Ok, Err, sym, ◌∙◌, subst, arith, rules}
use Rattle.std.proofs.lemmas.Result.{err_from_is_err_and}
use Rattle.bits.specs.Bits.{bits}
use Rattle.bits.specs.Forms.{InRange, record_bytes}
use Rattle.bits.proofs.Trips.{kept_by, read_fails, read_succeeds, read_finds}
use Rattle.bits.proofs.row.Row.read.Goals as goal

pub named-requires : goal.named-requires
named-requires g c = let k = kept_by g.Self.Row.form _ _ c.layout-2.ensures c.in_ok-check.ensures.kept in let z = g.met.Self.Row.sized in search rules

pub returns-in_err-check : goal.returns-in_err-check
returns-in_err-check g c =
    let F = g.Self.Row.form in
    let l = g.met.Self.Row.lawful in
    let xs = c.args.bytes.now in
    let p = err_from_is_err_and c.from_residual.result c.from_residual.ensures.1 in
    let v = c.decode-values.ensures.value ∙ c.layout.ensures.alike.values (bits xs) in
    let e = read_fails F c.args.record xs c.decode-values.result c.layout-2.result.fields _ v c.layout-2.ensures c.in_err-check.ensures.fault in
    rw (p.1, p.2) (record { fault = e; value = tt; exact = sym e; found = λ x h b. read_finds F l c.args.record xs (Err _) e tt x h b })

pub returns : goal.returns
returns g c =
    let F = g.Self.Row.form in
    let l = g.met.Self.Row.lawful in
    let z = g.met.Self.Row.sized in
    let xs = c.args.bytes.now in
    let v = c.decode-values.ensures.value ∙ c.layout.ensures.alike.values (bits xs) in
    let m =
    read_succeeds F l c.args.record xs c.decode-values.result c.layout-2.result.fields (omega (arith, z.size))
    c.decode-values.ensures.eight v c.layout-2.ensures c.in_ok-check.ensures.fault in
    let q = c.named.ensures in
    record {
      fault = m.0;
      value = q ∙ m.1;
      exact = subst (λ (x : g.row.Self.Denot). InRange F x × (xs ≡ record_bytes F x)) (sym q) m.2;
      found = λ x h b. read_finds F l c.args.record xs (Ok c.named.result) m.0 (q ∙ m.1) x h b;
    }
