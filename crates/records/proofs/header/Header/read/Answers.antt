use Rattle.std.proofs.Common.{length, Some, sym, ap, ◌∙◌}
use Rattle.std.proofs.lemmas.Result.{err_from_is_err_and}
use Rattle.bits.proofs.Counting.{short_told, not_short}
use Rattle.records.specs.Headers.{header_form}
use Rattle.records.proofs.HeaderLaws.{file_short, file_fails, file_succeeds}
use Rattle.records.proofs.header.Header.read.Goals as goal

pub returns-in_err-bytes : goal.returns-in_err-bytes
unfolding header_form
returns-in_err-bytes c =
    let p = err_from_is_err_and c.from_residual.result c.from_residual.ensures.1 in
    let t = short_told 27 (length c.args.file.now) _ c.in_err-bytes.ensures.fault in
    let s = file_short c.args.file.now t.0 in
    let e = ap Some t.1 ∙ s.0 in
    rw (p.1, p.2) (record { fault = e; value = tt; exact = sym e; found = s.1 })

pub returns-in_err-header : goal.returns-in_err-header
unfolding header_form
returns-in_err-header c =
    let p = err_from_is_err_and c.from_residual-in_err-header.result c.from_residual-in_err-header.ensures.1 in
    let k = c.in_ok-bytes.ensures.value in
    let l = not_short 27 (length c.args.file.now) c.in_ok-bytes.ensures.fault in
    let s = file_fails c.args.file.now c.in_ok-bytes.bytes.now _ l k.0 c.in_err-header.ensures.fault c.in_err-header.ensures.found in
    rw (p.1, p.2) (record { fault = s.0; value = tt; exact = sym s.0; found = s.1 })

pub returns : goal.returns
unfolding header_form
returns c =
    let k = c.in_ok-bytes.ensures.value in
    let l = not_short 27 (length c.args.file.now) c.in_ok-bytes.ensures.fault in
    let r = c.in_ok-header.ensures in
    let s = file_succeeds c.args.file.now c.in_ok-bytes.bytes.now c.in_ok-bytes.rest.now c.in_ok-header.header l k.0 k.1 r.fault r.value r.exact r.found in
    record { fault = s.0; value = (s.1, k.1); exact = s.2; found = s.3 }
