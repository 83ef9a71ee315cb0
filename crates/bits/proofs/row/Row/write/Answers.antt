use Rattle.std.proofs.Common.{◌≡◌, ℕ, List, length, Option, sym, ap, ◌∙◌, rules}
use Rattle.std.proofs.lemmas.Result.{IfOk-weaker, err_from_is_err_and}
use Rattle.bits.specs.Bits.{bytes_of}
use Rattle.bits.specs.Laid.{laid, ◌or_else◌, room_fault}
use Rattle.bits.specs.Layout.{packed}
use Rattle.bits.specs.declared.fault.Fault.{Fault}
use Rattle.bits.proofs.Trips.{write_answers, write_stands}
use Rattle.bits.proofs.row.Row.write.Goals as goal

pub returns-in_err-check-clause-fault : goal.returns-in_err-check-clause-fault
returns-in_err-check-clause-fault g c =
    let F = g.Self.Row.form in
    let room = length c.args.buffer.now in
    let p = err_from_is_err_and c.from_residual.result c.from_residual.ensures.1 in
    let w = write_answers F c.args.record room c.args.self.now _ _ c.values-values.ensures.value c.layout-layout.ensures in
    rw (p.1, p.2) (ap (λ (o : Option Fault). o or_else room_fault F.size room) c.in_err-check.ensures.fault ∙ w.0)

pub returns-clause-fault : goal.returns-clause-fault
returns-clause-fault g c =
    let F = g.Self.Row.form in
    let room = length c.args.buffer.now in
    let z = g.met.Self.Row.sized in
    let w = write_answers F c.args.record room c.args.self.now _ _ c.values-values.ensures.value c.layout-layout.ensures in
    let n : length c.encode.result ≡ g.row.M = search rules in
    c.lay_front.ensures.fault ∙ (ap (λ (k : ℕ). room_fault k room) (n ∙ sym z.size) ∙ (ap (λ (o : Option Fault). o or_else room_fault F.size room) c.in_ok-check.ensures.fault ∙ w.0))

pub returns-clause-after : goal.returns-clause-after
returns-clause-after g c =
    let F = g.Self.Row.form in
    let z = g.met.Self.Row.sized in
    let w = write_answers F c.args.record (length c.args.buffer.now) c.args.self.now _ _ c.values-values.ensures.value c.layout-layout.ensures in
    let e = c.encode.ensures ∙ (ap (λ (k : ℕ). bytes_of k (packed c.layout-layout.result.fields c.values-values.result)) (sym z.size) ∙ w.1) in
    c.lay_front.ensures.after ∙ ap (λ (xs : List ℕ). laid c.lay_front.result xs c.args.buffer.now) e

pub returns-clause-back : goal.returns-clause-back
returns-clause-back g c =
    let s =
    write_stands g.Self.Row.form g.met.Self.Row.lawful c.args.record c.args.self.now c.values-values.result c.layout-layout.result.fields c.values-values.ensures.value c.layout-layout.ensures
    c.values-values.ensures.limits c.in_ok-check.ensures.kept in
    IfOk-weaker c.lay_front.result _ _ (λ _ _. (s.0, s.1.0, s.1.1)) c.lay_front.ensures.count
