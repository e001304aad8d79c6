use Rattle.std.proofs.Common.{◌≡◌, refl, sym, Ok, Err}
use Rattle.oci_transport.proofs.AddedFields.{is_added, bad_name}
use Rattle.oci_transport.proofs.headers.with_named.Goals as goal

is_no_error : {A E : Type 0} {x : A} {e : E} → Ok x ≡ Err e → ⊥
is_no_error h = cc

pub returns-in-Ok : goal.returns-in-Ok
returns-in-Ok c =
    let h = c.in-Ok.ensures in
    sym (is_added c.args.headers _ c.args.name.now c.args.value.now (λ n. is_no_error (h.bad_name.1 n)) h.accepted.0 h.accepted.1 h.ok)

pub returns-in-Err-BadName : goal.returns-in-Err-BadName
returns-in-Err-BadName c =
    sym (bad_name c.args.headers c.args.name.now c.args.value.now (c.in-Err-BadName.ensures.bad_name.0 (rw c.in-Err-BadName.field-0-is refl)))
