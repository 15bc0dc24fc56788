-- What a `?` hands on where the call that it stands behind was refused.
use mathlib.Core.Path.{◌≡◌, subst}
use Rattle.std.specs.Prelude.{Result, Err}
use Rattle.std.specs.Result.{IsErrAnd}
use Rattle.std.proofs.lemmas.Result.{err_from_is_err_and}
use Rattle.table.specs.declared.reason.Refusal.{Refusal}

-- the same refusal
pub exit : {T : Type 0} {d : Refusal} (r : Result T Refusal) → IsErrAnd r (λ e. e ≡ d) → r ≡ Err d
exit r h =
    let (e, is, same) = err_from_is_err_and r h in
    subst (λ (e : Refusal). r ≡ Err e) same is
