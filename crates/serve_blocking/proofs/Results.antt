-- What is said of a result.
use Rattle.std.specs.Prelude.{◌≡◌, Result, Ok, Err, IfErr, IsErrAnd, OnErr}
use Rattle.std.proofs.Common.{sym, subst}
use Rattle.serve_blocking.specs.declared.error.HandleError.{HandleError}

pub on_err : {T E P : Type 0} (r : Result T E) → P → OnErr r P
on_err (Ok x) p = tt
on_err (Err e) p = p

-- an error that is passed on
pub err_as : {T : Type 0} (r : Result T HandleError) (e : HandleError) (P : HandleError → Type 0) → IsErrAnd r (λ d. d ≡ e) → P e → IfErr r P
err_as (Ok x) e P is holds = tt
err_as (Err d) e P is holds = subst P (sym is) holds
