-- Facts about one variant of a result.
use Rattle.std.specs.{Prelude.{OnErr, Ok, Err}, Result.{IsErrOf}, declared.result.Result.{Result}}

-- what holds anyway holds of an error
pub on_err : {T E : Type 0} (r : Result T E) (P : Type 0) → P → OnErr r P
on_err (Ok x) P p = tt
on_err (Err e) P p = p

-- what is well is no error
pub ok_is_no_error : {T E : Type 0} (x : T) (e : E) → IsErrOf (Ok x) e → ⊥
ok_is_no_error x e h = cc h
