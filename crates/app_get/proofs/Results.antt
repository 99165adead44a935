-- What a call ends with.
use Rattle.std.specs.Prelude.{Result, Ok, Err, OnOk}

pub ok_always : {T E : Type 0} (r : Result T E) (P : Type 0) → P → OnOk r P
ok_always (Ok x) P holds = holds
ok_always (Err e) P holds = tt
