-- What holds of an answer, said in another way.
use Rattle.std.specs.Prelude.{Result, Ok, Err, OnOk, IfErr}

pub ok_as : {T E P Q : Type 0} (r : Result T E) → (P → Q) → OnOk r P → OnOk r Q
ok_as (Ok done) to holds = to holds
ok_as (Err e) to holds = tt

pub err_as : {T E : Type 0} {P Q : E → Type 0} (r : Result T E) → ((e : E) → P e → Q e) → IfErr r P → IfErr r Q
err_as (Ok done) to holds = tt
err_as (Err e) to holds = to e holds
