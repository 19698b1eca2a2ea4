-- What holds of a result, whatever it is.
use Rattle.std.specs.Prelude.{Result, Ok, Err, IfOk, MatchResult, OnOk, OnErr}

pub if_ok : {T E : Type 0} (P Q : T → Type 0) (r : Result T E) → IfOk r P → ((x : T) → P x → Q x) → IfOk r Q
if_ok P Q (Ok v) p f = f v p
if_ok P Q (Err e) p f = tt

pub ok_or_err : {T E : Type 0} {A B P : Type 0} (r : Result T E) → OnOk r A → OnErr r B → (A → P) → (B → P) → P
ok_or_err (Ok v) a b f h = f a
ok_or_err (Err e) a b f h = h b

pub ok_then : {T E : Type 0} {A P : Type 0} (r : Result T E) → OnOk r A → (A → P) → OnOk r P
ok_then (Ok v) a f = f a
ok_then (Err e) a f = tt

pub if_match : {T E : Type 0} (P Q : T → Type 0) (R : E → Type 0) (r : Result T E) → MatchResult r P R → ((x : T) → P x → Q x) → IfOk r Q
if_match P Q R (Ok v) p f = f v p
if_match P Q R (Err e) p f = tt
