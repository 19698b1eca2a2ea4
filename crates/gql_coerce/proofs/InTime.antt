-- What holds from some number of levels on, and what follows.
use Rattle.std.proofs.Common.{◌≡◌, ◌+◌, ◌<◌, ℕ, List, [], ◌∷◌, Option, length, get_or, drop, map, ap, sym, subst, ◌∙◌, arith}
use Rattle.std.specs.Prelude.{Result, Ok, Err, IfOk, IfErr}
use Rattle.std.proofs.lemmas.List.{drop_more}
use Rattle.serde_json.specs.Data as json
use Rattle.serde_json.specs.Data.{Data, Members}
use Rattle.gql_coerce.specs.Coercion.{object_of, put_if, under}
use Rattle.gql_coerce.specs.Comes.{Outcome, Eventually, reached}
use Rattle.gql_coerce.specs.Outcomes.{Reached, value, refused, after, all}
use Rattle.gql_coerce.specs.Requests.{Tells}
use Rattle.gql_coerce.specs.declared.fault.CoerceFault.{CoerceFault}
use Rattle.gql_coerce.specs.declared.fault.CoerceFault.TheVariants as fault
use Rattle.gql_coerce.specs.declared.refusal.Reason.{Reason}
use Rattle.gql_coerce.specs.declared.refusal.Segment.{Segment}
use Rattle.gql_coerce.proofs.ObjectSteps.{put_on}

pub onward : (P Q : ℕ → Type 0) → ((n : ℕ) → P n → Q n) → Eventually P → Eventually Q
onward P Q step a = (a.0, λ n. step (a.0 + n) (a.1 n))

pub both : (P Q R : ℕ → Type 0) → ((n : ℕ) → P n → Q n → R n) → Eventually P → Eventually Q → Eventually R
both P Q R step a b = (a.0 + b.0, λ n. step (a.0 + b.0 + n) (subst P (omega arith) (a.1 (b.0 + n))) (subst Q (omega arith) (b.1 (a.0 + n))))

module _ {A : Type 0} where
  pub to : (f : ℕ → Reached A) (a b : Reached A) → Eventually (λ n. f n ≡ a) → a ≡ b → Eventually (λ n. f n ≡ b)
  to f a b before is = (before.0, λ n. before.1 n ∙ is)

  -- a fault says it of any number of levels
  pub tells : (e : CoerceFault) (f : ℕ → Reached A) → Eventually (λ n. Tells e (λ (o : Outcome A). f n ≡ reached o)) → Tells e (λ (o : Outcome A). Eventually (λ n. f n ≡ reached o))
  tells (fault.Refused r) f a = (a.0, a.1)
  tells fault.Memory f a = tt

  -- a fault says it of what is equal
  pub tells_of : (e : CoerceFault) (a b : Reached A) → b ≡ a → Tells e (λ (o : Outcome A). a ≡ reached o) → Tells e (λ (o : Outcome A). b ≡ reached o)
  tells_of (fault.Refused r) a b is told = is ∙ told
  tells_of fault.Memory a b is told = tt

-- the members of variables or arguments, one after the other
module _ {X : Type 0} (value_of : ℕ → X → Reached (Option Data)) (name : X → List ℕ) where
  abbrev pub named : ℕ → X → Reached (Option (List ℕ × Data))
  named n x = after (value_of n x) (λ v. value (under (name x) v))

  abbrev pub rest : ℕ → List X → Members → Reached Data
  rest n xs ms = object_of (map (named n) xs) ms

  step : (n : ℕ) (x : X) (xs : List X) (ms : Members) (v : Option Data) → value_of n x ≡ value v → rest n (x ∷ xs) ms ≡ rest n xs (put_if (under (name x) v) ms)
  step n x xs ms v is = ap (λ o. object_of (after o (λ w. value (under (name x) w)) ∷ map (named n) xs) ms) is ∙ put_on (under (name x) v) ms (all (map (named n) xs))

  module _ (whole : ℕ → Reached Data) (xs : List X) (i : ℕ) (x : X) (ms : Members) (within : i < length xs) (item : get_or xs i x ≡ x) (before : Eventually (λ n. whole n ≡ rest n (drop i xs) ms)) where
    at_item : (n : ℕ) → whole n ≡ rest n (drop i xs) ms → whole n ≡ rest n (x ∷ drop (i + 1) xs) ms
    at_item n is = is ∙ ap (λ ys. rest n ys ms) (drop_more xs i x within ∙ ap (λ y. y ∷ drop (i + 1) xs) item)

    -- one more has come to a value, or is left out
    pub goes_on : (v : Option Data) (c : Reached (Option Data)) (more : Members) → Eventually (λ n. value_of n x ≡ c) → c ≡ value v → more ≡ put_if (under (name x) v) ms → Eventually (λ n. whole n ≡ rest n (drop (i + 1) xs) more)
    goes_on v c more comes is put = both (λ n. whole n ≡ rest n (drop i xs) ms) (λ n. value_of n x ≡ c) (λ n. whole n ≡ rest n (drop (i + 1) xs) more)
        (λ n b a. at_item n b ∙ step n x (drop (i + 1) xs) ms v (a ∙ is) ∙ ap (rest n (drop (i + 1) xs)) (sym put)) before comes

    -- one is refused
    pub stops : (c : Reached (Option Data)) (r : Reason) (path : List Segment) → Eventually (λ n. value_of n x ≡ c) → c ≡ refused r path → Eventually (λ n. whole n ≡ refused r path)
    stops c r path comes is = both (λ n. whole n ≡ rest n (drop i xs) ms) (λ n. value_of n x ≡ c) (λ n. whole n ≡ refused r path)
        (λ n b a. at_item n b ∙ ap (λ o. object_of (after o (λ w. value (under (name x) w)) ∷ map (named n) (drop (i + 1) xs)) ms) (a ∙ is)) before comes

  -- none is left
  pub ended : (whole : ℕ → Reached Data) (xs : List X) (i : ℕ) (ms : Members) → drop i xs ≡ [] → Eventually (λ n. whole n ≡ rest n (drop i xs) ms) → Eventually (λ n. whole n ≡ value (json.object ms))
  ended whole xs i ms past before = onward (λ n. whole n ≡ rest n (drop i xs) ms) (λ n. whole n ≡ value (json.object ms))
      (λ n b. b ∙ ap (λ ys. rest n ys ms) past) before

-- results of which more is known
pub ok_onward : {V E : Type 0} (r : Result V E) (P Q : V → Type 0) → ((v : V) → P v → Q v) → IfOk r P → IfOk r Q
ok_onward (Ok v) P Q step is = step v is
ok_onward (Err e) P Q step is = is

pub err_onward : {V E : Type 0} (r : Result V E) (P Q : E → Type 0) → ((e : E) → P e → Q e) → IfErr r P → IfErr r Q
err_onward (Ok v) P Q step is = is
err_onward (Err e) P Q step is = step e is
