-- What a list that is made of another has at a place.
use Rattle.std.specs.Prelude.{◌≡◌, ℕ, List, map, Option, option_map, option_and_then, slice_get, Some, None}
use Rattle.std.proofs.Common.{ap, ◌∙◌}
use Rattle.std.proofs.lemmas.Option.{slice_get-map}

pub listed_some : {A B : Type 0} (f : A → Option B) (xs : List A) (i : ℕ) (x : A) → slice_get xs i ≡ Some x → option_and_then (λ (e : Option B). e) (slice_get (map f xs) i) ≡ f x
listed_some f xs i x e = ap (option_and_then (λ e. e)) (slice_get-map f xs i ∙ ap (option_map f) e)

pub listed_none : {A B : Type 0} (f : A → Option B) (xs : List A) (i : ℕ) → slice_get xs i ≡ None → option_and_then (λ (e : Option B). e) (slice_get (map f xs) i) ≡ None
listed_none f xs i e = ap (option_and_then (λ e. e)) (slice_get-map f xs i ∙ ap (option_map f) e)

pub ruleset listed = (listed_some, listed_none)
