-- Lists of which the same is said, place by place.
use Rattle.std.specs.Prelude.{◌≡◌, ◌<◌, ℕ, List, Some, length, map, option_map, slice_get}
use Rattle.std.proofs.Common.{ap, sym, ◌∙◌, get_or}
use Rattle.std.proofs.lemmas.Option.{same_Some, slice_get-get_or, slice_get-map}

module _ {A V : Type 0} (v : A → V) where
  said_at : (xs : List A) (i : ℕ) (x : A) → i < length xs → get_or xs i x ≡ x → slice_get (map v xs) i ≡ Some (v x)
  said_at xs i x within here = slice_get-map v xs i ∙ ap (option_map v) (slice_get-get_or xs i x within ∙ ap Some here)

  -- where the same is said of two lists, it is said of what stands at one place in both
  pub same_at : (xs ys : List A) (i : ℕ) (x y : A) → i < length xs → get_or xs i x ≡ x → i < length ys → get_or ys i y ≡ y
      → map v xs ≡ map v ys → v x ≡ v y
  same_at xs ys i x y within here inside there same =
      same_Some (v x) (v y) (sym (said_at xs i x within here) ∙ ap (λ l. slice_get l i) same ∙ said_at ys i y inside there)
