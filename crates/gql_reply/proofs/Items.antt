-- One more item of an array.
use Rattle.std.proofs.Common.{◌≡◌, ◌+◌, ◌<◌, ℕ, suc, List, ◌∷◌, ◌++◌, Bool, true, length, get_or, drop, map, sym, ap, ◌∙◌, append_assoc, add-one, drop-cons}
use Rattle.serde_json.specs.Data.{Data}
use Rattle.serde_json.specs.View.{items_of}
use Rattle.serde_json.specs.Written.{comma_if, compact_text, items_text}

module _ {A B : Type 0} (f : B → Data) (g : A → B) where
  rest : (xs : List A) (i : ℕ) (x : A) → i < length xs → get_or xs i x ≡ x → drop i xs ≡ x ∷ drop (i + 1) xs
  rest xs i x within is = rw add-one (drop-cons xs i x within ∙ ap (λ y. y ∷ drop (suc i) xs) is)

  pub item_step : (xs : List A) (i : ℕ) (x : A) (later : Bool) (old middle new whole : List ℕ)
      → i < length xs → get_or xs i x ≡ x
      → old ++ items_text later (items_of (map f (map g (drop i xs)))) ≡ whole
      → middle ≡ old ++ comma_if later → new ≡ middle ++ compact_text (f (g x))
      → new ++ items_text true (items_of (map f (map g (drop (i + 1) xs)))) ≡ whole
  item_step xs i x later old middle new whole within is before comma value =
      ap (λ l. l ++ tail) (value ∙ ap (λ l. l ++ compact_text (f (g x))) comma)
      ∙ append_assoc (old ++ comma_if later) (compact_text (f (g x))) tail
      ∙ append_assoc old (comma_if later) (compact_text (f (g x)) ++ tail)
      ∙ ap (λ l. old ++ items_text later (items_of (map f (map g l)))) (sym (rest xs i x within is))
      ∙ before where
        tail : List ℕ
        tail = items_text true (items_of (map f (map g (drop (i + 1) xs))))
