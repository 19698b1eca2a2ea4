-- The items of lists.
use Rattle.std.proofs.Common.{◌≡◌, ℕ, zero, suc, ◌<◌, List, [], ◌∷◌, map, length, get_or, Bor, refl, ap, arith}
use Rattle.serde_json.specs.Data.{Data}
use Rattle.serde_json.specs.View.{view}
use Rattle.serde_json.specs.declared.value.Value.{Value}
use Rattle.gql_steps.specs.ValueParts.{items_from}

pub none_kept : (ds : List Data) (vs : List (Bor Value)) → length vs ≡ 0 → items_from ds vs ≡ ds
none_kept ds [] e = refl
none_kept ds (v ∷ vs) e = absurd (omega (arith, e))

pub some_kept : (ds : List Data) (vs : List (Bor Value)) → 0 < length vs → items_from ds vs ≡ map (λ (x : Bor Value). view x.now) vs
some_kept ds [] h = absurd (omega (arith, h))
some_kept ds (v ∷ vs) h = refl

pub at_map : {A B : Type 0} (f : A → B) (xs : List A) (i : ℕ) (x : A) → i < length xs → x ≡ get_or xs i x → f x ≡ get_or (map f xs) i (f x)
at_map f [] i x h e = absurd (omega (arith, h))
at_map f (y ∷ xs) zero x h e = ap f e
at_map f (y ∷ xs) (suc i) x h e = at_map f xs i x (omega (arith, h)) e

pub kept_items : (vs : List (Bor Value)) → items_from [] vs ≡ map (λ (x : Bor Value). view x.now) vs
kept_items [] = refl
kept_items (v ∷ vs) = refl
