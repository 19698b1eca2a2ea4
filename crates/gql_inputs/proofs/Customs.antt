-- Whether a scalar is one of a schema file does not depend on whether Float is a type.
use Rattle.std.proofs.Common.{◌≡◌, ℕ, List, Bool, true, false, bytes_eq, codes, if◌then◌else◌, refl, ap, sym, ◌∙◌}
use Rattle.gql_text.specs.declared.place.Place.{Place}
use Rattle.gql_types.specs.Written.{Written}
use Rattle.gql_inputs.specs.BadValues.{Inside, at_one, at_scalar}
use Rattle.gql_inputs.specs.InputTypes.{custom_scalar, is_custom, name_in, scalar_named}
use Rattle.gql_inputs.specs.declared.scalar.Scalar.{Scalar}
use Rattle.gql_inputs.specs.declared.scalar.Scalar.TheVariants as scalar

pub custom_is : (floats : Bool) → is_custom (custom_scalar floats) ≡ true
custom_is true = refl
custom_is false = refl

module _ (floats : Bool) where
  -- a scalar that is built in stays, whatever is said of Float
  built_in : (b : Bool) (k l m : Scalar) → is_custom k ≡ false → l ≡ (if is_custom m then custom_scalar floats else m)
      → (if b then k else l) ≡ (if is_custom (if b then k else m) then custom_scalar floats else (if b then k else m))
  built_in true k l m is same = ap (λ c. if c then custom_scalar floats else k) (sym is)
  built_in false k l m is same = same

  -- one that is not is that of a schema file
  pub named_by_others : (n : List ℕ) → scalar_named floats n ≡ (if is_custom (scalar_named false n) then custom_scalar floats else scalar_named false n)
  named_by_others n = built_in (bytes_eq n (codes "Int")) scalar.Int _ _ refl
      (built_in (bytes_eq n (codes "String")) scalar.String _ _ refl
      (built_in (bytes_eq n (codes "Boolean")) scalar.Boolean _ _ refl
      (built_in (bytes_eq n (codes "ID")) scalar.Id _ _ refl
      (built_in (bytes_eq n (codes "Float")) scalar.Float (custom_scalar floats) scalar.Custom refl refl))))

  custom_by : (b : Bool) (k : Scalar) → is_custom k ≡ b → is_custom (if b then custom_scalar floats else k) ≡ b
  custom_by true k is = custom_is floats
  custom_by false k is = is

  pub same_custom : (n : List ℕ) → is_custom (scalar_named floats n) ≡ is_custom (scalar_named false n)
  same_custom n = ap is_custom (named_by_others n) ∙ custom_by (is_custom (scalar_named false n)) (scalar_named false n) refl

  -- what of a list or an object does not fit a scalar of this name
  module _ (p : Place) (t : Written) (inside : Inside) where
    at_by : (b : Bool) (k : Scalar) → is_custom k ≡ b
        → at_scalar p t inside (if b then custom_scalar floats else k) ≡ (if b then inside (custom_scalar floats) (name_in t) else at_one p t)
    at_by true k is = ap (λ b. if b then inside (custom_scalar floats) (name_in t) else at_one p t) (custom_is floats)
    at_by false k is = ap (λ b. if b then inside k (name_in t) else at_one p t) is

    pub at_named : (n : List ℕ) → at_scalar p t inside (scalar_named floats n) ≡ (if is_custom (scalar_named false n) then inside (custom_scalar floats) (name_in t) else at_one p t)
    at_named n = ap (at_scalar p t inside) (named_by_others n) ∙ at_by (is_custom (scalar_named false n)) (scalar_named false n) refl
