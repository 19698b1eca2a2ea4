-- Values that are not made lists of one.
use Rattle.std.proofs.Common.{◌≡◌, false, true≢false, Option, Some, None, refl, ap, sym}
use Rattle.gql_inputs.specs.InputTypes.{is_list}
use Rattle.gql_types.specs.Written.{Written, named, listed, required}
use Rattle.serde_json.specs.Data.{Data}
use Rattle.gql_coerce.specs.Coercion.{one_in, once, is_list_expected}
use Rattle.gql_coerce.specs.Outcomes.{Reached, value, refused, too_deep}

one_is : (t : Written) (d : Data) → is_list t ≡ false → one_in t d ≡ d
one_is (named n) d isnt = refl
one_is (listed t) d isnt = absurd (true≢false isnt)
one_is (required t) d isnt = one_is t d isnt

-- a value stays as it is, if no list is expected
pub once_is : (e : Option Written) (o : Reached (Option Data)) → is_list_expected e ≡ false → o ≡ once e o
once_is None o isnt = refl
once_is (Some t) (value (Some d)) isnt = ap (λ x. value (Some x)) (sym (one_is t d isnt))
once_is (Some t) (value None) isnt = refl
once_is (Some t) (refused r path) isnt = refl
once_is (Some t) too_deep isnt = refl
