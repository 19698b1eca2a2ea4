-- Worked examples of the definitions.
use Rattle.std.specs.Prelude.{◌≡◌, ◌∷◌, [], false, pos, negsuc, codes, refl, Float, Option, Some, None}
use Rattle.std.specs.Float.{float_is_finite}
use Rattle.std.specs.Float.Ieee.{fin}
use Rattle.gql_types.specs.Written.{Written, named, listed, required}
use Rattle.serde_json.specs.Data as json
use Rattle.serde_json.specs.Data.{Data, Num}
use Rattle.gql_coerce.specs.Coercion.{one_in, item_at, array_of, null_at, object_at, unknown}
use Rattle.gql_coerce.specs.Inputs.{Input, whole, out_of_range, fraction, single, null}
use Rattle.gql_coerce.specs.Outcomes.{Reached, value, refused, some}
use Rattle.gql_coerce.specs.Paths.{path_text}
use Rattle.gql_coerce.specs.Scalars.{as_int, as_custom, as_float, as_open}
use Rattle.gql_coerce.specs.declared.refusal.Reason.TheVariants as reason
use Rattle.gql_coerce.specs.declared.refusal.Segment.TheVariants as segment

greatest_int : as_int (whole (pos 2147483647)) ≡ value (json.number (json.unsigned 2147483647))
greatest_int = refl

one_past_it : as_int (whole (pos 2147483648)) ≡ refused reason.OutOfRange []
one_past_it = refl

least_int : as_int (whole (negsuc 2147483647))
    ≡ value (json.number (json.negative (negsuc 2147483647)))
least_int = refl

no_fraction : (x : Option Float) → as_custom (fraction x) ≡ refused reason.WrongKind []
no_fraction x = refl

-- 0.5 is a Float, and so is each integer of 64 bits, as it is
a_half : as_float (fraction (Some (fin false 1 (negsuc 0))))
    ≡ value (json.number (json.float (fin false 1 (negsuc 0))))
unfolding float_is_finite
a_half = refl

a_whole_float : as_float (whole (pos 9007199254740993))
    ≡ value (json.number (json.unsigned 9007199254740993))
a_whole_float = refl

-- a number without a finite nearest double is refused by each scalar that takes numbers
no_infinity : as_open (fraction None) ≡ refused reason.OutOfRange []
no_infinity = refl

past_doubles : as_float (out_of_range None) ≡ refused reason.OutOfRange []
past_doubles = refl

-- `1` at `[[Int!]!]`
one_of_one : (n : Num)
    → one_in (listed (required (listed (required (named (codes "Int")))))) (json.number n)
    ≡ json.array (json.item (json.array (json.item (json.number n) json.no_items)) json.no_items)
one_of_one n = refl

-- `[1, null]` at `[Int!]`, where the items come to this
items : (inner : Input → Option Written → Reached (Option Data))
    → inner (single (whole (pos 1))) (Some (required (named (codes "Int"))))
    ≡ value (Some json.null)
    → inner null (Some (required (named (codes "Int"))))
    ≡ some (null_at (Some (required (named (codes "Int")))))
    → array_of (item_at inner (Some (required (named (codes "Int")))))
    (single (whole (pos 1)) ∷ null ∷ [])
    ≡ refused reason.NullForNonNull (segment.Index 1 ∷ [])
items inner one none = rw (one, none) refl

-- an item that is not a list, where a list is expected
no_list : (inner : Input → Option Written → Reached (Option Data))
    → array_of (item_at inner (Some (listed (named (codes "Int"))))) (single (whole (pos 1)) ∷ [])
    ≡ refused reason.WrongKind (segment.Index 0 ∷ [])
no_list inner = refl

-- a field that is not known
not_known : (inner : Input → Option Written → Reached (Option Data))
    → object_at inner (unknown (codes "z"))
    ≡ refused reason.UnknownField (segment.Key (codes "z") ∷ [])
not_known inner = refl

a_path : path_text (segment.Key (codes "point") ∷ segment.Key (codes "x") ∷ []) ≡ codes "point.x"
a_path = refl
