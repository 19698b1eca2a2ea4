-- The numbers and texts of refusals.
use Rattle.std.specs.Prelude.{ℕ, List, codes}
use Rattle.gql_coerce.specs.declared.refusal.Reason.{Reason}
use Rattle.gql_coerce.specs.declared.refusal.Reason.TheVariants as reason

-- the number of a refusal
abbrev pub number : Reason → ℕ
number reason.NullForNonNull = 121
number reason.WrongKind = 122
number reason.OutOfRange = 123
number reason.NotInEnum = 124
number reason.UnknownField = 125
number reason.MissingField = 126

-- the text that a user sees
abbrev pub text : Reason → List ℕ
text reason.NullForNonNull = codes "null for a Non-Null type"
text reason.WrongKind = codes "wrong kind of value"
text reason.OutOfRange = codes "integer out of range"
text reason.NotInEnum = codes "not a value of the enum"
text reason.UnknownField = codes "unknown input field"
text reason.MissingField = codes "missing input field"
