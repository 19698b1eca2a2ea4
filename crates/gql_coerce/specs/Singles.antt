-- Values without parts, as Rust code has them.
use Rattle.gql_coerce.specs.Inputs.{Single, whole, out_of_range, fraction, text, json_text, truth, name}
use Rattle.gql_coerce.specs.declared.single.Single.{Single as ASingle}
use Rattle.gql_coerce.specs.declared.single.Single.TheVariants as single

-- a value without parts
abbrev pub single_of : ASingle → Single
single_of (single.Whole z) = whole z
single_of (single.OutOfRange x) = out_of_range x
single_of (single.Fraction x) = fraction x
single_of (single.Text t) = text t.now
single_of (single.JsonText t) = json_text t.now
single_of (single.Truth b) = truth b
single_of (single.Name n) = name n.now
