-- Names of types that are written the same.
use Rattle.std.proofs.Common.{◌≡◌, ℕ, List, bytes_eq, ap}
use Rattle.std.specs.Bool.{Decides}
use Rattle.std.proofs.lemmas.Slice.Eq.{bytes_eq-Decides}
use Rattle.gql_types.specs.Written.{named}

pub named_same : (n m : List ℕ) → Decides (bytes_eq n m) (named n ≡ named m)
named_same n m = (λ h. ap named ((bytes_eq-Decides n m).0 h), λ e. (bytes_eq-Decides n m).1 (cc))
