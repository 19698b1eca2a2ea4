-- The errors that execution keeps of a field are those of the fields below it, and the first of its own.
use Rattle.std.proofs.Common.{◌≡◌, List, [], ◌∷◌, true, false, refl, ap}
use Rattle.gql_steps.specs.Replies.{Note, own, below, kept}
use Rattle.gql_cases.specs.Errors.{KeepsErrors, errors_of, of_fields_below}

keeps_those_below : (notes : List Note) → kept true notes ≡ of_fields_below notes
keeps_those_below [] = refl
keeps_those_below (own e ∷ notes) = keeps_those_below notes
keeps_those_below (below e ∷ notes) = ap (λ more. e ∷ more) (keeps_those_below notes)

pub keeps_errors : KeepsErrors
keeps_errors [] = refl
keeps_errors (own e ∷ notes) = ap (λ more. e ∷ more) (keeps_those_below notes)
keeps_errors (below e ∷ notes) = ap (λ more. e ∷ more) (keeps_errors notes)
