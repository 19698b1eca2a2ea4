-- The errors of a field (GraphQL specification, 6.4.4): those of the fields below it, and the first of
-- its own. The law `errors` says that these are exactly those that execution keeps.
use Rattle.std.specs.Prelude.{◌≡◌, List, [], ◌∷◌, false}
use Rattle.gql_steps.specs.Replies.{Error, Note, own, below, kept}

-- the errors of the fields below
abbrev pub of_fields_below : List Note → List Error
of_fields_below [] = []
of_fields_below (own e ∷ notes) = of_fields_below notes
of_fields_below (below e ∷ notes) = e ∷ of_fields_below notes

-- the errors of a field: after one of its own, those of the fields below alone
abbrev pub errors_of : List Note → List Error
errors_of [] = []
errors_of (own e ∷ notes) = e ∷ of_fields_below notes
errors_of (below e ∷ notes) = e ∷ errors_of notes

-- the errors that execution keeps of a field are these
abbrev pub KeepsErrors : Type 0
KeepsErrors = (notes : List Note) → kept false notes ≡ errors_of notes
