-- The values of the variables with which a literal is coerced.
use Rattle.std.specs.Prelude.{Option, Some, None, option_map}
use Rattle.serde_json.specs.Data as json
use Rattle.serde_json.specs.Data.{Data}
use Rattle.serde_json.specs.View.{view}
use Rattle.gql_coerce.specs.declared.requests.Scope.{Scope}

-- the object of the variables' values, or null if there is none: then no variable has a value
abbrev pub values_in : Option Data → Data
values_in None = json.null
values_in (Some d) = d

-- the values of the variables of a scope
abbrev pub variables_of : Scope → Data
variables_of s = values_in (option_map (λ v. view v.now) s.variables)
