-- What a call asks for, and what a fault states about a body.
use Rattle.std.specs.Prelude.{◌≡◌, ℕ, List, codes, Option, Some, option_and_then}
use Rattle.serde_json.specs.Data.{Data, object}
use Rattle.serde_json.specs.Find.{as_str, get}
use Rattle.serde_json.specs.View.{view}
use Rattle.gql_http.specs.RunBodies.{Asked, stored_only, bad_call, Asks}
use Rattle.gql_http.specs.declared.run_body.RunBody.{RunBody}
use Rattle.gql_http.specs.declared.run_body.RunBodyFault.{RunBodyFault}
use Rattle.gql_http.specs.declared.run_body.RunBodyFault.TheVariants.{BadCall, StoredOnly, Memory}

-- the name of the operation, if there is one
abbrev pub name_of : RunBody → Option (List ℕ)
name_of c = option_and_then as_str (get (codes "operationName") (view c.body))

-- a value that is an object, or else the members `other`
abbrev pub object_or : Data → Option Data → Data
object_or other (Some (object ms)) = object ms
object_or other _ = other

-- the values of the operation's variables
abbrev pub variables_of : RunBody → Data
variables_of c = object_or (view c.empty) (get (codes "variables") (view c.body))

-- the fault states what is asked for
abbrev pub IsFault : Asked → RunBodyFault → Type 0
IsFault a BadCall = a ≡ bad_call
IsFault a StoredOnly = a ≡ stored_only
IsFault a Memory = Unit {0}

-- the fault states why the body is not a call
abbrev pub IsRefused : List ℕ → RunBodyFault → Type 0
IsRefused body BadCall = Asks body bad_call
IsRefused body StoredOnly = Asks body stored_only
IsRefused body Memory = Unit {0}

-- the number of a refusal
abbrev pub number_of : RunBodyFault → ℕ
number_of BadCall = 310
number_of StoredOnly = 311
number_of Memory = 211
