-- What the body of a call of an operation asks for: a JSON object with the name of a stored
-- operation and the values of its variables. This is this registry's own rule.
use Rattle.std.specs.Prelude.{◌≡◌, ℕ, List, codes, Option, Some, None, IsUtf8, if◌then◌else◌, is_some}
use Rattle.serde_json.specs.Data.{Data, null, string, object, no_members}
use Rattle.serde_json.specs.Find.{get}
use Rattle.serde_json.specs.Read.{read}

-- What a body asks for: a call of the operation of a name, or of the only one, with the values of
-- its variables; or why it asks for none.
pub data Asked : Type 0 where
  call : Option (List ℕ) → Data → Asked
  -- an operation is given as a text, which is not served
  stored_only : Asked
  bad_call : Asked

-- the name of an operation: a string; no name, for null or if the member is missing
abbrev pub name_in : Option Data → Option (Option (List ℕ))
name_in None = Some None
name_in (Some null) = Some None
name_in (Some (string name)) = Some (Some name)
name_in (Some _) = None

-- the values of variables: an object, which is empty for null or if the member is missing
abbrev pub variables_in : Option Data → Option Data
variables_in None = Some (object no_members)
variables_in (Some null) = Some (object no_members)
variables_in (Some (object ms)) = Some (object ms)
variables_in (Some _) = None

-- a call with this name and these variables, if both are given rightly
abbrev pub called : Option (Option (List ℕ)) → Option Data → Asked
called (Some name) (Some variables) = call name variables
called (Some name) None = bad_call
called None variables = bad_call

-- what a value of JSON asks for; its other members do not count
abbrev pub asked_by : Data → Asked
asked_by (object ms) = if is_some (get (codes "query") (object ms)) then stored_only
    else called (name_in (get (codes "operationName") (object ms)))
    (variables_in (get (codes "variables") (object ms)))
asked_by _ = bad_call

-- what a body asks for
pub data Asks (body : List ℕ) : Asked → Type 0 where
  reads : {d : Data} → IsUtf8 body → read body ≡ Some d → Asks body (asked_by d)
  not_json : IsUtf8 body → read body ≡ None → Asks body bad_call
  not_text : (IsUtf8 body → ⊥) → Asks body bad_call
