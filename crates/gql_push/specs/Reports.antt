-- What a report says: the revision, and the owner of each fault (docs/API.md).
use Rattle.std.specs.Prelude.{ℕ, ◌==◌, List, [], ◌∷◌, codes, map, string_bytes, Option, Some, None, option_map, option_and_then, if◌then◌else◌}
use Rattle.serde_json.specs.Data.{Data, null, boolean, number, string, array, object, Items, no_items, item}
use Rattle.serde_json.specs.Find.{as_array, get}
use Rattle.gql_push.specs.Replies.{number_at, text_at}
use Rattle.gql_push.specs.declared.report.FaultOwner.{FaultOwner}
use Rattle.gql_push.specs.declared.report.FaultOwner.TheVariants as owner
use Rattle.gql_push.specs.declared.report.Report.{Report}

-- Who owns a fault: nobody, if it is one of the schema; or the definition that starts at a line and
-- a column of a file, as `documents/users`.
pub data Owner : Type 0 where
  schema : Owner
  definition : List ℕ → ℕ → ℕ → Owner

-- the owner that the code has
abbrev pub owner_of : FaultOwner → Owner
owner_of owner.Schema = schema
owner_of (owner.Definition file line column) = definition (string_bytes file) line column

-- the owners that the code has
abbrev pub owners_of : List FaultOwner → List Owner
owners_of = map owner_of

-- a report: its revision, and the owner of each fault, in their order
pub record Reported : Type 0 where
  pub revision : ℕ
  pub owners : List Owner

-- the report that the code has
abbrev pub report_of : Report → Reported
report_of r = record { revision = r.revision; owners = owners_of r.owners.items }

-- a definition: `{"file":F,"line":L,"column":C}`
abbrev pub definition_in : Data → Option Owner
definition_in d = option_and_then (λ file. option_and_then (λ line. option_map
    (λ column. definition file line column)
    (number_at (codes "column") d)) (number_at (codes "line") d)) (text_at (codes "file") d)

-- an owner: `null` for a fault of the schema, or a definition
abbrev pub owner_by : Data → Option Owner
owner_by null = Some schema
owner_by (boolean b) = definition_in (boolean b)
owner_by (number n) = definition_in (number n)
owner_by (string s) = definition_in (string s)
owner_by (array ds) = definition_in (array ds)
owner_by (object ms) = definition_in (object ms)

-- who owns a fault: its member `owner`
abbrev pub owner_in : Data → Option Owner
owner_in fault = option_and_then owner_by (get (codes "owner") fault)

-- who owns each of these faults, if each has an owner or is one of the schema
abbrev pub owners_in : List Data → Option (List Owner)
owners_in [] = Some []
owners_in (fault ∷ faults) = option_and_then
    (λ o. option_map (λ os. o ∷ os) (owners_in faults)) (owner_in fault)

-- the values of an array
abbrev pub values_of : Items → List Data
values_of no_items = []
values_of (item d ds) = d ∷ values_of ds

-- the array that the member `faults` is, if it is one
abbrev pub faults_in : Data → Option Items
faults_in d = option_and_then as_array (get (codes "faults") d)

-- the report of a revision and these faults, if each has an owner or is one of the schema
abbrev pub report_with : ℕ → List Data → Option Reported
report_with revision faults =
    option_map (λ owners. record { revision = revision; owners = owners }) (owners_in faults)

-- a report: `{"revision":N,"faults":[..]}`
abbrev pub report_in_value : Data → Option Reported
report_in_value d = option_and_then (λ revision. option_and_then
    (λ faults. report_with revision (values_of faults))
    (faults_in d)) (number_at (codes "revision") d)

-- what an answer reports; 200 is the status of a report
abbrev pub report_in : ℕ → Option Data → Option Reported
report_in status body = if status == 200 then option_and_then report_in_value body else None
