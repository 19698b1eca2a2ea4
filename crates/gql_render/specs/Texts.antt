-- Helper definitions for private contracts: the parts of the text of a check.
use Rattle.std.specs.Prelude.{ℕ, List, [], ◌∷◌, ◌++◌, Bool, true, false, codes, decimal, Option, Some, None}
use Rattle.std.specs.List.{flat_map}
use Rattle.json.specs.Print.{quoted}
use Rattle.gql_ast.specs.Rules.{name_of}
use Rattle.gql_findings.specs.Marks.{label_at}
use Rattle.gql_findings.specs.Sources.{TextFile}
use Rattle.gql_findings.specs.Words.{title_of}
use Rattle.gql_findings.specs.declared.finding.Affected.{Affected}
use Rattle.gql_findings.specs.declared.finding.Finding.{Finding}
use Rattle.gql_findings.specs.declared.finding.Findings.{Findings}
use Rattle.gql_findings.specs.declared.finding.Owner.{Owner}
use Rattle.gql_findings.specs.declared.finding.Owner.TheVariants.{Fragment, Operation, TypeSystem}
use Rattle.gql_findings.specs.declared.finding.OwnerAt.{OwnerAt}
use Rattle.gql_findings.specs.declared.finding.Spot.{Spot}
use Rattle.gql_render.specs.Json.{kind_word, system_word}
use Rattle.gql_render.specs.Picking.{picked}
use Rattle.gql_render.specs.declared.check.Against.{Against}

-- texts with commas between them
abbrev pub comma_list : {A : Type 0} → (A → List ℕ) → List A → List ℕ
comma_list text [] = []
comma_list text (x ∷ xs) = text x ++ flat_map (λ y. codes "," ++ text y) xs

-- the members of a place
unfoldable pub place_text : List TextFile → Spot → List ℕ
place_text sources spot = codes "\"path\":" ++ quoted (label_at sources spot) ++ codes ",\"line\":"
    ++ decimal spot.line ++ codes ",\"column\":" ++ decimal spot.column

-- a place
unfoldable pub whole_place_text : List TextFile → Spot → List ℕ
whole_place_text sources spot = codes "{" ++ place_text sources spot ++ codes "}"

-- places
unfoldable pub places_text : List TextFile → List Spot → List ℕ
places_text sources = comma_list (whole_place_text sources)

-- a name, or null
unfoldable pub name_text : Option (List ℕ) → List ℕ
name_text None = codes "null"
name_text (Some name) = quoted name

-- the members of something that has a kind and perhaps a name
unfoldable pub named_text : List ℕ → Option (List ℕ) → List ℕ
named_text kind name = codes "\"kind\":" ++ quoted kind ++ codes ",\"name\":" ++ name_text name

-- the members of a fragment
unfoldable pub fragment_text : List ℕ → List ℕ
fragment_text name = codes "\"kind\":\"fragment\",\"name\":" ++ quoted name

-- the members of a definition
unfoldable pub definition_text : Owner → List ℕ
definition_text (Fragment name) = fragment_text name
definition_text (Operation kind name) = named_text (kind_word kind) name
definition_text (TypeSystem kind name) = named_text (system_word kind) name

-- the owner of a fault, or null
unfoldable pub owner_text : List TextFile → Option OwnerAt → List ℕ
owner_text sources None = codes "null"
owner_text sources (Some o) = codes "{" ++ definition_text o.owner ++ codes ","
    ++ place_text sources o.spot ++ codes "}"

-- the first members of a fault
unfoldable pub what_text : Finding → List ℕ
what_text f = codes "{\"rule\":" ++ quoted (name_of f.rule) ++ codes ",\"title\":"
    ++ quoted (title_of f.rule) ++ codes ",\"about\":" ++ quoted f.about

-- the other members of a fault
unfoldable pub where_text : List TextFile → Finding → List ℕ
where_text sources f = codes ",\"places\":[" ++ places_text sources f.spots.items
    ++ codes "],\"owner\":" ++ owner_text sources f.owner ++ codes "}"

-- a fault
unfoldable pub fault_text : List TextFile → Finding → List ℕ
fault_text sources f = what_text f ++ where_text sources f

-- faults
unfoldable pub faults_text : List TextFile → List Finding → List ℕ
faults_text sources = comma_list (fault_text sources)

-- the first members of an operation that is not served
unfoldable pub affected_start : List TextFile → Affected → List ℕ
affected_start sources a = codes "{" ++ named_text (kind_word a.kind) a.name ++ codes ","
    ++ place_text sources a.spot

-- an operation that is not served
unfoldable pub affected_text : List TextFile → Affected → List ℕ
affected_text sources a =
    affected_start sources a ++ codes ",\"through\":" ++ name_text a.through ++ codes "}"

-- operations that are not served
unfoldable pub operations_text : List TextFile → List Affected → List ℕ
operations_text sources = comma_list (affected_text sources)

-- a list of faults
unfoldable pub fault_list_text : Findings → List ℕ → List ℕ
fault_list_text f places =
    codes "[" ++ faults_text f.sources.items (picked f.findings.items places) ++ codes "]"

-- a list of operations that are not served
unfoldable pub operation_list_text : Findings → List ℕ → List ℕ
operation_list_text f places =
    codes "[" ++ operations_text f.sources.items (picked f.affected.items places) ++ codes "]"

-- a truth value
abbrev pub truth_text : Bool → List ℕ
truth_text true = codes "true"
truth_text false = codes "false"

-- whether the schema of the base has faults, and whether the documents of now are hidden
unfoldable pub base_text : Against → List ℕ
base_text base = codes ",\"baseSchemaIsFaulty\":" ++ truth_text base.findings.now.schema_is_faulty
    ++ codes ",\"hidden\":" ++ truth_text base.comparison.now.hidden

-- a list of operations, or null where the documents of now are hidden
unfoldable pub known_list_text : Bool → Findings → List ℕ → List ℕ
known_list_text true f places = codes "null"
known_list_text false f places = operation_list_text f places

-- what a change does to faults
unfoldable pub fault_changes_text : Findings → Against → List ℕ
fault_changes_text now base =
    codes ",\"brought\":" ++ fault_list_text now base.comparison.now.brought.items
    ++ codes ",\"mended\":" ++ fault_list_text base.findings.now base.comparison.now.mended.items

-- what a change does to operations
unfoldable pub operation_changes_text : Findings → Against → List ℕ
operation_changes_text now base =
    codes ",\"broken\":"
    ++ known_list_text base.comparison.now.hidden now base.comparison.now.broken.items
    ++ codes ",\"healed\":"
    ++ known_list_text base.comparison.now.hidden base.findings.now
    base.comparison.now.healed.items

-- what a change does; nothing without a base
unfoldable pub changes_text : Findings → Option Against → List ℕ
changes_text now None = []
changes_text now (Some base) =
    base_text base ++ fault_changes_text now base ++ operation_changes_text now base

-- the first member of a check
unfoldable pub head_text : Findings → List ℕ
head_text now = codes "{\"schemaIsFaulty\":" ++ truth_text now.schema_is_faulty

-- all faults, as a list
unfoldable pub all_faults_text : Findings → List ℕ
all_faults_text now = codes "[" ++ faults_text now.sources.items now.findings.items ++ codes "]"

-- all operations that are not served, as a list
unfoldable pub all_operations_text : Findings → List ℕ
all_operations_text now =
    codes "[" ++ operations_text now.sources.items now.affected.items ++ codes "]"

-- all faults, and all operations that are not served
unfoldable pub state_text : Findings → List ℕ
state_text now = codes ",\"faults\":" ++ all_faults_text now ++ codes ",\"affected\":"
    ++ all_operations_text now
