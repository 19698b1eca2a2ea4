-- The JSON of a check: a value of JSON, whose members are in this order.
use Rattle.std.specs.Prelude.{ℕ, List, [], ◌∷◌, Bool, true, false, map, codes, Option, Some, None}
use Rattle.serde_json.specs.Data.{Data, null, boolean, number, unsigned, string, array, object, Items, no_items, item, Members, no_members, member}
use Rattle.gql_ast.specs.Rules.{name_of}
use Rattle.gql_ast.specs.declared.executable.OperationKind.{OperationKind}
use Rattle.gql_ast.specs.declared.executable.OperationKind.TheVariants.{Query, Mutation, Subscription}
use Rattle.gql_findings.specs.Marks.{label_at}
use Rattle.gql_findings.specs.Sources.{TextFile}
use Rattle.gql_findings.specs.Words.{title_of}
use Rattle.gql_findings.specs.declared.finding.Affected.{Affected}
use Rattle.gql_findings.specs.declared.finding.Finding.{Finding}
use Rattle.gql_findings.specs.declared.finding.Findings.{Findings}
use Rattle.gql_findings.specs.declared.finding.Owner.{Owner}
use Rattle.gql_findings.specs.declared.finding.Owner.TheVariants.{Fragment, Operation, TypeSystem}
use Rattle.gql_findings.specs.declared.finding.OwnerAt.{OwnerAt}
use Rattle.gql_findings.specs.declared.finding.Spot.{Spot}
use Rattle.gql_findings.specs.declared.finding.SystemKind.{SystemKind}
use Rattle.gql_findings.specs.declared.finding.SystemKind.TheVariants as system
use Rattle.gql_render.specs.Picking.{picked}
use Rattle.gql_render.specs.declared.check.Against.{Against}
use Rattle.gql_render.specs.declared.check.Check.{Check}

-- these values as the items of an array
abbrev pub items_of : List Data → Items
items_of [] = no_items
items_of (d ∷ ds) = item d (items_of ds)

-- an array of these values
abbrev pub list_of : {A : Type 0} → (A → Data) → List A → Data
list_of json xs = array (items_of (map json xs))

-- the members of a place, and then others
abbrev pub place_members : List TextFile → Spot → Members → Members
place_members sources spot others =
    member (codes "path") (string (label_at sources spot))
    (member (codes "line") (number (unsigned spot.line))
    (member (codes "column") (number (unsigned spot.column)) others))

-- a place
abbrev pub place_json : List TextFile → Spot → Data
place_json sources spot = object (place_members sources spot no_members)

-- a name, or null
abbrev pub name_json : Option (List ℕ) → Data
name_json None = null
name_json (Some name) = string name

-- the word for a kind of operation
abbrev pub kind_word : OperationKind → List ℕ
kind_word Query = codes "query"
kind_word Mutation = codes "mutation"
kind_word Subscription = codes "subscription"

-- the words for a kind of definition of the type system
abbrev pub system_word : SystemKind → List ℕ
system_word system.Schema = codes "schema"
system_word system.Type = codes "type"
system_word system.Directive = codes "directive"
system_word system.SchemaExtension = codes "schema extension"
system_word system.TypeExtension = codes "type extension"

-- the members of something that has a kind and perhaps a name, and then others
abbrev pub named_members : List ℕ → Option (List ℕ) → Members → Members
named_members kind name others =
    member (codes "kind") (string kind) (member (codes "name") (name_json name) others)

-- the members of an operation, and then others
abbrev pub operation_members : OperationKind → Option (List ℕ) → Members → Members
operation_members kind name others = named_members (kind_word kind) name others

-- the members of a definition, and then others
abbrev pub owner_members : Owner → Members → Members
owner_members (Fragment name) others =
    member (codes "kind") (string (codes "fragment")) (member (codes "name") (string name) others)
owner_members (Operation kind name) others = operation_members kind name others
owner_members (TypeSystem kind name) others = named_members (system_word kind) name others

-- the definition that owns a fault, or null
abbrev pub owner_json : List TextFile → Option OwnerAt → Data
owner_json sources None = null
owner_json sources (Some o) =
    object (owner_members o.owner (place_members sources o.spot no_members))

-- a fault
abbrev pub fault_json : List TextFile → Finding → Data
fault_json sources f = object
    (member (codes "rule") (string (name_of f.rule))
    (member (codes "title") (string (title_of f.rule))
    (member (codes "about") (string f.about)
    (member (codes "places") (list_of (place_json sources) f.spots.items)
    (member (codes "owner") (owner_json sources f.owner) no_members)))))

-- an operation that is not served, and the fragment through which, or null
abbrev pub affected_json : List TextFile → Affected → Data
affected_json sources a = object
    (operation_members a.kind a.name
    (place_members sources a.spot
    (member (codes "through") (name_json a.through) no_members)))

-- the faults at these places of the list
abbrev pub faults_at : Findings → List ℕ → Data
faults_at f places = list_of (fault_json f.sources.items) (picked f.findings.items places)

-- the operations at these places of the list
abbrev pub operations_at : Findings → List ℕ → Data
operations_at f places = list_of (affected_json f.sources.items) (picked f.affected.items places)

-- the operations at these places of the list; null where the documents of now are hidden, since
-- then nothing is known of operations
abbrev pub known_operations : Bool → Findings → List ℕ → Data
known_operations true f places = null
known_operations false f places = operations_at f places

-- what a change does, as members; none without a base
abbrev pub change_members : Findings → Option Against → Members
change_members now None = no_members
change_members now (Some base) =
    member (codes "baseSchemaIsFaulty") (boolean base.findings.now.schema_is_faulty)
    (member (codes "hidden") (boolean base.comparison.now.hidden)
    (member (codes "brought") (faults_at now base.comparison.now.brought.items)
    (member (codes "mended") (faults_at base.findings.now base.comparison.now.mended.items)
    (member (codes "broken")
    (known_operations base.comparison.now.hidden now base.comparison.now.broken.items)
    (member (codes "healed")
    (known_operations base.comparison.now.hidden base.findings.now
    base.comparison.now.healed.items)
    no_members)))))

-- a check: all its faults, all operations that are not served, and what the change does
abbrev pub check_json : Check → Data
check_json check = let now = check.now.now in object
    (member (codes "schemaIsFaulty") (boolean now.schema_is_faulty)
    (member (codes "faults") (list_of (fault_json now.sources.items) now.findings.items)
    (member (codes "affected") (list_of (affected_json now.sources.items) now.affected.items)
    (change_members now check.base))))
