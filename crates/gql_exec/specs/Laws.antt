-- The laws of execution. `src/laws.rt` has a function for each.
use Rattle.std.specs.Prelude.{◌≡◌, Some}
use Rattle.gql_coerce.specs.Defaults.{HasNoCycle}
use Rattle.gql_collect.specs.Spreads.{NoCycles}
use Rattle.gql_steps.specs.Requests.{Executes, Request, Response}
use Rattle.gql_types.specs.Schemas.{kind_named, root_of}
use Rattle.gql_types.specs.declared.kind.TypeKind.TheVariants as kind
use Rattle.gql_types.specs.declared.roots.Root.{Root}
use Rattle.serde_json.specs.Data.{Data}

-- a request has at most one response
abbrev pub OneResponse : Type 0
OneResponse = (r : Request) (p q : Response) → Executes r p → Executes r q → p ≡ q

-- A request has a response if the root type of its operation is an object type, no default value
-- leads back to itself, and no fragment that the operation leads to leads back to itself.
abbrev pub SomeResponse : Type 0
SomeResponse = (r : Request) (root : Root) → HasNoCycle r.schema
    → root_of r.schema r.operation.kind ≡ Some root
    → kind_named r.schema root.name.node.text ≡ Some kind.Object
    → ((values : Data) → NoCycles
    (record { schema = r.schema; fragments = r.fragments; values = values }) r.operation.selections)
    → (p : Response) × Executes r p
