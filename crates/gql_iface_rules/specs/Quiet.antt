-- Which rules of this crate find nothing in a schema, and what an edit can keep of that.
use Rattle.std.specs.Prelude.{◌≡◌, ◌++◌, ◌⊎◌, ℕ, List, IsTrue, false, is_some, filter, find, bytes_eq, flat_map, Contains}
use Rattle.std.specs.List.{All, list_any}
use Rattle.gql_ast.specs.declared.fault.Fault.{Fault}
use Rattle.gql_cycles.specs.Names.{Leads}
use Rattle.gql_types.specs.Possible.{name_of}
use Rattle.gql_types.specs.declared.schema.Schema.{Schema}
use Rattle.gql_types.specs.declared.schema_type.SchemaType.{SchemaType}
use Rattle.gql_iface_rules.specs.Implementing.{implementations_of}
use Rattle.gql_iface_rules.specs.InterfaceFaults.{IsInterfaceFault}
use Rattle.gql_iface_rules.specs.KnownNames.{AsksOfKnown}
use Rattle.gql_iface_rules.specs.Pairing.{IsFaultOfTypes}
use Rattle.gql_iface_rules.specs.S09BadInterfaceNames as s09
use Rattle.gql_iface_rules.specs.S10SelfImplementation as s10
use Rattle.gql_iface_rules.specs.S11UndeclaredInterfaces as s11
use Rattle.gql_iface_rules.specs.S12MissingFields as s12
use Rattle.gql_iface_rules.specs.S17InputObjectCycles.{input_rows}
use Rattle.gql_iface_rules.specs.S19Plain.{TypeNeedsNone}
use Rattle.gql_iface_rules.specs.S26DirectiveCycles.{without_sign}
use Rattle.gql_iface_rules.specs.S26Leads.{LeadsNowhere, directive_leads}
use Rattle.gql_iface_rules.specs.declared.quiet.Found.{Found}
use Rattle.gql_iface_rules.specs.declared.quiet.Quiet.{Quiet}

-- the faults of these types by S09 to S12
abbrev pub listed_on : Schema → List SchemaType → List Fault
listed_on s types = flat_map (s09.bad_interface_names s) types
    ++ (flat_map s10.faults_of_type types
    ++ (flat_map (s11.faults_of_type s) types
    ++ flat_map s12.missing_fields (flat_map (implementations_of s) types)))

-- a fault of one of these types by S09 to S15
abbrev pub IsFaultOn : Schema → List SchemaType → Fault → Type 0
IsFaultOn s types f = Contains (listed_on s types) f ⊎ IsFaultOfTypes s types f

-- no directive leads to a directive, and types to which they lead lead nowhere
pub record DirectivesEnd (s : Schema) : Type 0 where
  pub unsigned : list_any (λ n. is_some (without_sign n)) (directive_leads s) ≡ false
  pub nowhere : All (LeadsNowhere (directive_leads s)) s.types

-- what is said to find nothing in the schema finds nothing; if names are said to be known, the
-- rules on interfaces ask about no name without a type
pub record IsQuiet (s : Schema) (q : Quiet) : Type 0 where
  pub interfaces : IsTrue q.interfaces → (f : Fault) → IsFaultOn s s.types f → ⊥
  pub names : IsTrue q.names → All (AsksOfKnown s) s.types
  pub inputs : IsTrue q.inputs → (n : List ℕ) → Leads (input_rows s) n n → ⊥
  pub defaults : IsTrue q.defaults → All TypeNeedsNone s.types
  pub directives : IsTrue q.directives → DirectivesEnd s

-- all faults of the schema by the rules of this crate, and which of them find nothing
pub record IsFound (s : Schema) (k : Found) : Type 0 where
  pub sound : (f : Fault) → Contains k.faults.items f → IsInterfaceFault s f
  pub complete : (f : Fault) → IsInterfaceFault s f → Contains k.faults.items f
  pub quiet : IsQuiet s k.quiet

-- the types of a schema that have one of these names
abbrev pub types_named : List (List ℕ) → Schema → List SchemaType
types_named names s = filter (λ (t : SchemaType). is_some (find (bytes_eq (name_of t)) names)) s.types
