-- Helper definitions for private contracts: the types that are checked, and when they are enough.
use Rattle.std.specs.Prelude.{ℕ, List, IsTrue, Contains}
use Rattle.std.specs.List.{All}
use Rattle.gql_ast.specs.declared.fault.Fault.{Fault}
use Rattle.gql_cycles.specs.Names.{Leads, Steps}
use Rattle.gql_types.specs.declared.schema.Schema.{Schema}
use Rattle.gql_types.specs.declared.schema_type.SchemaType.{SchemaType}
use Rattle.gql_iface_rules.specs.KnownNames.{AsksOfKnown}
use Rattle.gql_iface_rules.specs.Quiet.{IsFaultOn}
use Rattle.gql_iface_rules.specs.S17InputObjectCycles.{input_row, input_rows}
use Rattle.gql_iface_rules.specs.S19Plain.{TypeNeedsNone}
use Rattle.gql_iface_rules.specs.S26Leads.{LeadsNowhere, directive_leads}
use Rattle.gql_iface_rules.specs.declared.quiet.Checked.{Checked}

-- the rows of these types are rows of the schema
abbrev pub HasRowsOf : Schema → List SchemaType → Type 0
HasRowsOf s types = (t : SchemaType) (r : Steps) → Contains types t → Contains (input_row t.kind t) r
    → Contains (input_rows s) r

-- what these types have at fault is all that types of the schema have
pub record AreEnough (s : Schema) (c : Checked) : Type 0 where
  pub interfaces : (f : Fault) → IsFaultOn s s.types f → IsFaultOn s c.interfaces.now f
  pub only : (f : Fault) → IsFaultOn s c.interfaces.now f → IsFaultOn s s.types f
  pub names : IsTrue c.others_known → All (AsksOfKnown s) c.interfaces.now
      → All (AsksOfKnown s) s.types
  pub inputs : IsTrue c.skips_inputs → (n : List ℕ) → Leads (input_rows s) n n → ⊥
  pub defaults : All TypeNeedsNone c.defaults.now → All TypeNeedsNone s.types
  pub directives : All (LeadsNowhere (directive_leads s)) c.directives.now
      → All (LeadsNowhere (directive_leads s)) s.types
