-- Helper definitions for private contracts: names that Rust code borrows, as specifications see
-- them.
use Rattle.gql_verdict.specs.Naming.{Named}
use Rattle.gql_verdict.specs.declared.naming.NamedDefinition.{NamedDefinition}

-- a borrowed definition and its name
abbrev pub named : NamedDefinition → Named
named n = record { definition = n.definition.now; name = n.name.now }
