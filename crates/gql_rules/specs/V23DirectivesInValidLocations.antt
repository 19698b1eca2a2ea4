-- V23, Directives Are in Valid Locations: a directive does not list the location (GraphQL 5.7.2).
-- Reported at the directive's `@`, about the directive.
use Rattle.std.specs.Prelude.{List, [], ◌∷◌, Option, if◌then◌else◌}
use Rattle.std.specs.List.{list_any}
use Rattle.gql_ast.specs.declared.fault.Fault.{Fault}
use Rattle.gql_ast.specs.declared.fault.FilePlace.{FilePlace}
use Rattle.gql_ast.specs.declared.literal.Directive.{Directive}
use Rattle.gql_ast.specs.declared.rule.Rule.TheVariants as rule
use Rattle.gql_ast.specs.declared.type_system.DirectiveLocation.{DirectiveLocation}
use Rattle.gql_facts.specs.declared.fact.DirectiveFact.{DirectiveFact}
use Rattle.gql_faults.specs.Faults.{where_known}
use Rattle.gql_rules.specs.Faults.{fault_at}
use Rattle.gql_rules.specs.Locations.{same_location}

-- the fault of a directive at this location with this definition, if it is known
abbrev pub faults : FilePlace → DirectiveLocation → Directive → Option DirectiveFact → List Fault
faults owner location d definition = where_known definition (λ (known : DirectiveFact).
    if list_any (same_location location) known.locations then []
    else fault_at owner rule.V23 d.name.text d.place ∷ [])
