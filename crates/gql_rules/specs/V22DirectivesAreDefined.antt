-- V22, Directives Are Defined: an applied directive is not defined (GraphQL 5.7.1).
-- Reported at the directive's `@`, about the directive.
use Rattle.std.specs.Prelude.{List, [], ◌∷◌, Option, Some, None}
use Rattle.gql_ast.specs.declared.fault.Fault.{Fault}
use Rattle.gql_ast.specs.declared.fault.FilePlace.{FilePlace}
use Rattle.gql_ast.specs.declared.literal.Directive.{Directive}
use Rattle.gql_ast.specs.declared.rule.Rule.TheVariants as rule
use Rattle.gql_facts.specs.declared.fact.DirectiveFact.{DirectiveFact}
use Rattle.gql_rules.specs.Faults.{fault_at}

-- the fault of a directive with this definition, if it is known
abbrev pub faults : FilePlace → Directive → Option DirectiveFact → List Fault
faults owner d None = fault_at owner rule.V22 d.name.text d.place ∷ []
faults owner d (Some known) = []
