-- V24, Directives Are Unique per Location: a directive that is not repeatable is applied twice
-- (GraphQL 5.7.3).
-- Reported at the directive's `@`, each time, about the directive.
use Rattle.std.specs.Prelude.{List, [], ◌∷◌, Option, ◌&&◌, not, if◌then◌else◌}
use Rattle.gql_ast.specs.declared.fault.Fault.{Fault}
use Rattle.gql_ast.specs.declared.fault.FilePlace.{FilePlace}
use Rattle.gql_ast.specs.declared.literal.Directive.{Directive}
use Rattle.gql_ast.specs.declared.rule.Rule.TheVariants as rule
use Rattle.gql_facts.specs.declared.fact.DirectiveFact.{DirectiveFact}
use Rattle.gql_faults.specs.Faults.{where_known}
use Rattle.gql_rules.specs.Faults.{fault_at}
use Rattle.gql_rules.specs.Parts.{is_repeated, directive_name}

-- the fault of a directive among these, with this definition, if it is known
abbrev pub faults : FilePlace → List Directive → Directive → Option DirectiveFact → List Fault
faults owner all d definition = where_known definition (λ (known : DirectiveFact).
    if not known.is_repeatable && is_repeated directive_name all d.name.text
    then fault_at owner rule.V24 d.name.text d.place ∷ []
    else [])
