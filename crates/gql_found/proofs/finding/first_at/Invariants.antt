use Rattle.std.proofs.Common.{◌≡◌, Contains, map, take, true}
use Rattle.gql_ast.specs.declared.definition.Definition.{Definition}
use Rattle.gql_found.specs.Owners.{is_at}
use Rattle.gql_found.proofs.finding.first_at.Given as goal

abbrev pub invariant-loop-definition : goal.invariant-loop-definition
invariant-loop-definition l = (d : Definition) → Contains (map (λ e. e.now) (take l.definition-index l.definitions)) d → is_at l.place d ≡ true → ⊥
