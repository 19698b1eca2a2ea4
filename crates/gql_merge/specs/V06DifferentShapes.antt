-- V06, Field Selection Merging: two fields of one response name differ in shape (GraphQL 5.3.2).
-- Reported at the starts of the two fields, about the response name.
use Rattle.std.specs.Prelude.{◌≡◌, true}
use Rattle.gql_ast.specs.declared.definition.Definition.{Definition}
use Rattle.gql_ast.specs.declared.fault.Fault.{Fault}
use Rattle.gql_ast.specs.declared.rule.Rule.TheVariants as rule
use Rattle.gql_clashes.specs.Clashes.{is_bad_shape}
use Rattle.gql_clashes.specs.declared.sets.Mode.{Mode}
use Rattle.gql_facts.specs.Worlds.{Facts}
use Rattle.gql_rules.specs.LocalFaults.{owner_of}
use Rattle.gql_merge.specs.FieldNodes.{FieldNode}
use Rattle.gql_merge.specs.Conflicts.{IsConflict, fault_of_pair}
use Rattle.gql_merge.specs.MergedNodes.{nodes}

-- the faults of a definition
pub data IsFault (facts : Facts) (d : Definition) : Fault → Type 0 where
  differ : {f g : FieldNode} {m : Mode} → IsConflict facts d f g m
      → is_bad_shape (nodes facts) f g ≡ true
      → IsFault facts d (fault_of_pair (owner_of d) rule.V06 f.its g.its)
