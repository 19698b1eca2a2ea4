-- The faults of a definition by the merging of fields, set by set: those from the fields of a set
-- itself, and those between two fragments that it spreads. What clashes between two fragments is
-- the same for each definition that spreads them.
use Rattle.std.specs.Prelude.{◌≡◌, true}
use Rattle.gql_ast.specs.declared.definition.Definition.{Definition}
use Rattle.gql_ast.specs.declared.fault.Fault.{Fault}
use Rattle.gql_ast.specs.declared.rule.Rule.TheVariants as rule
use Rattle.gql_clashes.specs.Clashes.{is_bad_call, is_bad_shape}
use Rattle.gql_clashes.specs.Parts.{IsClashBySets}
use Rattle.gql_clashes.specs.declared.sets.Mode.{Mode}
use Rattle.gql_facts.specs.Worlds.{Facts}
use Rattle.gql_rules.specs.LocalFaults.{owner_of}
use Rattle.gql_merge.specs.Conflicts.{fault_of_pair}
use Rattle.gql_merge.specs.FieldNodes.{FieldNode}
use Rattle.gql_merge.specs.MergedNodes.{is_before, nodes, sets_in}

-- two fields of one response name, in file order, that clash by one of the definition's sets: one
-- of them is a field of the set itself, or they clash between two fragments that the set spreads
abbrev pub IsConflictBySets : Facts → Definition → FieldNode → FieldNode → Mode → Type 0
IsConflictBySets facts d f g m = IsClashBySets (nodes facts) (sets_in facts d) f g m
    × (is_before f.its g.its ≡ true)

-- the faults of a definition, set by set
pub data IsFaultBySets (facts : Facts) (d : Definition) : Fault → Type 0 where
  calls_differ : {f g : FieldNode} {m : Mode} → IsConflictBySets facts d f g m
      → is_bad_call (nodes facts) m f g ≡ true
      → IsFaultBySets facts d (fault_of_pair (owner_of d) rule.V05 f.its g.its)
  shapes_differ : {f g : FieldNode} {m : Mode} → IsConflictBySets facts d f g m
      → is_bad_shape (nodes facts) f g ≡ true
      → IsFaultBySets facts d (fault_of_pair (owner_of d) rule.V06 f.its g.its)
