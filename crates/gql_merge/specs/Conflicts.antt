-- The pairs of fields that clash where the selections of a definition are merged (GraphQL 5.3.2).
use Rattle.std.specs.Prelude.{◌≡◌, ◌∷◌, [], Some, true}
use Rattle.gql_ast.specs.declared.definition.Definition.{Definition}
use Rattle.gql_ast.specs.declared.fault.Fault.{Fault}
use Rattle.gql_ast.specs.declared.fault.FilePlace.{FilePlace}
use Rattle.gql_ast.specs.declared.fault.FileSide.TheVariants.{Documents}
use Rattle.gql_ast.specs.declared.rule.Rule.{Rule}
use Rattle.gql_clashes.specs.Clashes.{IsClash, SeedsOf}
use Rattle.gql_clashes.specs.declared.sets.Mode.{Mode}
use Rattle.gql_facts.specs.Worlds.{Facts}
use Rattle.gql_merge.specs.FieldNodes.{FieldInfo, FieldNode}
use Rattle.gql_merge.specs.MergedNodes.{is_before, nodes, sets_in}

-- two fields of one response name, in file order, that clash where selections are merged
abbrev pub IsConflict : Facts → Definition → FieldNode → FieldNode → Mode → Type 0
IsConflict facts d f g m = IsClash (nodes facts) (SeedsOf (nodes facts) (sets_in facts d)) f g m
    × (is_before f.its g.its ≡ true)

-- where a field starts
abbrev pub place_of : FieldInfo → FilePlace
place_of i = record { side = Documents; file = i.file; place = i.start }

-- the fault of two fields
abbrev pub fault_of_pair : FilePlace → Rule → FieldInfo → FieldInfo → Fault
fault_of_pair owner rule i j = record {
  rule = rule;
  about = i.response_name;
  places = place_of i ∷ place_of j ∷ [];
  owner = Some owner;
}
