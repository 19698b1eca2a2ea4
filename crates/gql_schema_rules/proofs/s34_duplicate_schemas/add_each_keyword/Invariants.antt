use Rattle.std.proofs.Common.{◌≡◌, ◌++◌, map, flat_map, take, codes}
use Rattle.gql_ast.specs.declared.rule.Rule.TheVariants.{S34}
use Rattle.gql_faults.specs.Faults.{fault_at}
use Rattle.gql_faults.specs.Places.{spot}
use Rattle.gql_schema_rules.proofs.s34_duplicate_schemas.add_each_keyword.Given as goal

abbrev pub invariant-loop-word : goal.invariant-loop-word
invariant-loop-word l = l.faults.items ≡ l.initial.faults.items
    ++ flat_map (fault_at S34 (codes "schema")) (map spot (take l.word-index l.words))
