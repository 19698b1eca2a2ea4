use Rattle.std.proofs.Common.{leb, ltb, rules}
use Rattle.std.proofs.lemmas.List.Sorted.{IsPartitionPoint-from_clause, IsPartitionedBy-leb, IsPartitionedBy-ltb}
use Rattle.gql_clashes.specs.declared.groups.Class.{Class}
use Rattle.gql_clashes.proofs.ByName.{part_of_name, rest_sorted}
use Rattle.gql_clashes.proofs.visit.classes_of.Goals as goal

pub returns : goal.returns
returns c = part_of_name c.args.classes.now c.args.name _ _
    (IsPartitionPoint-from_clause (λ (d : Class). ltb d.name c.args.name) _ _ c.partition_point-first.ensures.partitioned (IsPartitionedBy-ltb (λ (d : Class). d.name) _ c.args.name c.requires) (λ a r q k. search rules))
    (IsPartitionPoint-from_clause (λ (d : Class). leb d.name c.args.name) _ _ c.partition_point-count.ensures.partitioned (IsPartitionedBy-leb (λ (d : Class). d.name) _ c.args.name (rest_sorted c.args.classes.now _ c.requires)) (λ a r q k. search rules))
