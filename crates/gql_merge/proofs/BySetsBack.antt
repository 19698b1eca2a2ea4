-- The faults of a definition are those of its sets, both ways.
use Rattle.gql_ast.specs.declared.definition.Definition.{Definition}
use Rattle.gql_ast.specs.declared.fault.Fault.{Fault}
use Rattle.gql_clashes.proofs.Splitting.{of_sets, to_sets}
use Rattle.gql_facts.specs.Worlds.{Facts}
use Rattle.gql_merge.specs.BySets.{IsFaultBySets, calls_differ, shapes_differ}
use Rattle.gql_merge.specs.MergeFaults.{IsMergeFault, by_v05, by_v06}
use Rattle.gql_merge.specs.MergedNodes.{nodes, sets_in}
use Rattle.gql_merge.specs.V05DifferentCalls as v05
use Rattle.gql_merge.specs.V06DifferentShapes as v06

pub there : (F : Facts) (d : Definition) (x : Fault) → IsMergeFault F d x → IsFaultBySets F d x
there F d x (by_v05 (v05.differ {f = f} {g = g} {m = m} c bad)) = calls_differ {f = f} {g = g} {m = m} (to_sets (nodes F) (sets_in F d) f g m c.0, c.1) bad
there F d x (by_v06 (v06.differ {f = f} {g = g} {m = m} c bad)) = shapes_differ {f = f} {g = g} {m = m} (to_sets (nodes F) (sets_in F d) f g m c.0, c.1) bad

pub back : (F : Facts) (d : Definition) (x : Fault) → IsFaultBySets F d x → IsMergeFault F d x
back F d x (calls_differ {f = f} {g = g} {m = m} c bad) = by_v05 (v05.differ {f = f} {g = g} {m = m} (of_sets (nodes F) (sets_in F d) f g m c.0, c.1) bad)
back F d x (shapes_differ {f = f} {g = g} {m = m} c bad) = by_v06 (v06.differ {f = f} {g = g} {m = m} (of_sets (nodes F) (sets_in F d) f g m c.0, c.1) bad)
