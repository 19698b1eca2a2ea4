use Rattle.std.proofs.Common.{◌≡◌, map, take}
use Rattle.gql_ast.specs.Rules.{name_of}
use Rattle.gql_render.proofs.github.fault_annotations.Given as goal

abbrev pub invariant-loop-fault : goal.invariant-loop-fault
invariant-loop-fault l = map (λ a. a.title.now) l.annotations.items ≡ map (λ f. name_of f.now.rule) (take l.fault-index l.faults)
