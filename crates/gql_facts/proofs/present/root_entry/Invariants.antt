use Rattle.std.proofs.Common.{◌≡◌, find, drop}
use Rattle.gql_types.specs.Kinds.{same_operation}
use Rattle.gql_facts.proofs.present.root_entry.Given as goal

abbrev pub invariant-loop-root : goal.invariant-loop-root
invariant-loop-root l = find (λ r. same_operation l.kind r.kind) l.schema.roots ≡ find (λ r. same_operation l.kind r.kind) (drop l.root-index l.root-items)
