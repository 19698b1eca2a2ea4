-- Root operation types, each with those that are earlier in the list.
use Rattle.std.specs.Prelude.{List, [], ◌∷◌, ◌++◌}
use Rattle.gql_ast.specs.declared.fault.Fault.{Fault}
use Rattle.gql_types.specs.declared.roots.Root.{Root}

-- the faults of each root, by a rule that sees the earlier roots too
abbrev pub with_earlier : (List Root → Root → List Fault) → List Root → List Root → List Fault
with_earlier faults earlier [] = []
with_earlier faults earlier (r ∷ rs) = faults earlier r
    ++ with_earlier faults (earlier ++ r ∷ []) rs
