-- The order in which operations are kept: by their names, and then by the order of the files and in the
-- files. Those without a name are last.
use Rattle.std.specs.Prelude.{ℕ, List, Option, Some, None}
use Rattle.std.specs.Ordering.{nat_cmp, ordering_then}
use Rattle.std.specs.declared.cmp.Ordering.{Ordering}
use Rattle.std.specs.declared.cmp.Ordering.TheVariants.{Less, Equal, Greater}
use Rattle.gql_ast.specs.FileMaps.{name_order}
use Rattle.gql_registry.specs.declared.kept_operation.KeptOperation.{KeptOperation}

-- the order of two names, if there are names
abbrev pub title_order : Option (List ℕ) → Option (List ℕ) → Ordering
title_order (Some a) (Some b) = name_order a b
title_order (Some a) None = Less
title_order None (Some b) = Greater
title_order None None = Equal

-- the order of two operations in files: by the name of the file, then by the number in it
abbrev pub file_order : KeptOperation → KeptOperation → Ordering
file_order a b = ordering_then (name_order a.file b.file) (nat_cmp a.number b.number)

-- the order of two operations
abbrev pub operation_order : KeptOperation → KeptOperation → Ordering
operation_order a b = ordering_then (title_order a.name b.name) (file_order a b)
