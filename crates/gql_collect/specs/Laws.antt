-- The laws of collection. `src/laws.rt` has a function for each.
use Rattle.std.specs.Prelude.{◌≡◌, ℕ, suc, List, map}
use Rattle.gql_collect.specs.Collection.{Collects}
use Rattle.gql_collect.specs.Groups.{Group}
use Rattle.gql_ast.specs.declared.executable.Selection.{Selection}
use Rattle.gql_collect.specs.Nesting.{AllNest, NestedGroups, selections_of}
use Rattle.gql_collect.specs.Nodes.{FileSelection}
use Rattle.gql_collect.specs.Spreads.{NoCycles}
use Rattle.gql_collect.specs.Unfolding.{Given}

-- selections have at most one list of groups
abbrev pub OneCollection : Type 0
OneCollection = (g : Given) → (t : List ℕ) → (xs : List FileSelection) → (some other : List Group)
    → Collects g t xs some → Collects g t xs other → some ≡ other

-- selections have groups if no fragment that they lead to leads back to itself
abbrev pub SomeCollection : Type 0
SomeCollection = (g : Given) → (t : List ℕ) → (xs : List FileSelection)
    → NoCycles g (map (λ (x : FileSelection). x.selection) xs)
    → (groups : List Group) × Collects g t xs groups

-- selections nest at some depth if no fragment that they lead to leads back to itself
abbrev pub SomeDepth : Type 0
SomeDepth = (g : Given) → (xs : List Selection) → NoCycles g xs → (k : ℕ) × AllNest g k xs

-- selections that nest at some depth have groups, and what each group selects nests less deep
abbrev pub SomeGroups : Type 0
SomeGroups = (g : Given) → (t : List ℕ) → (k : ℕ) → (xs : List FileSelection)
    → AllNest g (suc k) (selections_of xs) → NestedGroups g t k xs
