-- Helper definitions for private contracts: one step of the walk over selections, by the fields and
-- fragments that Rust code has met.
use Rattle.std.specs.Prelude.{ℕ, List}
use Rattle.gql_collect.specs.Borrowed.{names_of, nodes_of}
use Rattle.gql_collect.specs.Nodes.{FileSelection}
use Rattle.gql_collect.specs.Unfolding.{Given}
use Rattle.gql_collect.specs.Walks.{Visits}
use Rattle.gql_collect.specs.declared.visit.Met.{Met}

-- the walk has visited the selection x, and is to visit these next
abbrev pub VisitsIn : Given → List ℕ → FileSelection → Met → Met → List FileSelection → Type 0
VisitsIn g t x old new next = Visits g t x (names_of old.fragments.keys) (nodes_of old.fields.keys)
    (names_of new.fragments.keys) (nodes_of new.fields.keys) next
