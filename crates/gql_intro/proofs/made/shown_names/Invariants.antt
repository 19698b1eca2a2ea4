use Rattle.std.proofs.Common.{◌≡◌, map, filter, take}
use Rattle.gql_types.specs.Possible.{name_of}
use Rattle.gql_intro.specs.Made.{is_shown}
use Rattle.gql_intro.proofs.made.shown_names.Given as goal

abbrev pub invariant-loop-of_type : goal.invariant-loop-of_type
invariant-loop-of_type l = map (λ n. n.now) l.names.items
    ≡ filter (is_shown l.has_int l.has_id l.has_float) (map name_of (take l.of_type-index l.types))
