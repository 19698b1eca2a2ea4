use Rattle.std.proofs.Common.{◌≡◌, ◌++◌, map, filter, take}
use Rattle.gql_intro.specs.Made.{is_shown}
use Rattle.gql_intro.proofs.edited_names.add_shown.Given as goal

abbrev pub invariant-loop-name : goal.invariant-loop-name
invariant-loop-name l = map (λ n. n.now) l.found.items
    ≡ map (λ n. n.now) l.initial.found.items ++ filter (is_shown l.has_int l.has_id l.has_float) (take l.name-index l.names)
