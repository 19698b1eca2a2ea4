use Rattle.std.proofs.Common.{◌≡◌, ◌++◌, map, filter, take}
use Rattle.gql_intro.specs.EditedNames.{is_kept}
use Rattle.gql_intro.proofs.edited_names.add_kept.Given as goal

abbrev pub invariant-loop-name : goal.invariant-loop-name
invariant-loop-name l = map (λ n. n.now) l.found.items
    ≡ map (λ n. n.now) l.initial.found.items ++ filter (is_kept l.gone) (take l.name-index l.names)
