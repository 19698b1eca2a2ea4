use Rattle.std.proofs.Common.{◌≡◌, ◌++◌}
use Rattle.gql_types.specs.Outlines.{all_others}
use Rattle.gql_types.specs.Sites.{others_in}
use Rattle.gql_types.proofs.outline.Outline.others.Given as goal

abbrev pub invariant-loop-name : goal.invariant-loop-name
invariant-loop-name l = l.found ++ all_others l._name-iterator ≡ others_in l.built_in ++ all_others l.self.files
