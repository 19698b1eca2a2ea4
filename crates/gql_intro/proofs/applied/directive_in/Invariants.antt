use Rattle.std.proofs.Common.{◌≡◌, drop, flat_map}
use Rattle.gql_types.specs.Applied.{directive_of}
use Rattle.gql_intro.specs.Applied.{extension_directives}
use Rattle.gql_intro.proofs.applied.directive_in.Given as goal

abbrev pub invariant-loop-extension : goal.invariant-loop-extension
invariant-loop-extension l = directive_of l.name (flat_map extension_directives l.extensions)
    ≡ directive_of l.name (flat_map extension_directives (drop l.extension-index l.extensions))
