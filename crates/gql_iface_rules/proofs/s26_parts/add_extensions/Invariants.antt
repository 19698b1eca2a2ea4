use Rattle.std.proofs.Common.{◌≡◌, ◌++◌, take}
use Rattle.gql_iface_rules.specs.S26DirectiveCycles.{on_extensions}
use Rattle.gql_iface_rules.proofs.s26_parts.add_extensions.Given as goal

abbrev pub invariant-loop-extension : goal.invariant-loop-extension
invariant-loop-extension l = l.names ≡ l.initial.names ++ on_extensions (take l.extension-index l.extensions)
