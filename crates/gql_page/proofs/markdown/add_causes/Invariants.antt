use Rattle.std.proofs.Common.{◌≡◌}
use Rattle.gql_page.specs.Markdown.{told}
use Rattle.gql_page.proofs.markdown.add_causes.Given as goal

abbrev pub invariant-loop-cause : goal.invariant-loop-cause
invariant-loop-cause l = told l.parts.items ≡ told l.initial.parts.items
