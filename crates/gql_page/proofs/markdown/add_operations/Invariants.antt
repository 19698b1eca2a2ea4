use Rattle.std.proofs.Common.{◌≡◌, ◌++◌, map, take}
use Rattle.gql_page.specs.Markdown.{told}
use Rattle.gql_page.specs.declared.cut.Entry.TheVariants.{Operation}
use Rattle.gql_page.proofs.markdown.add_operations.Given as goal

abbrev pub invariant-loop-place : goal.invariant-loop-place
invariant-loop-place l = told l.parts.items ≡ told l.initial.parts.items ++ map Operation (take l.place-index l.places)
