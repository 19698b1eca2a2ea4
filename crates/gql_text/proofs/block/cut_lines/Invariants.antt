use Rattle.std.proofs.Common.{◌≡◌, ◌++◌, map, drop}
use Rattle.gql_text.specs.Values.{without_indent, without_common_indent}
use Rattle.gql_text.proofs.block.cut_lines.Given as goal

abbrev pub invariant-loop-line : goal.invariant-loop-line
invariant-loop-line l = map (λ x. x.now) l.found.items ++ map (without_indent l.count) (map (λ x. x.now) (drop l.line-index l.others)) ≡ without_common_indent (map (λ x. x.now) l.lines)
