use Rattle.std.proofs.Common.{◌≡◌, map, drop}
use Rattle.gql_text.specs.Values.{least, common_indent}
use Rattle.gql_text.proofs.block.shared_indent.Given as goal

abbrev pub invariant-loop-line : goal.invariant-loop-line
invariant-loop-line l = least l.count (common_indent (map (λ x. x.now) (drop l.line-index l.lines))) ≡ common_indent (map (λ x. x.now) l.lines)
