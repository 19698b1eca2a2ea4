use Rattle.std.proofs.Common.{◌≡◌, ◌++◌, map, drop}
use Rattle.std.specs.Prelude.{string_bytes}
use Rattle.std.specs.List.{join_with_byte}
use Rattle.gql_text.proofs.Lines.{glued}
use Rattle.gql_text.proofs.block.joined.Given as goal

abbrev pub invariant-loop-line : goal.invariant-loop-line
invariant-loop-line l = string_bytes l.text ++ glued (map (λ x. x.now) (drop l.line-index l.others)) ≡ join_with_byte 10 (map (λ x. x.now) l.lines)
