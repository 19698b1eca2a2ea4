use Rattle.std.proofs.Common.{◌≡◌, ◌++◌}
use Rattle.std.specs.List.{flat_map}
use Rattle.std.specs.Prelude.{string_bytes}
use Rattle.gql_render.specs.Escapes.{escape_in, written}
use Rattle.gql_render.proofs.escapes.write_in.Given as goal

abbrev pub invariant-loop-character : goal.invariant-loop-character
invariant-loop-character l = string_bytes l.out ≡ string_bytes l.initial.out ++ flat_map (λ c. written c (escape_in l.format c)) l.yielded
