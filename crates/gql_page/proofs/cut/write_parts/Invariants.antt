use Rattle.std.proofs.Common.{◌≡◌, ◌++◌, take}
use Rattle.std.specs.List.{flat_map}
use Rattle.std.specs.Prelude.{string_bytes}
use Rattle.gql_page.specs.Cut.{text_of}
use Rattle.gql_page.proofs.cut.write_parts.Given as goal

abbrev pub invariant-loop-part : goal.invariant-loop-part
invariant-loop-part l = string_bytes l.out ≡ string_bytes l.initial.out ++ flat_map text_of (take l.part-index l.parts)
