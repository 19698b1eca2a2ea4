use Rattle.std.proofs.Common.{◌≡◌, ◌++◌, take}
use Rattle.std.specs.List.{flat_map}
use Rattle.std.specs.Prelude.{string_bytes}
use Rattle.gql_render.specs.Annotations.{annotation_text}
use Rattle.gql_render.proofs.annotation.write_annotations.Given as goal

abbrev pub invariant-loop-annotation : goal.invariant-loop-annotation
invariant-loop-annotation l = string_bytes l.out ≡ string_bytes l.initial.out ++ flat_map annotation_text (take l.annotation-index l.annotations)
