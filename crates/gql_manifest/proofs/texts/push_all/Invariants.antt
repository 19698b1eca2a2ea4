use Rattle.std.proofs.Common.{◌≡◌, ◌++◌, string_bytes, take}
use Rattle.gql_manifest.specs.Packing.{texts_joined}
use Rattle.gql_manifest.proofs.texts.push_all.Given as goal

abbrev pub invariant-loop-text : goal.invariant-loop-text
invariant-loop-text l = string_bytes l.out ≡ string_bytes l.initial.out ++ texts_joined (take l.text-index l.texts)
