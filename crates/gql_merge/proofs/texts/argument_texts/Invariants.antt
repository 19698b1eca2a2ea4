use Rattle.std.proofs.Common.{◌≡◌, map, take}
use Rattle.gql_merge.specs.Calls.{argument_text}
use Rattle.gql_merge.proofs.texts.argument_texts.Given as goal

abbrev pub invariant-loop-argument : goal.invariant-loop-argument
invariant-loop-argument l = l.texts.items ≡ map argument_text (take l.argument-index l.arguments)
