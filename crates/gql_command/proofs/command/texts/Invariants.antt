use Rattle.std.specs.Prelude.{◌≡◌, take}
use Rattle.clap.specs.Walk.{texts as texts_of}
use Rattle.gql_command.specs.CommandLine.{word_texts}
use Rattle.gql_command.proofs.command.texts.Given as goal

abbrev pub invariant-loop-word : goal.invariant-loop-word
invariant-loop-word l = texts_of l.texts.items ≡ word_texts (take l.word-index l.words)
