use Rattle.std.proofs.Common.{length}
use Rattle.gql_text.specs.declared.token.Kind.TheVariants.{EndOfText}
use Rattle.gql_grammar.specs.Symbol.{before}
use Rattle.gql_grammar.proofs.Loops.{Going}
use Rattle.gql_parse_sdl.specs.DocumentFiles.{definition}
use Rattle.gql_parse_sdl.specs.Placed.{Rising}
use Rattle.gql_parse_sdl.proofs.Placing.{Before}
use Rattle.gql_parse_sdl.proofs.document_file.definitions.Given as goal

abbrev pub invariant-definitions : goal.invariant-definitions
invariant-definitions l = Going (before EndOfText) (definition l.file) l.initial.found l.initial.cursor l.found l.cursor
    × Rising l.cursor × Before l.file l.found l.cursor

abbrev pub decreases-definitions : goal.decreases-definitions
decreases-definitions l = length l.cursor
