use Rattle.std.proofs.Common.{map}
use Rattle.gql_text.specs.Lexeme.{lexeme}
use Rattle.gql_text.specs.Lexis.{IsLexed}
use Rattle.gql_grammar.proofs.Sources.{source_accepted, source_refused, accepted_source, refused_source, lexer_refused, lexer_complete, lexer_faulty}
use Rattle.gql_parse_sdl.specs.SchemaFiles.{schema_file, IsSchemaFile, IsSchemaFault}
use Rattle.gql_parse_sdl.proofs.schema_file.parse_sdl_within.Goals as goal

pub returns-in-Ok-clause-accepted : goal.returns-in-Ok-clause-accepted
unfolding IsSchemaFile IsSchemaFault
returns-in-Ok-clause-accepted c =
    let lexed : IsLexed c.args.limit c.args.source.now (map lexeme c.as_slice.result.now) = rw c.as_slice.ensures.value c.in-Ok.ensures.tokens in
    source_accepted (schema_file c.args.file) c.args.limit c.args.source.now (map lexeme c.as_slice.result.now) c.from_tokens.result c.end_place.result lexed c.end_place.ensures c.from_tokens.ensures

pub returns-in-Ok-clause-refused : goal.returns-in-Ok-clause-refused
unfolding IsSchemaFile IsSchemaFault
returns-in-Ok-clause-refused c number place is =
    let lexed : IsLexed c.args.limit c.args.source.now (map lexeme c.as_slice.result.now) = rw c.as_slice.ensures.value c.in-Ok.ensures.tokens in
    source_refused (schema_file c.args.file) c.args.limit c.args.source.now (map lexeme c.as_slice.result.now) c.from_tokens.result c.end_place.result lexed c.end_place.ensures c.from_tokens.ensures number place is

pub returns-clause-refused : goal.returns-clause-refused
unfolding IsSchemaFile IsSchemaFault
returns-clause-refused c number place is =
    lexer_refused (schema_file c.args.file) c.args.limit c.args.source.now c.in-Err.fault c.in-Err.ensures.fault c.of.result c.of.ensures number place is

pub returns-in-Ok-clause-complete : goal.returns-in-Ok-clause-complete
unfolding IsSchemaFile IsSchemaFault
returns-in-Ok-clause-complete c d told =
    let lexed : IsLexed c.args.limit c.args.source.now (map lexeme c.as_slice.result.now) = rw c.as_slice.ensures.value c.in-Ok.ensures.tokens in
    accepted_source (schema_file c.args.file) c.args.limit c.args.source.now (map lexeme c.as_slice.result.now) c.from_tokens.result c.end_place.result lexed c.end_place.ensures c.from_tokens.ensures d told

pub returns-in-Ok-clause-faulty : goal.returns-in-Ok-clause-faulty
unfolding IsSchemaFile IsSchemaFault
returns-in-Ok-clause-faulty c fault told =
    let lexed : IsLexed c.args.limit c.args.source.now (map lexeme c.as_slice.result.now) = rw c.as_slice.ensures.value c.in-Ok.ensures.tokens in
    refused_source (schema_file c.args.file) c.args.limit c.args.source.now (map lexeme c.as_slice.result.now) c.from_tokens.result c.end_place.result lexed c.end_place.ensures c.from_tokens.ensures fault told

pub returns-clause-complete : goal.returns-clause-complete
unfolding IsSchemaFile IsSchemaFault
returns-clause-complete c d told = lexer_complete (schema_file c.args.file) c.args.limit c.args.source.now c.in-Err.fault c.in-Err.ensures.fault c.of.result c.of.ensures d told

pub returns-clause-faulty : goal.returns-clause-faulty
unfolding IsSchemaFile IsSchemaFault
returns-clause-faulty c fault told = lexer_faulty (schema_file c.args.file) c.args.limit c.args.source.now c.in-Err.fault c.in-Err.ensures.fault c.of.result c.of.ensures fault told
