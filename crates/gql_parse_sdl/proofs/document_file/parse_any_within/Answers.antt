use Rattle.std.proofs.Common.{map}
use Rattle.gql_text.specs.Lexeme.{lexeme}
use Rattle.gql_text.specs.Lexis.{IsLexed}
use Rattle.gql_grammar.proofs.Sources.{source_accepted, source_refused, accepted_source, refused_source, lexer_refused, lexer_complete, lexer_faulty}
use Rattle.gql_parse_sdl.specs.DocumentFiles.{document_file, IsDocumentFile, IsDocumentFault}
use Rattle.gql_parse_sdl.proofs.Rising.{lexed_rising}
use Rattle.gql_parse_sdl.proofs.document_file.parse_any_within.Goals as goal

pub returns-in-Ok-clause-accepted : goal.returns-in-Ok-clause-accepted
unfolding IsDocumentFile IsDocumentFault
returns-in-Ok-clause-accepted c =
    let lexed : IsLexed c.args.limit c.args.source.now (map lexeme c.as_slice.result.now) = rw c.as_slice.ensures.value c.in-Ok.ensures.tokens in
    source_accepted (document_file c.args.file) c.args.limit c.args.source.now (map lexeme c.as_slice.result.now) c.from_tokens.result c.end_place.result lexed c.end_place.ensures c.from_tokens.ensures.parses

pub returns-in-Ok-clause-refused : goal.returns-in-Ok-clause-refused
unfolding IsDocumentFile IsDocumentFault
returns-in-Ok-clause-refused c number place is =
    let lexed : IsLexed c.args.limit c.args.source.now (map lexeme c.as_slice.result.now) = rw c.as_slice.ensures.value c.in-Ok.ensures.tokens in
    source_refused (document_file c.args.file) c.args.limit c.args.source.now (map lexeme c.as_slice.result.now) c.from_tokens.result c.end_place.result lexed c.end_place.ensures c.from_tokens.ensures.parses number place is

pub returns-clause-refused : goal.returns-clause-refused
unfolding IsDocumentFile IsDocumentFault
returns-clause-refused c number place is =
    lexer_refused (document_file c.args.file) c.args.limit c.args.source.now c.in-Err.fault c.in-Err.ensures.fault c.of.result c.of.ensures number place is

pub returns-in-Ok-clause-complete : goal.returns-in-Ok-clause-complete
unfolding IsDocumentFile IsDocumentFault
returns-in-Ok-clause-complete c d told =
    let lexed : IsLexed c.args.limit c.args.source.now (map lexeme c.as_slice.result.now) = rw c.as_slice.ensures.value c.in-Ok.ensures.tokens in
    accepted_source (document_file c.args.file) c.args.limit c.args.source.now (map lexeme c.as_slice.result.now) c.from_tokens.result c.end_place.result lexed c.end_place.ensures c.from_tokens.ensures.parses d told

pub returns-in-Ok-clause-faulty : goal.returns-in-Ok-clause-faulty
unfolding IsDocumentFile IsDocumentFault
returns-in-Ok-clause-faulty c fault told =
    let lexed : IsLexed c.args.limit c.args.source.now (map lexeme c.as_slice.result.now) = rw c.as_slice.ensures.value c.in-Ok.ensures.tokens in
    refused_source (document_file c.args.file) c.args.limit c.args.source.now (map lexeme c.as_slice.result.now) c.from_tokens.result c.end_place.result lexed c.end_place.ensures c.from_tokens.ensures.parses fault told

pub returns-clause-complete : goal.returns-clause-complete
unfolding IsDocumentFile IsDocumentFault
returns-clause-complete c d told = lexer_complete (document_file c.args.file) c.args.limit c.args.source.now c.in-Err.fault c.in-Err.ensures.fault c.of.result c.of.ensures d told

pub returns-clause-faulty : goal.returns-clause-faulty
unfolding IsDocumentFile IsDocumentFault
returns-clause-faulty c fault told = lexer_faulty (document_file c.args.file) c.args.limit c.args.source.now c.in-Err.fault c.in-Err.ensures.fault c.of.result c.of.ensures fault told

pub from_tokens-requires : goal.from_tokens-requires
from_tokens-requires c =
    let lexed : IsLexed c.args.limit c.args.source.now (map lexeme c.as_slice.result.now) = rw c.as_slice.ensures.value c.in-Ok.ensures.tokens in
    record { rising = lexed_rising c.args.limit c.args.source.now (map lexeme c.as_slice.result.now) lexed }
