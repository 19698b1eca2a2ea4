use Rattle.std.proofs.Common.{map}
use Rattle.gql_text.specs.Lexeme.{lexeme}
use Rattle.gql_text.specs.Lexis.{IsLexed, text_limit}
use Rattle.gql_grammar.proofs.Sources.{source_accepted, source_refused, accepted_source, refused_source, lexer_refused, lexer_complete, lexer_faulty}
use Rattle.gql_parse.specs.Documents.{executable}
use Rattle.gql_parse.proofs.document.parse.Goals as goal

pub returns-in-Ok-clause-accepted : goal.returns-in-Ok-clause-accepted
returns-in-Ok-clause-accepted c =
    let lexed : IsLexed text_limit c.args.source.now (map lexeme c.as_slice.result.now) = rw c.as_slice.ensures.value c.in-Ok.ensures.tokens in
    source_accepted (executable c.args.file) text_limit c.args.source.now (map lexeme c.as_slice.result.now) c.parse_looked_at.result c.end_place.result lexed c.end_place.ensures c.parse_looked_at.ensures

pub returns-in-Ok-clause-refused : goal.returns-in-Ok-clause-refused
returns-in-Ok-clause-refused c number place is =
    let lexed : IsLexed text_limit c.args.source.now (map lexeme c.as_slice.result.now) = rw c.as_slice.ensures.value c.in-Ok.ensures.tokens in
    source_refused (executable c.args.file) text_limit c.args.source.now (map lexeme c.as_slice.result.now) c.parse_looked_at.result c.end_place.result lexed c.end_place.ensures c.parse_looked_at.ensures number place is

pub returns-clause-refused : goal.returns-clause-refused
returns-clause-refused c number place is =
    lexer_refused (executable c.args.file) text_limit c.args.source.now c.in-Err.fault c.in-Err.ensures.fault c.of.result c.of.ensures number place is

pub returns-in-Ok-clause-complete : goal.returns-in-Ok-clause-complete
returns-in-Ok-clause-complete c d told =
    let lexed : IsLexed text_limit c.args.source.now (map lexeme c.as_slice.result.now) = rw c.as_slice.ensures.value c.in-Ok.ensures.tokens in
    accepted_source (executable c.args.file) text_limit c.args.source.now (map lexeme c.as_slice.result.now) c.parse_looked_at.result c.end_place.result lexed c.end_place.ensures c.parse_looked_at.ensures d told

pub returns-in-Ok-clause-faulty : goal.returns-in-Ok-clause-faulty
returns-in-Ok-clause-faulty c fault told =
    let lexed : IsLexed text_limit c.args.source.now (map lexeme c.as_slice.result.now) = rw c.as_slice.ensures.value c.in-Ok.ensures.tokens in
    refused_source (executable c.args.file) text_limit c.args.source.now (map lexeme c.as_slice.result.now) c.parse_looked_at.result c.end_place.result lexed c.end_place.ensures c.parse_looked_at.ensures fault told

pub returns-clause-complete : goal.returns-clause-complete
returns-clause-complete c d told = lexer_complete (executable c.args.file) text_limit c.args.source.now c.in-Err.fault c.in-Err.ensures.fault c.of.result c.of.ensures d told

pub returns-clause-faulty : goal.returns-clause-faulty
returns-clause-faulty c fault told = lexer_faulty (executable c.args.file) text_limit c.args.source.now c.in-Err.fault c.in-Err.ensures.fault c.of.result c.of.ensures fault told
