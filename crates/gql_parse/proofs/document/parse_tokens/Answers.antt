use Rattle.std.proofs.Common.{map}
use Rattle.gql_text.specs.Lexeme.{lexeme}
use Rattle.gql_grammar.proofs.Files.{parsed_accepted, accepted_parsed, parsed_refused, refused_parsed}
use Rattle.gql_parse.specs.Documents.{executable}
use Rattle.gql_parse.proofs.document.parse_tokens.Goals as goal

pub returns-clause-accepted : goal.returns-clause-accepted
returns-clause-accepted c = parsed_accepted (executable c.args.file.now) c.args.end (map lexeme c.args.tokens.now) c.parse_looked_at.result c.parse_looked_at.ensures

pub returns-clause-complete : goal.returns-clause-complete
returns-clause-complete c d h = accepted_parsed (executable c.args.file.now) c.args.end (map lexeme c.args.tokens.now) c.parse_looked_at.result c.parse_looked_at.ensures d h

pub returns-clause-refused : goal.returns-clause-refused
returns-clause-refused c number place is = parsed_refused (executable c.args.file.now) c.args.end (map lexeme c.args.tokens.now) c.parse_looked_at.result c.parse_looked_at.ensures number place is

pub returns-clause-faulty : goal.returns-clause-faulty
returns-clause-faulty c fault h = refused_parsed (executable c.args.file.now) c.args.end (map lexeme c.args.tokens.now) c.parse_looked_at.result c.parse_looked_at.ensures fault h
