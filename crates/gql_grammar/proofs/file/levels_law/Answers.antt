use Rattle.std.proofs.Common.{arith}
use Rattle.gql_grammar.proofs.Levels.{front, all, over, first}
use Rattle.gql_grammar.proofs.file.levels_law.Goals as goal

pub returns-clause-front : goal.returns-clause-front
returns-clause-front c ts = front 0 ts

pub returns-clause-all : goal.returns-clause-all
returns-clause-all c ts h = all 0 ts h

pub returns-clause-over : goal.returns-clause-over
returns-clause-over c ts h = over 0 ts h (omega arith)

pub returns-clause-first : goal.returns-clause-first
returns-clause-first c ts before t is = first 0 ts before t (omega arith) is
