-- Refusals of the registry.
use Rattle.std.specs.Prelude.{ℕ, List, codes}
use Rattle.gql_grammar.specs.declared.fault.SyntaxFault.{SyntaxFault}
use Rattle.gql_grammar.specs.declared.fault.SyntaxFault.TheVariants as syntax
use Rattle.gql_grammar.specs.declared.fault.SyntaxRefusal.{SyntaxRefusal}
use Rattle.gql_grammar.specs.declared.fault.SyntaxRefusal.TheVariants as reason
use Rattle.gql_registry.specs.declared.refusal.Refusal.{Refusal}
use Rattle.gql_registry.specs.declared.refusal.Refusal.TheVariants as refusal
use Rattle.gql_registry.specs.declared.refusal.Refusal.TheVariants.{Syntax, Memory}

-- the number of a refusal, which users see
abbrev pub number_of : Refusal → ℕ
number_of (refusal.Syntax number place) = 201
number_of refusal.NotText = 202
number_of refusal.TooLong = 203
number_of refusal.NoFile = 204
number_of refusal.FilesFull = 205
number_of (refusal.Stale revision) = 206
number_of refusal.BadData = 207
number_of refusal.NoOperation = 208
number_of (refusal.Faulty faults) = 209
number_of refusal.TooLarge = 210
number_of refusal.Memory = 211
number_of refusal.Spent = 212
number_of refusal.NotRun = 213

-- the refusal for a fault of a text
abbrev pub refusal_of : SyntaxFault → Refusal
refusal_of (syntax.At number place) = Syntax number place
refusal_of syntax.Memory = Memory

-- why a text is not a file of its side, in words
abbrev pub syntax_message : SyntaxRefusal → List ℕ
syntax_message reason.BadCharacter = codes "syntax: bad character"
syntax_message reason.BadNumber = codes "syntax: bad number"
syntax_message reason.UnfinishedText = codes "syntax: unfinished text"
syntax_message reason.BadEscape = codes "syntax: bad escape"
syntax_message reason.LoneSurrogate = codes "syntax: lone surrogate"
syntax_message reason.TooLong = codes "syntax: too long"
syntax_message reason.Unexpected = codes "syntax: unexpected token"
syntax_message reason.TooDeep = codes "syntax: too deep"
