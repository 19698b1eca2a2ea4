-- Helper definitions for private contracts: answers, as specifications see them.
use Rattle.std.specs.Prelude.{ℕ, List}
use Rattle.gql_http.specs.Answers.{Said, answer_bytes}
use Rattle.gql_http.specs.declared.answer.Answer.{Answer}
use Rattle.gql_http.specs.declared.answer.Ending.{Ending}

-- an answer, as specifications see it
abbrev pub answer_said : Answer → Said
answer_said a = record { status = a.status; allow = a.allow; body = a.body.items }

-- the bytes of an answer with this ending
abbrev pub ended_bytes : Ending → Said → List ℕ
ended_bytes e a = answer_bytes e.closing e.bodiless a
