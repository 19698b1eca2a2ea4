use Rattle.std.proofs.Common.{◌≡◌, ◌∙◌, ◌++◌, ◌∷◌, [], IfOk, List, ℕ, Option, Result, Some, None, Ok, Err, ap, lit<}
use Rattle.std.proofs.lemmas.Str.Pattern.{split_parts}
use Rattle.gql_removal.specs.Subjects.{HasNo, Names, NamesArgument, an_argument, closing, colon, no_argument, opening, plainly}
use Rattle.gql_removal.specs.declared.subject.Subject.{Subject}
use Rattle.gql_removal.proofs.subject.read_subject.Goals as goal

-- a word with the word of an argument names what that names
argued : {E : Type 0} (word front name : List ℕ) (r : Result (Option Subject) E) → HasNo opening front
    → word ≡ front ++ opening ∷ (name ++ colon ∷ closing ∷ []) → IfOk r (NamesArgument front name) → IfOk r (Names word)
argued word front name (Ok s) free e h = an_argument front name free e h
argued word front name (Err s) free e h = tt

pub returns-in_ok-read_plain-in-None : goal.returns-in_ok-read_plain-in-None
returns-in_ok-read_plain-in-None c =
    plainly (split_parts 40 c.args.word.now None c.in-None.ensures.cases (lit< tt)) c.in_ok-read_plain-in-None.ensures

pub returns-in-Some-before_end : goal.returns-in-Some-before_end
returns-in-Some-before_end c =
    let parts = split_parts 40 c.args.word.now (Some (c.in-Some.front, c.in-Some.rest)) c.in-Some.ensures.cases (lit< tt) in
    argued c.args.word.now c.in-Some.front.now c.in-Some-before_end.name.now c.read_argument.result parts.1
    (parts.0 ∙ ap (λ l. c.in-Some.front.now ++ opening ∷ l) c.in-Some-before_end.ensures) c.read_argument.ensures

pub returns-in-None-before_end : goal.returns-in-None-before_end
returns-in-None-before_end c =
    let parts = split_parts 40 c.args.word.now (Some (c.in-Some.front, c.in-Some.rest)) c.in-Some.ensures.cases (lit< tt) in
    no_argument c.in-Some.front.now c.in-Some.rest.now parts.1 parts.0 c.in-None-before_end.ensures
