use Rattle.std.proofs.Common.{sym, ◌∙◌}
use Rattle.gql_text.proofs.Fronts.{stands_name, stands_mark}
use Rattle.gql_text.proofs.front.first_part.Goals as goal

pub returns-then-starts_name : goal.returns-then-starts_name
returns-then-starts_name c = let k = rw c.unwrap.ensures at c.split_first.ensures.cases in
    rw c.name_len.ensures.value (stands_name _ _ _ k.0 (sym c.starts_name.ensures ∙ c.if-starts_name.true))

pub returns-in-Some : goal.returns-in-Some
returns-in-Some c = let k = rw c.unwrap.ensures at c.split_first.ensures.cases in
    stands_mark _ _ _ _ k.0 (sym c.punctuator.ensures ∙ c.in-Some.is)
