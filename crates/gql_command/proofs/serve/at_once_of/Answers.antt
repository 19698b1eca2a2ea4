use Rattle.std.proofs.Common.{◌∙◌, Ok, sym, ap, inl, inr, refl, codes}
use Rattle.clap.specs.Words.{found_of}
use Rattle.gql_command.proofs.Numbers.{at_once_in, at_once_is, tried_none, tried_some}
use Rattle.gql_command.proofs.serve.at_once_of.Goals as goal

pub returns-in-Ok-Some-clause-some : goal.returns-in-Ok-Some-clause-some
returns-in-Ok-Some-clause-some c = inr (tried_some 8 (found_of c.args.options.now) (codes "at-once") c.try_get_one.result c.try_get_one.ensures.none c.try_get_one.ensures.value _ (c.in-Ok-Some.is ∙ ap (λ o. Ok o) c.in-Ok-Some.field-0-is))

pub returns-in-Ok-Some-clause-none : goal.returns-in-Ok-Some-clause-none
returns-in-Ok-Some-clause-none c n fits gives =
    sym (ap at_once_in (c.in-Ok-Some.is ∙ ap (λ o. Ok o) c.in-Ok-Some.field-0-is)) ∙ at_once_is 8 (found_of c.args.options.now) c.try_get_one.result c.try_get_one.ensures.none c.try_get_one.ensures.value n fits gives

pub returns-in-Ok-None-clause-some : goal.returns-in-Ok-None-clause-some
returns-in-Ok-None-clause-some c =
    inl (tried_none 8 (found_of c.args.options.now) (codes "at-once") c.try_get_one.result c.try_get_one.ensures.none c.try_get_one.ensures.value (c.in-Ok-None.is ∙ ap (λ o. Ok o) c.in-Ok-None.field-0-is), refl)

pub returns-in-Ok-None-clause-none : goal.returns-in-Ok-None-clause-none
returns-in-Ok-None-clause-none c n fits gives =
    sym (ap at_once_in (c.in-Ok-None.is ∙ ap (λ o. Ok o) c.in-Ok-None.field-0-is)) ∙ at_once_is 8 (found_of c.args.options.now) c.try_get_one.result c.try_get_one.ensures.none c.try_get_one.ensures.value n fits gives

pub returns-in-Err-clause-none : goal.returns-in-Err-clause-none
returns-in-Err-clause-none c n fits gives =
    sym (ap at_once_in c.in-Err.is) ∙ at_once_is 8 (found_of c.args.options.now) c.try_get_one.result c.try_get_one.ensures.none c.try_get_one.ensures.value n fits gives
