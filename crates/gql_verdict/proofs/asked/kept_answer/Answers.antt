use Rattle.std.proofs.Common.{◌≡◌, ◌∙◌, false, subst, sym, true}
use Rattle.gql_reads.specs.Leading.{IsLed}
use Rattle.gql_reads.specs.declared.observation.Answer.{Answer}
use Rattle.gql_verdict.proofs.AskedKeys.{asked_led}
use Rattle.gql_verdict.proofs.asked.kept_answer.Goals as goal

pub returns-else-is_empty : goal.returns-else-is_empty
returns-else-is_empty c =
    let e = c.in-Some.entry.now in
    subst (λ (a : Answer). IsLed a) (sym c.answer.ensures)
    (asked_led c.args.slots.now c.args.index.now c.requires c.args.key.now e c.in-Some.ensures.0
    (λ none. let z : true ≡ false = sym (c.is_empty.ensures.1 (c.readers.ensures ∙ none)) ∙ c.if-is_empty.false in cc z))
