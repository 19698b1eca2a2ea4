use Rattle.std.proofs.Common.{◌≡◌, ◌∙◌, Contains, map, subst, sym, true}
use Rattle.std.proofs.lemmas.List.{take_all}
use Rattle.gql_found.proofs.Lists.{differ, each_mapped}
use Rattle.gql_found.specs.Owners.{is_at}
use Rattle.gql_found.proofs.finding.first_at.Goals as goal

pub loop-definition-preserved : goal.loop-definition-preserved
loop-definition-preserved c =
    each_mapped (λ d. d.now) (λ d. is_at c.args.place.now d ≡ true → ⊥) c.args.definitions.now c.loop-definition.definition-index c.definition-item.result c.loop-definition-test.true c.definition-item.is
    c.loop-definition.invariant (λ is. differ _ is (sym c.is_at.ensures ∙ c.if-is_at.false))

pub returns : goal.returns
returns c = λ d h.
    c.loop-definition.invariant d
    (subst (λ ds. Contains (map (λ e. e.now) ds) d) (sym (take_all c.loop-definition.definition-index c.args.definitions.now c.loop-definition-test.false)) h)
