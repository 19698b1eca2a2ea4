use Rattle.std.proofs.Common.{◌∙◌, Contains, ap, sym, subst}
use Rattle.gql_facts.specs.Reads.{type_reads}
use Rattle.gql_facts.specs.declared.key.Key.{Key}
use Rattle.gql_facts.specs.declared.key.Key.TheVariants as key
use Rattle.gql_reads.proofs.ObservedKeys.{input_named, input_read}
use Rattle.gql_reads.proofs.observing.is_about.Goals as goal

pub returns-in-InputOf : goal.returns-in-InputOf
returns-in-InputOf c =
    let n = c.args.name.now in (
      λ t. subst (λ (k : Key). Contains (type_reads n) k) (ap key.InputOf (sym (c.same-in-InputOf.ensures.0 t)) ∙ sym c.in-InputOf.is) (input_read n),
      λ h. c.same-in-InputOf.ensures.1 (input_named n c.in-InputOf.its (subst (λ (k : Key). Contains (type_reads n) k) c.in-InputOf.is h)),
    )
