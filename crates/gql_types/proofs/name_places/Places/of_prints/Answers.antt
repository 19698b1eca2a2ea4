use Rattle.std.proofs.Common.{◌∙◌, ap, rules, subst, sym}
use Rattle.std.specs.List.{position_from}
use Rattle.std.specs.Prelude.{nat_eq}
use Rattle.gql_types.specs.NamePlaces.{HasFirsts}
use Rattle.gql_types.specs.Prints.{AreDistinct, print_of}
use Rattle.gql_types.proofs.OwnPrints.{distinct_of_own, own_of_distinct}
use Rattle.gql_types.proofs.Places.{by_names}
use Rattle.gql_types.proofs.name_places.Places.of_prints.Goals as goal

pub returns-in-Some-clause-some : goal.returns-in-Some-clause-some
returns-in-Some-clause-some c = λ names same.
    let found : HasFirsts c.in-Some.first c.args.prints.items × AreDistinct c.args.prints.items = search rules in
    let own = own_of_distinct names (subst AreDistinct same found.1) in (
      (λ p. found.0 p ∙ ap (position_from (nat_eq p) 0) same ∙ sym (by_names print_of (nat_eq p) 0 names), own, same),
      own,
    )

pub returns-in-None-clause-none : goal.returns-in-None-clause-none
returns-in-None-clause-none c = λ names same own.
    let not : AreDistinct c.args.prints.items → ⊥ = search rules in
    not (subst AreDistinct (sym same) (distinct_of_own names own))
