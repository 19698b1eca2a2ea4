use Rattle.std.proofs.Common.{◌≡◌, ◌∙◌, ◌-◌, ℕ, None, Some, ap, arith, cond, drop, get_or, refl, rules, sym, true}
use Rattle.std.specs.List.{position_from}
use Rattle.std.specs.Prelude.{is_some, nat_eq}
use Rattle.gql_types.proofs.OwnPrints.{distinct_more, first_before, not_distinct}
use Rattle.gql_types.proofs.name_places.places_of_prints.Goals as goal

pub prints-preserved : goal.prints-preserved
prints-preserved c =
    let p : ℕ = get_or c.args.prints.now (c.prints.place - 1) 0 in
    let none : c.in_ok-later.later ≡ None = search rules in
    let absent : position_from (nat_eq p) c.prints.place (drop c.prints.place c.args.prints.now) ≡ c.in_ok-later.later
    = sym (c.in_ok-later.ensures.old ∙ c.prints.invariant.1 p) in (
      omega arith,
      λ q. c.in_ok-later.ensures.updates.0 q
          ∙ ap (cond (nat_eq p q) (Some (c.prints.place - 1))) (c.prints.invariant.1 q)
          ∙ first_before c.args.prints.now c.prints.place p q (search rules) (search rules) refl,
      distinct_more c.args.prints.now c.prints.place p (search rules) (search rules) (search rules) (absent ∙ none) c.prints.invariant.2,
    )

pub returns-then-is_some-clause-none : goal.returns-then-is_some-clause-none
returns-then-is_some-clause-none c =
    let p : ℕ = get_or c.args.prints.now (c.prints.place - 1) 0 in
    let some : is_some c.in_ok-later.later ≡ true = search rules in
    let later : position_from (nat_eq p) c.prints.place (drop c.prints.place c.args.prints.now) ≡ c.in_ok-later.later
    = sym (c.in_ok-later.ensures.old ∙ c.prints.invariant.1 p) in
    not_distinct c.args.prints.now c.prints.place p c.in_ok-later.later (search rules) (search rules) (search rules) later some
