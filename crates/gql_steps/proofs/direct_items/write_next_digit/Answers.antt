use Rattle.std.proofs.Common.{◌+◌, ◌∷◌, [], ◌++◌, append-nil, append_assoc, ap, sym, ◌∙◌, refl, arith}
use Rattle.std.proofs.lemmas.Fmt.{decimal_digit}
use Rattle.gql_steps.specs.States.{errors_of}
use Rattle.gql_steps.proofs.direct_items.write_next_digit.Goals as goal

pub returns-clause-follows : goal.returns-clause-follows
returns-clause-follows c = record {
  out = c.push_reserved-2.ensures.items
      ∙ ap (λ l. l ++ (48 + c.args.digit) ∷ []) (c.push_reserved.ensures.items ∙ ap (λ l. l ++ 44 ∷ []) c.in_ok-reserve.ensures.items)
      ∙ append_assoc c.args.run.now.out.items (44 ∷ []) ((48 + c.args.digit) ∷ [])
      ∙ ap (λ l. c.args.run.now.out.items ++ 44 ∷ l) (sym (decimal_digit c.args.digit c.requires));
  errors = sym (append-nil (errors_of c.args.run.now));
  raised = refl;
  path = refl;
  left = omega arith;
}
