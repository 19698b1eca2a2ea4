use Rattle.std.proofs.Common.{◌≡◌, ◌∙◌, inl, rules, sym, ap, subst, None}
use Rattle.gql_ast.specs.FileMaps.{file_named}
use Rattle.gql_registry.specs.Sides.{files_on}
use Rattle.gql_registry.proofs.FirstRefusals.{first_no_file, removal_accepted}
use Rattle.gql_registry.proofs.loading.remove_file.Goals as goal

pub returns-then-not-has-clause-err : goal.returns-then-not-has-clause-err
returns-then-not-has-clause-err c = λ s same.
    let at : c.files_on.result.now ≡ files_on c.args.side s.files = c.files_on.ensures ∙ ap (files_on c.args.side) (sym same) in
    let none : file_named c.files_on.result.now c.args.name.now ≡ None = search rules in
    inl (first_no_file s c.args.side c.args.name.now (subst (λ fs. file_named fs c.args.name.now ≡ None) at none))

pub returns-clause-removed : goal.returns-clause-removed
returns-clause-removed c = record {
  accepted = λ s same.
      let at : c.files_on.result.now ≡ files_on c.args.side s.files = c.files_on.ensures ∙ ap (files_on c.args.side) (sym same) in
      let some : (file_named c.files_on.result.now c.args.name.now ≡ None → ⊥) = search rules in
      removal_accepted s c.args.side c.args.name.now (subst (λ fs. file_named fs c.args.name.now ≡ None → ⊥) at some);
  is = c.remove_on.ensures;
}
