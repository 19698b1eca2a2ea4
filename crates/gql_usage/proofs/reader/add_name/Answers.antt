use Rattle.std.proofs.Common.{◌≡◌, ◌∙◌, ◌++◌, ◌∷◌, [], ap, false, inl, inr, refl, sym, true}
use Rattle.gql_ast.specs.declared.executable.Fragment.{Fragment}
use Rattle.gql_usage.proofs.reader.add_name.Goals as goal

pub returns-then-not-breaks-clause-adds : goal.returns-then-not-breaks-clause-adds
returns-then-not-breaks-clause-adds c = inr (λ b. let z : true ≡ false = sym (c.in_ok-breaks.ensures.breaks.1 b) ∙ c.if-not-breaks.true in cc z, refl)

pub returns-clause-adds : goal.returns-clause-adds
returns-clause-adds c = inl (
  c.in_ok-breaks.ensures.breaks.0 c.if-not-breaks.false,
  c.in_ok-push.ensures.items ∙ ap (λ x. c.args.names.now.items ++ x ∷ []) (c.in_ok-copy.ensures ∙ ap (λ (f : Fragment). f.name.text) c.get.ensures),
)
