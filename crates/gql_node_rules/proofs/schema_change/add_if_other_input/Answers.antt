use Rattle.std.proofs.Common.{◌≡◌, ◌∙◌, ◌++◌, ◌∷◌, [], ap, subst, sym, true}
use Rattle.gql_node_rules.specs.SchemaChanges.{is_among}
use Rattle.gql_node_rules.proofs.Changes.{among_last, among_more}
use Rattle.gql_node_rules.proofs.schema_change.add_if_other_input.Goals as goal

pub returns-in_ok-push-clause-keeps : goal.returns-in_ok-push-clause-keeps
returns-in_ok-push-clause-keeps c = λ q was.
    subst (λ ns. is_among ns q ≡ true) (sym c.in_ok-push.ensures.items) (among_more q c.in_ok-copy.field-0 c.args.found.now.items was)

pub returns-in_ok-push-clause-named : goal.returns-in_ok-push-clause-named
returns-in_ok-push-clause-named c = λ gone.
    let there : is_among c.push.new.self.items c.args.name.now ≡ true =
    subst (λ ns. is_among ns c.args.name.now ≡ true) (sym (c.in_ok-push.ensures.items ∙ ap (λ n. c.args.found.now.items ++ n ∷ []) c.in_ok-copy.ensures))
    (among_last c.args.name.now c.args.found.now.items) in
    absurd (cc (sym there ∙ gone))
