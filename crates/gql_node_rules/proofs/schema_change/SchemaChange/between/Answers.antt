use Rattle.std.proofs.Common.{◌≡◌, ◌∙◌, false, filter, ap, sym, subst}
use Rattle.gql_node_rules.specs.SchemaChanges.{NamesInputs, has_other_kind, is_among}
use Rattle.gql_node_rules.proofs.Changes.{same_inputs, same_kinds, turned}
use Rattle.gql_node_rules.proofs.schema_change.SchemaChange.between.Goals as goal

pub returns : goal.returns
returns c = λ forth back.
    let s = c.args.before.now in
    let t = c.args.after.now in
    let kinds = c.in_ok-new.ensures ∙ c.in_ok-kinds.ensures ∙ ap (filter (has_other_kind s t)) c.as_slice.ensures in
    record {
      kinds = λ q gone. same_kinds c.args.edited.now s t forth back q (subst (λ xs. is_among xs q ≡ false) kinds gone);
      inputs = λ same q gone. same_inputs c.args.edited.now s t forth back (c.has_other_floats.ensures same) c.in_ok-inputs.inputs.items
          (subst (λ ns. NamesInputs s t ns c.in_ok-inputs.inputs.items) c.as_slice-2.ensures c.in_ok-inputs.ensures) q (subst (λ xs. is_among xs q ≡ false) c.in_ok-new-2.ensures gone);
      directives = λ e. sym c.directives.ensures ∙ c.has_same_directives.ensures (turned c.has_same_directives.result e) ∙ c.directives-2.ensures;
      mutation_root = λ e. c.has_same_mutation_root.ensures (turned c.has_same_mutation_root.result e);
    }
