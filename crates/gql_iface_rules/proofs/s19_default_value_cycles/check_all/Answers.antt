use Rattle.std.proofs.Common.{◌≡◌, ◌++◌, ◌∙◌, subst, ap, sym, map, flat_map, length, arith, List}
use Rattle.std.proofs.lemmas.List.{length-map}
use Rattle.gql_ast.specs.declared.type_system.InputValueDefinition.{InputValueDefinition}
use Rattle.gql_built_in.specs.declared.sited.Sited.{Sited}
use Rattle.gql_iface_rules.specs.S19DefaultValueCycles.{IsFault, all_inputs, fault_at_number}
use Rattle.gql_iface_rules.specs.S19Inputs.{object}
use Rattle.gql_iface_rules.proofs.Members.{added}
use Rattle.gql_iface_rules.proofs.S19Edges.{joined, trail_of_graph, trail_of_ranges}
use Rattle.gql_iface_rules.proofs.s19_default_value_cycles.check_all.Goals as goal

pub returns : goal.returns
returns c =
    let fields = map (λ f. f.now) c.as_slice-fields.result.now in
    let all : fields ≡ all_inputs c.args.schema.now = ap (map (λ f. f.now)) c.as_slice-fields.ensures.value ∙ c.in_ok-inputs.ensures.fields in
    let graph_is = joined c.args.schema.now (map object c.in_ok-inputs.inputs.objects) fields (map (λ v. v.items) c.in_ok-ranges.ranges.items) (map (λ v. v.items) c.as_slice-2.result.now) (map (λ v. v.items) c.in_ok-ends.ends.items) (map (λ v. v.items) c.as_slice-3.result.now)
    c.in_ok-needed.needed.items c.as_slice.result.now (length c.as_slice-fields.result.now) c.in_ok-inputs.ensures.objects all (sym (length-map c.as_slice-fields.result.now (λ f. f.now)))
    (ap (map (λ v. v.items)) c.as_slice-2.ensures.value) (ap (map (λ v. v.items)) c.as_slice-3.ensures.value) c.as_slice.ensures.value
    (length-map c.in_ok-ranges.ranges.items (λ v. v.items) ∙ c.in_ok-ranges.ensures.length ∙ sym (length-map c.as_slice-fields.result.now (λ f. f.now)))
    (λ i d lt. c.in_ok-ranges.ensures.ranges i d (omega (arith, lt, length-map c.as_slice-fields.result.now (λ f. f.now)))) c.in_ok-ends.ensures c.in_ok-needed.ensures in
    let s = c.args.schema.now in
    let old = c.args.faults.now.items in
    added (fault_at_number (all_inputs s)) c.in_ok-numbers.numbers.items old c.add_at_inputs.new.faults.items (IsFault s)
    (c.in_ok-add_at_inputs.ensures ∙ ap (λ xs. old ++ flat_map (fault_at_number fields) xs) c.as_slice-4.ensures.value
    ∙ ap (λ (fs : List (Sited InputValueDefinition)). old ++ flat_map (fault_at_number fs) c.in_ok-numbers.numbers.items) all)
    (λ x a h g. (x, trail_of_graph graph_is (c.in_ok-numbers.ensures.sound x h), g))
    (λ a p. (p.0, c.in_ok-numbers.ensures.complete p.0 (trail_of_ranges graph_is p.1), p.2))
