use Rattle.std.proofs.Common.{◌∙◌, ap, arith, flat_map, map}
use Rattle.std.proofs.lemmas.Bool.Decides.{nat_tests}
use Rattle.std.proofs.lemmas.List.{nil_from_length}
use Rattle.indexmap.specs.IndexSet.{insert_all, insert_key}
use Rattle.gql_single_root.specs.RootFaults.{is_fault}
use Rattle.gql_single_root.specs.Walks.{field_faults, found_of}
use Rattle.gql_single_root.proofs.Naming.{some_field}
use Rattle.gql_single_root.proofs.Whole.{all_once, more_once, of_none, of_some}
use Rattle.gql_single_root.proofs.v30_single_root_field.faults_of.Goals as goal

pub returns-then-not-is_empty-clause-found : goal.returns-then-not-is_empty-clause-found
returns-then-not-is_empty-clause-found c =
    let b = c.are_several-several.result in
    let z = some_field c.args.fields.now (grind (arith, nat_tests, c.is_empty.ensures, c.if-not-is_empty.true)) in
    of_some c.args.fields.now c.args.file.now c.args.operation.now b (λ e. c.are_several-several.ensures.0 e) (λ s. c.are_several-several.ensures.1 s) _
    (c.in_ok-check_fields.ensures ∙ ap (λ o. insert_all is_fault o (flat_map (field_faults b) (map found_of c.args.fields.now))) c.new-faults.ensures.empty) z.0 z.1

pub returns-then-not-is_empty-clause-once : goal.returns-then-not-is_empty-clause-once
returns-then-not-is_empty-clause-once c =
    let b = c.are_several-several.result in
    all_once (flat_map (field_faults b) (map found_of c.args.fields.now)) _
    (c.in_ok-check_fields.ensures ∙ ap (λ o. insert_all is_fault o (flat_map (field_faults b) (map found_of c.args.fields.now))) c.new-faults.ensures.empty)

pub returns-clause-found : goal.returns-clause-found
returns-clause-found c =
    let b = c.are_several-several.result in
    of_none c.args.fields.now c.args.file.now c.args.operation.now b (λ e. c.are_several-several.ensures.0 e) (λ s. c.are_several-several.ensures.1 s) _
    (c.in_ok-check_fields.ensures ∙ ap (λ o. insert_all is_fault o (flat_map (field_faults b) (map found_of c.args.fields.now))) c.new-faults.ensures.empty)
    _ (ap (map found_of) (nil_from_length c.args.fields.now (grind (arith, nat_tests, c.is_empty.ensures, c.if-not-is_empty.false))))
    (c.in_ok-insert.ensures.keys ∙ ap (insert_key is_fault c.check_fields.new.faults.keys) c.in_ok-fault.ensures)

pub returns-clause-once : goal.returns-clause-once
returns-clause-once c =
    let b = c.are_several-several.result in
    more_once (flat_map (field_faults b) (map found_of c.args.fields.now)) _ _ c.in_ok-fault.fault
    (c.in_ok-check_fields.ensures ∙ ap (λ o. insert_all is_fault o (flat_map (field_faults b) (map found_of c.args.fields.now))) c.new-faults.ensures.empty)
    c.in_ok-insert.ensures.keys
