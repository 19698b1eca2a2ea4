use Rattle.std.proofs.Common.{◌≡◌, ◌∙◌, ◌++◌, List, ap, append_assoc, rules}
use Rattle.gql_ast.specs.declared.fault.Fault.{Fault}
use Rattle.gql_node_rules.specs.Borrowed.{lists}
use Rattle.gql_node_rules.specs.FileFaults.{joint_on_schema, joint_on_types}
use Rattle.gql_schema_rules.specs.RuleGroups.{definition_faults, root_faults, type_faults, type_faults_on}
use Rattle.gql_schema_rules.specs.SchemaFaults.{nodes_in}
use Rattle.gql_schema_rules.proofs.other_faults.other_faults.Goals as goal

pub returns-clause-all : goal.returns-clause-all
returns-clause-all c = λ is checks all_interfaces enough.
    let s = c.args.schema.now in
    let n = lists c.in_ok-nodes.nodes in
    let files = c.args.files.now in
    let all = nodes_in files in
    let types = c.args.types.now in
    let found = c.args.interfaces.items in
    let same = c.in_ok-nodes.ensures is checks in
    let added : c.add_root_faults.new.faults.items ≡ ((((found ++ joint_on_types s types.joint.now) ++ joint_on_schema n s) ++ definition_faults n s) ++ type_faults_on s types.own.now types.defaulted.now) ++ root_faults files n s = search rules in
    record {
      interfaces = found;
      sound = λ f. (all_interfaces f).0;
      complete = λ f. (all_interfaces f).1;
      joined = added
          ∙ ap (λ (fs : List Fault). ((((found ++ fs) ++ joint_on_schema n s) ++ definition_faults n s) ++ type_faults_on s types.own.now types.defaulted.now) ++ root_faults files n s) enough.joint
          ∙ ap (λ (fs : List Fault). ((((found ++ joint_on_types s s.types) ++ fs) ++ definition_faults n s) ++ type_faults_on s types.own.now types.defaulted.now) ++ root_faults files n s) same.joint
          ∙ ap (λ (fs : List Fault). ((((found ++ joint_on_types s s.types) ++ joint_on_schema all s) ++ fs) ++ type_faults_on s types.own.now types.defaulted.now) ++ root_faults files n s) same.definitions
          ∙ ap (λ (fs : List Fault). ((((found ++ joint_on_types s s.types) ++ joint_on_schema all s) ++ definition_faults all s) ++ fs) ++ root_faults files n s) enough.own
          ∙ (λ k. ((append_assoc found (joint_on_types s s.types) (joint_on_schema all s) k ++ definition_faults all s) ++ type_faults s) ++ same.roots files k);
    }
