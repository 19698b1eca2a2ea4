use Rattle.std.proofs.Common.{◌++◌, ◌∙◌, [], ap, is_some, bytes_eq, map, if◌then◌else◌}
use Rattle.std.specs.HashMap as hash
use Rattle.std.specs.List.{list_any}
use Rattle.gql_ast.specs.declared.rule.Rule.TheVariants as rule
use Rattle.gql_ast.specs.declared.type_system.InputValueDefinition.{InputValueDefinition}
use Rattle.gql_faults.specs.Faults.{fault_at}
use Rattle.gql_faults.specs.Places.{spot}
use Rattle.gql_node_rules.specs.Borrowed.{application}
use Rattle.gql_node_rules.specs.S32BadArguments.{fault_of_required}
use Rattle.gql_node_rules.proofs.Same.{flat_map_same}
use Rattle.gql_node_rules.proofs.s32_bad_arguments.check_missing.Goals as goal

pub returns : goal.returns
returns c = rw (c.in_ok-check_all_required.ensures, c.as_slice.ensures.value)
    (ap (λ fs. c.args.faults.now.items ++ fs) (flat_map_same
    (λ (v : InputValueDefinition). if is_some (hash.get_by (λ k. bytes_eq v.name.text k.now) c.in_ok-texts.texts) then [] else fault_at rule.S32 v.name.text (spot c.spot-at.result))
    (fault_of_required (application c.args.applied.now)) (map (λ v. v.now) c.args.signature.now.required.items)
    (λ v k. if (c.in_ok-texts.ensures v.name.text ∙ ap (list_any (λ n. bytes_eq v.name.text n.node.text)) c.requires) k then [] else fault_at rule.S32 v.name.text (c.spot-at.ensures k))))
