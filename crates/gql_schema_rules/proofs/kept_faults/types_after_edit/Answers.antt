use Rattle.std.proofs.Common.{◌≡◌, ◌∙◌, List, filter, rules, ap, ap₂}
use Rattle.std.specs.Prelude.{if◌then◌else◌}
use Rattle.gql_types.specs.Possible.{name_of}
use Rattle.gql_types.specs.Schemas.{schema_of}
use Rattle.gql_types.specs.declared.schema_type.SchemaType.{SchemaType}
use Rattle.gql_node_rules.specs.FileFaults.{joint_on_types}
use Rattle.gql_node_rules.specs.SchemaChanges.{is_among}
use Rattle.gql_schema_rules.specs.RuleGroups.{type_faults_on}
use Rattle.gql_schema_rules.proofs.KeptTypes.{kept_joint, kept_types}
use Rattle.gql_schema_rules.proofs.kept_faults.types_after_edit.Goals as goal

pub returns : goal.returns
returns c = λ names old among before others change.
    let s = c.args.schema.now in
    let edited : List SchemaType = filter (λ (t : SchemaType). is_among names (name_of t)) s.types in
    let by_joint = c.keeps_joint-keeps_joint.result in
    let sound = c.args.before.now.are_types_sound in
    let by_defaults = c.keeps_defaults-keeps_defaults.result in
    let joint : c.types_to_check.result.now ≡ (if by_joint then edited else s.types) = search rules in
    let own : c.types_to_check-2.result.now ≡ (if sound then edited else s.types) = search rules in
    let defaulted : c.types_to_check-3.result.now ≡ (if by_defaults then edited else s.types) = search rules in
    record {
      joint = ap (joint_on_types s) joint
          ∙ kept_joint names (schema_of old) s c.args.change.now by_joint others change
          (λ is. before.joint.0 (c.keeps_joint-keeps_joint.ensures.sound is)) c.keeps_joint-keeps_joint.ensures.directives;
      own = ap₂ (λ ts ds. type_faults_on s ts ds) own defaulted
          ∙ kept_types names (schema_of old) s c.args.change.now sound by_defaults
          others change before.sound.0 c.keeps_defaults-keeps_defaults.ensures.sound
          c.keeps_defaults-keeps_defaults.ensures.floats c.keeps_defaults-keeps_defaults.ensures.inputs;
    }
