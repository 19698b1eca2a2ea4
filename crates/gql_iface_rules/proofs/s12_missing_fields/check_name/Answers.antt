use Rattle.std.proofs.Common.{◌≡◌, [], List, arith, rules, subst}
use Rattle.std.specs.Prelude.{Contains}
use Rattle.std.proofs.lemmas.Grind.{common_steps}
use Rattle.std.proofs.lemmas.Map.Text.{text_keys}
use Rattle.gql_ast.specs.declared.type_system.FieldDefinition.{FieldDefinition}
use Rattle.gql_built_in.specs.declared.sited.Sited.{Sited}
use Rattle.gql_iface_rules.specs.Settled.{HasField, missing_by}
use Rattle.gql_iface_rules.proofs.Settling.{none_of_name, settled_more}
use Rattle.gql_iface_rules.proofs.s12_missing_fields.check_name.Goals as goal

pub returns-then-has_fields-clause-settled : goal.returns-then-has_fields-clause-settled
returns-then-has_fields-clause-settled c = settled_more c.args.schema.now c.args.of_type.now c.args.name.now c.in-Some.interface.now _ _
    (search rules)
    (subst (λ (fs : List (Sited FieldDefinition)). (f : Sited FieldDefinition) → Contains fs f → HasField c.args.of_type.now f) c.as_slice.ensures
    (c.has_fields.ensures (search rules)))
    (λ q. grind (arith, text_keys)) c.requires.settled

pub returns-then-has_fields-clause-faults : goal.returns-then-has_fields-clause-faults
returns-then-has_fields-clause-faults c =
    let none : missing_by c.args.schema.now c.args.of_type.now c.args.name.now ≡ [] =
    none_of_name c.args.schema.now c.args.of_type.now c.args.name.now c.in-Some.interface.now (search rules)
    (subst (λ (fs : List (Sited FieldDefinition)). (f : Sited FieldDefinition) → Contains fs f → HasField c.args.of_type.now f) c.as_slice.ensures
    (c.has_fields.ensures (search rules))) in
    grind (arith, common_steps, none)
