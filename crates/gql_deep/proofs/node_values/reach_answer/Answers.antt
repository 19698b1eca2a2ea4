use Rattle.std.proofs.Common.{Ok, map, refl, ap, ◌∙◌}
use Rattle.json.specs.Print.{quoted}
use Rattle.serde_json.specs.Data as json
use Rattle.gql_steps.specs.JsonText.{json_text}
use Rattle.gql_ast.specs.LiteralTexts.{literal_text}
use Rattle.gql_intro.specs.Borrowed.{answer_of, node_of}
use Rattle.gql_intro.specs.Introspection.{location_name}
use Rattle.gql_intro.specs.Nodes as intro
use Rattle.gql_types.specs.Written.{written}
use Rattle.gql_steps.specs.Execution.{complete}
use Rattle.gql_steps.specs.Objects.{basis}
use Rattle.gql_steps.specs.Parts.{plain}
use Rattle.gql_steps.specs.States.{path_of}
use Rattle.gql_steps.specs.Tables.{below_at}
use Rattle.gql_steps.specs.Texts.{value_part}
use Rattle.gql_steps.specs.ValueParts.{name_list_part, nodes_in}
use Rattle.gql_steps.proofs.Completing.{answer_names}
use Rattle.gql_deep.proofs.Introspecting.{any_site, at_answer, at_node, at_nodes, at_null}
use Rattle.gql_deep.specs.declared.frames.Reached.TheVariants as reached
use Rattle.gql_deep.proofs.node_values.reach_answer.Goals as goal

pub returns-in-Null-clause-does : goal.returns-in-Null-clause-does
returns-in-Null-clause-does c = at_null (basis c.args.setting.now) c.args.table.now c.args.field.now.place (written c.args.field.now.of_type.now) (below_at c.args.table.now c.args.slot)
    c.done.result c.args.run.now c.complete_null.new.run (answer_of c.args.setting.now.context.schema.now c.args.answer) (ap (answer_of c.args.setting.now.context.schema.now) c.in-Null.is)
    (λ site here. c.done.ensures.does (basis c.args.setting.now) c.args.table.now (value_part (complete site (written c.args.field.now.of_type.now) (path_of c.args.run.now) json.null))
    c.args.run.now c.complete_null.new.run (c.complete_null.ensures site here))

pub returns-in-Text-clause-does : goal.returns-in-Text-clause-does
returns-in-Text-clause-does c = at_answer (basis c.args.setting.now) c.args.table.now c.args.field.now.place (written c.args.field.now.of_type.now) (below_at c.args.table.now c.args.slot)
    c.done-in-Text.result c.args.run.now c.write_name.new.run
    (answer_of c.args.setting.now.context.schema.now c.args.answer) (intro.text c.in-Text.text.now) (plain (quoted c.in-Text.text.now)) (ap (answer_of c.args.setting.now.context.schema.now) c.in-Text.is) (λ site. refl)
    (c.done-in-Text.ensures.does (basis c.args.setting.now) c.args.table.now (plain (quoted c.in-Text.text.now)) c.args.run.now c.write_name.new.run c.write_name.ensures)

pub returns-in-Boolean-clause-does : goal.returns-in-Boolean-clause-does
returns-in-Boolean-clause-does c = at_answer (basis c.args.setting.now) c.args.table.now c.args.field.now.place (written c.args.field.now.of_type.now) (below_at c.args.table.now c.args.slot)
    c.done-in-Boolean.result c.args.run.now c.write_flag.new.run
    (answer_of c.args.setting.now.context.schema.now c.args.answer) (intro.truth c.in-Boolean.truth) (plain (json_text (json.boolean c.in-Boolean.truth))) (ap (answer_of c.args.setting.now.context.schema.now) c.in-Boolean.is) (λ site. refl)
    (c.done-in-Boolean.ensures.does (basis c.args.setting.now) c.args.table.now (plain (json_text (json.boolean c.in-Boolean.truth))) c.args.run.now c.write_flag.new.run c.write_flag.ensures)

pub returns-in-EnumValue-clause-does : goal.returns-in-EnumValue-clause-does
returns-in-EnumValue-clause-does c = at_answer (basis c.args.setting.now) c.args.table.now c.args.field.now.place (written c.args.field.now.of_type.now) (below_at c.args.table.now c.args.slot)
    c.done-in-EnumValue.result c.args.run.now c.write_name-in-EnumValue.new.run
    (answer_of c.args.setting.now.context.schema.now c.args.answer) (intro.enum_name c.in-EnumValue.value.now) (plain (quoted c.in-EnumValue.value.now)) (ap (answer_of c.args.setting.now.context.schema.now) c.in-EnumValue.is) (λ site. refl)
    (c.done-in-EnumValue.ensures.does (basis c.args.setting.now) c.args.table.now (plain (quoted c.in-EnumValue.value.now)) c.args.run.now c.write_name-in-EnumValue.new.run c.write_name-in-EnumValue.ensures)

pub returns-in-Literal-clause-does : goal.returns-in-Literal-clause-does
returns-in-Literal-clause-does c = at_answer (basis c.args.setting.now) c.args.table.now c.args.field.now.place (written c.args.field.now.of_type.now) (below_at c.args.table.now c.args.slot)
    c.done-in-Literal.result c.args.run.now c.write_literal.new.run
    (answer_of c.args.setting.now.context.schema.now c.args.answer) (intro.text (literal_text c.in-Literal.literal.now)) (plain (quoted (literal_text c.in-Literal.literal.now))) (ap (answer_of c.args.setting.now.context.schema.now) c.in-Literal.is) (λ site. refl)
    (c.done-in-Literal.ensures.does (basis c.args.setting.now) c.args.table.now (plain (quoted (literal_text c.in-Literal.literal.now))) c.args.run.now c.write_literal.new.run c.write_literal.ensures)

pub returns-in-Locations-clause-does : goal.returns-in-Locations-clause-does
returns-in-Locations-clause-does c = at_answer (basis c.args.setting.now) c.args.table.now c.args.field.now.place (written c.args.field.now.of_type.now) (below_at c.args.table.now c.args.slot)
    c.done-in-Locations.result c.args.run.now c.write_locations.new.run
    (answer_of c.args.setting.now.context.schema.now c.args.answer) (intro.enum_names (map location_name c.in-Locations.locations.now)) (name_list_part (map location_name c.in-Locations.locations.now)) (ap (answer_of c.args.setting.now.context.schema.now) c.in-Locations.is) (λ site. answer_names site (written c.args.field.now.of_type.now) (path_of c.args.run.now) (map location_name c.in-Locations.locations.now))
    (c.done-in-Locations.ensures.does (basis c.args.setting.now) c.args.table.now (name_list_part (map location_name c.in-Locations.locations.now)) c.args.run.now c.write_locations.new.run c.write_locations.ensures)

pub returns-in-Node-clause-does : goal.returns-in-Node-clause-does
returns-in-Node-clause-does c = at_node (basis c.args.setting.now) c.object_below.new.table c.args.field.now.place (written c.args.field.now.of_type.now) (below_at c.args.table.now c.args.slot)
    (Ok (reached.Inner c.in_ok-group-in-Node.group)) c.args.run.now c.args.run.now
    (answer_of c.args.setting.now.context.schema.now c.args.answer) (node_of c.in-Node.node) c.as_str.result.now (ap (answer_of c.args.setting.now.context.schema.now) c.in-Node.is) (c.as_str.ensures ∙ c.name_in-name.ensures)
    (λ other met x i. (refl, c.in_ok-group-in-Node.ensures.enters c.args.run.now other met x i))

pub returns-in-Nodes-clause-does : goal.returns-in-Nodes-clause-does
returns-in-Nodes-clause-does c = at_nodes (basis c.args.setting.now) c.args.table.now c.args.field.now.place (written c.args.field.now.of_type.now) (below_at c.args.table.now c.args.slot)
    (Ok c.nodes_below.result) c.args.run.now c.args.run.now
    (answer_of c.args.setting.now.context.schema.now c.args.answer) (nodes_in c.args.setting.now.context.schema.now c.in-Nodes.nodes) c.as_str-in-Nodes.result.now (ap (answer_of c.args.setting.now.context.schema.now) c.in-Nodes.is) (c.as_str-in-Nodes.ensures ∙ c.name_in-name-in-Nodes.ensures)
    (c.nodes_below.ensures.does (basis c.args.setting.now) c.args.table.now c.args.run.now c.requires.within)

pub returns-in-Null-clause-keeps : goal.returns-in-Null-clause-keeps
returns-in-Null-clause-keeps c =
    let site = any_site (basis c.args.setting.now) c.args.field.now.place in
    c.done.ensures.keeps (basis c.args.setting.now) c.args.table.now (value_part (complete site (written c.args.field.now.of_type.now) (path_of c.args.run.now) json.null))
    c.args.run.now c.complete_null.new.run c.requires.right (c.complete_null.ensures site refl)

pub returns-in-Text-clause-keeps : goal.returns-in-Text-clause-keeps
returns-in-Text-clause-keeps c = c.done-in-Text.ensures.keeps (basis c.args.setting.now) c.args.table.now (plain (quoted c.in-Text.text.now)) c.args.run.now c.write_name.new.run c.requires.right c.write_name.ensures

pub returns-in-Boolean-clause-keeps : goal.returns-in-Boolean-clause-keeps
returns-in-Boolean-clause-keeps c = c.done-in-Boolean.ensures.keeps (basis c.args.setting.now) c.args.table.now (plain (json_text (json.boolean c.in-Boolean.truth))) c.args.run.now c.write_flag.new.run c.requires.right c.write_flag.ensures

pub returns-in-EnumValue-clause-keeps : goal.returns-in-EnumValue-clause-keeps
returns-in-EnumValue-clause-keeps c = c.done-in-EnumValue.ensures.keeps (basis c.args.setting.now) c.args.table.now (plain (quoted c.in-EnumValue.value.now)) c.args.run.now c.write_name-in-EnumValue.new.run c.requires.right c.write_name-in-EnumValue.ensures

pub returns-in-Literal-clause-keeps : goal.returns-in-Literal-clause-keeps
returns-in-Literal-clause-keeps c = c.done-in-Literal.ensures.keeps (basis c.args.setting.now) c.args.table.now (plain (quoted (literal_text c.in-Literal.literal.now))) c.args.run.now c.write_literal.new.run c.requires.right c.write_literal.ensures

pub returns-in-Locations-clause-keeps : goal.returns-in-Locations-clause-keeps
returns-in-Locations-clause-keeps c = c.done-in-Locations.ensures.keeps (basis c.args.setting.now) c.args.table.now (name_list_part (map location_name c.in-Locations.locations.now)) c.args.run.now c.write_locations.new.run c.requires.right c.write_locations.ensures

pub returns-in-Node-clause-keeps : goal.returns-in-Node-clause-keeps
returns-in-Node-clause-keeps c = c.in_ok-group-in-Node.ensures.keeps c.args.run.now

pub returns-in-Nodes-clause-keeps : goal.returns-in-Nodes-clause-keeps
returns-in-Nodes-clause-keeps c = c.nodes_below.ensures.keeps (basis c.args.setting.now) c.args.table.now c.args.run.now c.requires.right c.requires.within
