use Rattle.std.proofs.Common.{◌∙◌, ◌++◌, ℕ, List, ap, false}
use Rattle.gql_ast.specs.declared.type_system.FieldDefinition.{FieldDefinition}
use Rattle.gql_ast.specs.declared.type_system.TypeDefinition.{TypeDefinition}
use Rattle.gql_removal.specs.Asked.{field_removal, name_of}
use Rattle.gql_usage.specs.Stored.{facts_of}
use Rattle.gql_usage.specs.Unread.{at_place}
use Rattle.gql_usage.specs.declared.unread.UnreadPart.TheVariants as part
use Rattle.gql_usage.proofs.Reading.{adds_not, adds_yes}
use Rattle.gql_usage.proofs.unread.add_field.Goals as goal

pub returns-then-not-unused : goal.returns-then-not-unused
returns-then-not-unused c = adds_not (facts_of c.args.stored.now) c.args.stored.now.definitions.items _ _
    (c.in_ok-removal.ensures ∙ ap (λ (f : FieldDefinition). field_removal c.args.of_type.now f.name.text) c.get-2.ensures)
    c.in_ok-unused.unused c.in_ok-unused.ensures c.if-not-unused.true _ _

pub returns : goal.returns
returns c = adds_yes (facts_of c.args.stored.now) c.args.stored.now.definitions.items _ _
    (c.in_ok-removal.ensures ∙ ap (λ (f : FieldDefinition). field_removal c.args.of_type.now f.name.text) c.get-2.ensures)
    c.in_ok-unused.unused c.in_ok-unused.ensures c.if-not-unused.false _ _ _
    (c.in_ok-add_part.ensures ∙ ap (λ us. c.args.unread.now.items ++ us)
    (ap (λ (t : List ℕ). at_place c.args.field.now.file c.get-2.result.now.name.place (part.Field t c.in_ok-copy-2.field-0) false)
    (c.in_ok-copy.ensures ∙ ap (λ (d : TypeDefinition). d.name.text) c.get.ensures)
    ∙ ap (λ (n : List ℕ). at_place c.args.field.now.file c.get-2.result.now.name.place (part.Field (name_of c.args.of_type.now) n) false) c.in_ok-copy-2.ensures
    ∙ ap (λ (f : FieldDefinition). at_place c.args.field.now.file f.name.place (part.Field (name_of c.args.of_type.now) f.name.text) false) c.get-2.ensures))
