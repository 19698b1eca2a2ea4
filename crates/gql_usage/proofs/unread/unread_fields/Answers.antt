use Rattle.std.proofs.Common.{◌∙◌, List, [], subst, sym}
use Rattle.std.proofs.lemmas.List.{take_all}
use Rattle.gql_ast.specs.declared.type_system.FieldDefinition.{FieldDefinition}
use Rattle.gql_built_in.specs.declared.sited.Sited.{Sited}
use Rattle.gql_usage.specs.Stored.{facts_of}
use Rattle.gql_usage.specs.Unread.{AreListed, IsFieldListed, of_nothing}
use Rattle.gql_usage.specs.declared.unread.Unread.{Unread}
use Rattle.gql_usage.proofs.Reading.{listed_more}
use Rattle.gql_usage.proofs.unread.unread_fields.Goals as goal

pub loop-field-init : goal.loop-field-init
loop-field-init c = subst (λ (us : List Unread). AreListed (IsFieldListed (facts_of c.args.stored.now) c.args.stored.now.definitions.items c.args.of_type.now) [] us) (sym c.new-unread.ensures.items) of_nothing

pub loop-field-preserved : goal.loop-field-preserved
loop-field-preserved c = listed_more (IsFieldListed (facts_of c.args.stored.now) c.args.stored.now.definitions.items c.args.of_type.now) _ c.loop-field.field-index c.field-item.result
    c.loop-field-test.true c.field-item.is _ _ c.loop-field.invariant c.in_ok-add_field.ensures

pub returns : goal.returns
returns c = subst (λ (fs : List (Sited FieldDefinition)). AreListed (IsFieldListed (facts_of c.args.stored.now) c.args.stored.now.definitions.items c.args.of_type.now) fs c.loop-field.unread.items)
    (take_all _ _ c.loop-field-test.false ∙ c.as_slice-field-items.ensures) c.loop-field.invariant
