use Rattle.std.proofs.Common.{◌∙◌, List, [], subst, sym}
use Rattle.std.proofs.lemmas.List.{take_all}
use Rattle.gql_types.specs.declared.schema_type.SchemaType.{SchemaType}
use Rattle.gql_usage.specs.Answered.{is_answered}
use Rattle.gql_usage.specs.Stored.{facts_of}
use Rattle.gql_usage.specs.Unread.{Adds, AreListed, IsTypeListed, of_nothing}
use Rattle.gql_usage.specs.declared.unread.Unread.{Unread}
use Rattle.gql_usage.proofs.Reading.{listed_more}
use Rattle.gql_usage.proofs.unread.unread_types.Goals as goal

pub loop-of_type-init : goal.loop-of_type-init
loop-of_type-init c = subst (λ (us : List Unread). AreListed (IsTypeListed (facts_of c.args.stored.now) c.args.stored.now.definitions.items (is_answered c.args.schema.now c.args.shelf.now.verdicts)) [] us) (sym c.new-unread.ensures.items) of_nothing

pub loop-of_type-preserved : goal.loop-of_type-preserved
loop-of_type-preserved c =
    let facts = facts_of c.args.stored.now in
    let ds = c.args.stored.now.definitions.items in
    let answered = is_answered c.args.schema.now c.args.shelf.now.verdicts in
    listed_more (IsTypeListed facts ds answered) _ c.loop-of_type.of_type-index c.of_type-item.result
    c.loop-of_type-test.true c.of_type-item.is _ _ c.loop-of_type.invariant
    (subst (λ (t : SchemaType). Adds (IsTypeListed facts ds answered t) c.loop-of_type.unread.items c.add_type.new.unread.items) c.get.ensures c.in_ok-add_type.ensures)

pub returns : goal.returns
returns c = subst (λ (ts : List SchemaType). AreListed (IsTypeListed (facts_of c.args.stored.now) c.args.stored.now.definitions.items (is_answered c.args.schema.now c.args.shelf.now.verdicts)) ts c.loop-of_type.unread.items)
    (take_all _ _ c.loop-of_type-test.false ∙ c.types-of_type-items.ensures) c.loop-of_type.invariant
