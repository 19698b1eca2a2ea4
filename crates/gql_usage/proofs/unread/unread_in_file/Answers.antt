use Rattle.std.proofs.Common.{◌∙◌, ◌++◌, ℕ, List, Bool, ap, inl, inr}
use Rattle.gql_ast.specs.declared.type_system.TypeDefinition.{TypeDefinition}
use Rattle.gql_removal.specs.declared.removal.Removal.TheVariants as removal
use Rattle.gql_usage.specs.Answered.{is_answered}
use Rattle.gql_usage.specs.Stored.{facts_of}
use Rattle.gql_usage.specs.Unread.{at_place}
use Rattle.gql_usage.specs.declared.unread.UnreadPart.TheVariants as part
use Rattle.gql_usage.proofs.Reading.{is_not, is_so, ok_then}
use Rattle.gql_usage.proofs.unread.unread_in_file.Goals as goal

pub returns-then-not-unused : goal.returns-then-not-unused
returns-then-not-unused c = ok_then c.unread_fields.result
    (λ v h. inr (
      is_not (facts_of c.args.stored.now) c.args.stored.now.definitions.items _ _
          (ap removal.«Type» (c.in_ok-copy.ensures ∙ ap (λ (d : TypeDefinition). d.name.text) c.get.ensures)) c.in_ok-unused.unused c.in_ok-unused.ensures c.if-not-unused.true,
      h,
    ))
    c.unread_fields.ensures

pub returns : goal.returns
returns c = inl (
  is_so (facts_of c.args.stored.now) c.args.stored.now.definitions.items _ _
      (ap removal.«Type» (c.in_ok-copy.ensures ∙ ap (λ (d : TypeDefinition). d.name.text) c.get.ensures)) c.in_ok-unused.unused c.in_ok-unused.ensures c.if-not-unused.false,
  c.in_ok-add_part.ensures
      ∙ ap (λ us. us ++ at_place c.args.of_type.now.definition.file c.get.result.now.name.place (part.«Type» c.in_ok-copy-2.field-0) c.in_ok-is_answered.is_answered) c.new-unread.ensures.items
      ∙ ap (λ (n : List ℕ). at_place c.args.of_type.now.definition.file c.get.result.now.name.place (part.«Type» n) c.in_ok-is_answered.is_answered) c.in_ok-copy-2.ensures
      ∙ ap (λ (b : Bool). at_place c.args.of_type.now.definition.file c.get.result.now.name.place (part.«Type» c.get.result.now.name.text) b)
      (c.in_ok-is_answered.ensures c.args.schema.now c.requires.answered)
      ∙ ap (λ (d : TypeDefinition). at_place c.args.of_type.now.definition.file d.name.place (part.«Type» d.name.text) (is_answered c.args.schema.now c.args.shelf.now.verdicts d.name.text))
      c.get.ensures,
)
