use Rattle.std.proofs.Common.{◌∙◌, ◌++◌, ℕ, List, ap, false}
use Rattle.gql_ast.specs.declared.type_system.DirectiveDefinition.{DirectiveDefinition}
use Rattle.gql_removal.specs.declared.removal.Removal.TheVariants as removal
use Rattle.gql_usage.specs.Stored.{facts_of}
use Rattle.gql_usage.specs.Unread.{at_place}
use Rattle.gql_usage.specs.declared.unread.UnreadPart.TheVariants as part
use Rattle.gql_usage.proofs.Reading.{adds_not, adds_yes}
use Rattle.gql_usage.proofs.unread.add_directive.Goals as goal

pub returns-then-not-unused : goal.returns-then-not-unused
returns-then-not-unused c = adds_not (facts_of c.args.stored.now) c.args.stored.now.definitions.items _ _
    (ap removal.Directive (c.in_ok-copy.ensures ∙ ap (λ (d : DirectiveDefinition). d.name.text) c.get.ensures))
    c.in_ok-unused.unused c.in_ok-unused.ensures c.if-not-unused.true _ _

pub returns : goal.returns
returns c = adds_yes (facts_of c.args.stored.now) c.args.stored.now.definitions.items _ _
    (ap removal.Directive (c.in_ok-copy.ensures ∙ ap (λ (d : DirectiveDefinition). d.name.text) c.get.ensures))
    c.in_ok-unused.unused c.in_ok-unused.ensures c.if-not-unused.false _ _ _
    (c.in_ok-add_part.ensures ∙ ap (λ us. c.args.unread.now.items ++ us)
    (ap (λ (n : List ℕ). at_place c.args.directive.now.file c.get.result.now.name.place (part.Directive n) false) c.in_ok-copy-2.ensures
    ∙ ap (λ (d : DirectiveDefinition). at_place c.args.directive.now.file d.name.place (part.Directive d.name.text) false) c.get.ensures))
