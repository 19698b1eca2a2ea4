use Rattle.std.proofs.Common.{◌∙◌, List, [], subst, sym}
use Rattle.std.proofs.lemmas.List.{take_all}
use Rattle.gql_ast.specs.declared.type_system.DirectiveDefinition.{DirectiveDefinition}
use Rattle.gql_built_in.specs.declared.sited.Sited.{Sited}
use Rattle.gql_usage.specs.Stored.{facts_of}
use Rattle.gql_usage.specs.Unread.{AreListed, IsDirectiveListed, of_nothing}
use Rattle.gql_usage.specs.declared.unread.Unread.{Unread}
use Rattle.gql_usage.proofs.Reading.{listed_more}
use Rattle.gql_usage.proofs.unread.unread_directives.Goals as goal

pub loop-directive-init : goal.loop-directive-init
loop-directive-init c = subst (λ (us : List Unread). AreListed (IsDirectiveListed (facts_of c.args.stored.now) c.args.stored.now.definitions.items) [] us) (sym c.new-unread.ensures.items) of_nothing

pub loop-directive-preserved : goal.loop-directive-preserved
loop-directive-preserved c = listed_more (IsDirectiveListed (facts_of c.args.stored.now) c.args.stored.now.definitions.items) _ c.loop-directive.directive-index c.directive-item.result
    c.loop-directive-test.true c.directive-item.is _ _ c.loop-directive.invariant c.in_ok-add_directive.ensures

pub returns : goal.returns
returns c = subst (λ (ds : List (Sited DirectiveDefinition)). AreListed (IsDirectiveListed (facts_of c.args.stored.now) c.args.stored.now.definitions.items) ds c.loop-directive.unread.items)
    (take_all _ _ c.loop-directive-test.false ∙ c.directives-directive-items.ensures) c.loop-directive.invariant
