use Rattle.std.proofs.Common.{bytes_eq, rules, sym, ◌∙◌}
use Rattle.gql_ast.specs.declared.literal.Directive.{Directive}
use Rattle.gql_intro.specs.Applied.{extension_directives}
use Rattle.gql_intro.proofs.Finding.{next_found}
use Rattle.gql_intro.proofs.applied.directive_in.Goals as goal

pub returns-in-Some : goal.returns-in-Some
returns-in-Some c = sym (c.loop-extension.invariant
    ∙ next_found (λ (d : Directive). bytes_eq c.args.name.now d.name.text) extension_directives
    c.args.extensions.now c.loop-extension.extension-index c.extension-item.result
    c.in-Some.directive.now c.loop-extension-test.true c.extension-item.is (search rules))
