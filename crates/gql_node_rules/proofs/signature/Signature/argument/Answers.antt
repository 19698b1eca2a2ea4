use Rattle.std.proofs.Common.{◌∙◌, ap, sym, bytes_eq, find, option_map}
use Rattle.std.specs.Option.{option_copied}
use Rattle.gql_ast.specs.declared.type_system.InputValueDefinition.{InputValueDefinition}
use Rattle.gql_node_rules.proofs.Found.{found_in}
use Rattle.gql_node_rules.proofs.signature.Signature.argument.Goals as goal

pub returns-in-Some : goal.returns-in-Some
returns-in-Some c =
    let test = λ (v : InputValueDefinition). bytes_eq c.args.name.now v.name.text in
    ap (λ o. option_map (λ a. a.definition.now) (option_copied o)) (sym c.in-Some.is) ∙ ap (option_map (λ a. a.definition.now)) c.get.ensures
    ∙ found_in (λ a. a.definition.now) test c.args.self.now.arguments ∙ ap (find test) c.args.self.now.all

pub returns-in-None : goal.returns-in-None
returns-in-None c =
    let test = λ (v : InputValueDefinition). bytes_eq c.args.name.now v.name.text in
    ap (λ o. option_map (λ a. a.definition.now) (option_copied o)) (sym c.in-None.is) ∙ ap (option_map (λ a. a.definition.now)) c.get.ensures
    ∙ found_in (λ a. a.definition.now) test c.args.self.now.arguments ∙ ap (find test) c.args.self.now.all
