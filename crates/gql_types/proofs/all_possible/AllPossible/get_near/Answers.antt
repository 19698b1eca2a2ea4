use Rattle.std.proofs.Common.{◌≡◌, ◌∙◌, Some, [], ◌∷◌, ap, bytes_eq, find, sym}
use Rattle.std.specs.Prelude.{option_map}
use Rattle.gql_types.specs.Possible.{name_of}
use Rattle.gql_types.specs.declared.possible.PossibleTypes.{PossibleTypes}
use Rattle.gql_types.specs.declared.schema_type.SchemaType.{SchemaType}
use Rattle.gql_types.proofs.EachPossible.{of_no_type, of_object, of_other}
use Rattle.gql_types.proofs.all_possible.AllPossible.get_near.Goals as goal

pub returns-in_default : goal.returns-in_default
returns-in_default c =
    of_no_type c.self.inside.types c.self.invariant.1 c.args.name.now c.in_default.ensures
    ∙ ap (λ ps. option_map (λ (p : PossibleTypes). p.types) (find (λ p. bytes_eq c.args.name.now p.of_type) ps)) c.self.view_is

pub returns-in-Object : goal.returns-in-Object
returns-in-Object c =
    let is : find (λ (t : SchemaType). bytes_eq c.args.name.now (name_of t)) c.self.inside.types ≡ Some c.in-Some.of_type.now = sym c.in-Some.ensures in
    ap Some (c.from_ref.ensures.value ∙ ap (λ d. d.name.text ∷ []) (c.get.ensures ∙ ap (λ t. t.definition.node) c.get-of_type.ensures))
    ∙ sym (of_object c.self.inside.types c.self.invariant.1 c.args.name.now c.in-Some.of_type.now is (sym (ap (λ t. t.kind) c.get-of_type.ensures) ∙ c.in-Object.is))
    ∙ ap (λ ps. option_map (λ (p : PossibleTypes). p.types) (find (λ p. bytes_eq c.args.name.now p.of_type) ps)) c.self.view_is

pub returns-in-Some-get : goal.returns-in-Some-get
returns-in-Some-get c =
    let is : find (λ (t : SchemaType). bytes_eq c.args.name.now (name_of t)) c.self.inside.types ≡ Some c.in-Some.of_type.now = sym c.in-Some.ensures in
    ap Some c.as_slice.ensures
    ∙ ap (option_map (λ (p : PossibleTypes). p.types)) c.in-Some-get.ensures
    ∙ ap (λ ps. option_map (λ (p : PossibleTypes). p.types) (find (λ p. bytes_eq c.args.name.now p.of_type) ps)) c.self.invariant.0
    ∙ of_other c.self.inside.types c.self.invariant.1 c.args.name.now c.in-Some.of_type.now is (λ e. c.in_default-kind.not-Object (ap (λ t. t.kind) c.get-of_type.ensures ∙ e))
    ∙ ap (λ ps. option_map (λ (p : PossibleTypes). p.types) (find (λ p. bytes_eq c.args.name.now p.of_type) ps)) c.self.view_is

pub returns-in-None : goal.returns-in-None
returns-in-None c =
    let is : find (λ (t : SchemaType). bytes_eq c.args.name.now (name_of t)) c.self.inside.types ≡ Some c.in-Some.of_type.now = sym c.in-Some.ensures in
    ap (option_map (λ (p : PossibleTypes). p.types)) c.in-None.ensures
    ∙ ap (λ ps. option_map (λ (p : PossibleTypes). p.types) (find (λ p. bytes_eq c.args.name.now p.of_type) ps)) c.self.invariant.0
    ∙ of_other c.self.inside.types c.self.invariant.1 c.args.name.now c.in-Some.of_type.now is (λ e. c.in_default-kind.not-Object (ap (λ t. t.kind) c.get-of_type.ensures ∙ e))
    ∙ ap (λ ps. option_map (λ (p : PossibleTypes). p.types) (find (λ p. bytes_eq c.args.name.now p.of_type) ps)) c.self.view_is
