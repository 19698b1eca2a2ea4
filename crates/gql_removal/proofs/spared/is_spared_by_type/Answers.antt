use Rattle.std.proofs.Common.{◌≡◌, List, ℕ, ap, bytes_eq, false, rules, subst, sym}
use Rattle.std.specs.List.{list_any}
use Rattle.gql_facts.specs.declared.fact.DirectiveFact.{DirectiveFact}
use Rattle.gql_facts.specs.declared.fact.Fact.{Fact}
use Rattle.gql_facts.specs.declared.fact.Fact.TheVariants as fact
use Rattle.gql_facts.specs.declared.fact.InputFact.{InputFact}
use Rattle.gql_removal.specs.Removals.{directive_with, without_type}
use Rattle.gql_removal.proofs.Unchanged.{inputs_stay, names_stay}
use Rattle.gql_removal.proofs.spared.is_spared_by_type.Goals as goal

-- the type is not among those that are possible
possible : (t : List ℕ) (f : Fact) (names : List (List ℕ)) → f ≡ fact.Possible names → list_any (bytes_eq t) names ≡ false → without_type t f ≡ f
possible t f names e n = subst (λ g. without_type t g ≡ g) (sym e) (ap fact.Possible (names_stay t names n))

-- no input field is of the type
input : (t : List ℕ) (f : Fact) (fields : List InputFact) → f ≡ fact.Input fields → list_any (λ (i : InputFact). bytes_eq t i.of_type.name) fields ≡ false → without_type t f ≡ f
input t f fields e n = subst (λ g. without_type t g ≡ g) (sym e) (ap fact.Input (inputs_stay t fields n))

-- no argument of the directive is of the type
directive : (t : List ℕ) (f : Fact) (d : DirectiveFact) → f ≡ fact.Directive d → list_any (λ (i : InputFact). bytes_eq t i.of_type.name) d.arguments ≡ false → without_type t f ≡ f
directive t f d e n = subst (λ g. without_type t g ≡ g) (sym e) (ap (λ xs. fact.Directive (directive_with d xs)) (inputs_stay t d.arguments n))

pub returns-in-Possible : goal.returns-in-Possible
returns-in-Possible c = λ t.
    let e : c.args.fact.now ≡ fact.Possible c.in-Possible.names = search rules in
    let n : list_any (bytes_eq c.args.name.now) c.in-Possible.names ≡ false = search rules in
    possible c.args.name.now c.args.fact.now c.in-Possible.names e n

pub returns-in-Input : goal.returns-in-Input
returns-in-Input c = λ t.
    let e : c.args.fact.now ≡ fact.Input c.in-Input.fields = search rules in
    let n : list_any (λ (i : InputFact). bytes_eq c.args.name.now i.of_type.name) c.in-Input.fields ≡ false = search rules in
    input c.args.name.now c.args.fact.now c.in-Input.fields e n

pub returns-in-Directive : goal.returns-in-Directive
returns-in-Directive c = λ t.
    let e : c.args.fact.now ≡ fact.Directive c.in-Directive.directive = search rules in
    let n : list_any (λ (i : InputFact). bytes_eq c.args.name.now i.of_type.name) c.in-Directive.directive.arguments ≡ false = search rules in
    directive c.args.name.now c.args.fact.now c.in-Directive.directive e n
