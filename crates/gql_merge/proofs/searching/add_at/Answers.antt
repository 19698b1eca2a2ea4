use Rattle.std.proofs.Common.{◌≡◌, ◌∙◌, Some, bytes_eq, nat_eq, rules, subst, sym, true}
use Rattle.std.specs.HashMap as hash
use Rattle.std.specs.List.{list_any}
use Rattle.gql_ast.specs.declared.executable.Fragment.{Fragment}
use Rattle.gql_merge.specs.Light.{MayAdd}
use Rattle.gql_merge.proofs.CleanNames.{added_by, number_there}
use Rattle.gql_merge.proofs.searching.add_at.Goals as goal

pub returns-in_err-add : goal.returns-in_err-add
returns-in_err-add c =
    let name : c.as_str.result.now ≡ c.args.member.now.fragment.name.text = search rules in
    let at : hash.get_by (λ k. bytes_eq c.as_str.result.now k.now) c.args.fragments.now ≡ Some c.in-Some.number.now = search rules in
    let has : list_any (nat_eq c.in-Some.number.now) c.args.reached.now.keys ≡ true = search rules in
    added_by (λ n. n ≡ c.args.member.now.fragment.name.text) _ c.args.clean.now c.add.new.self
    (λ n e. (c.in-Some.number.now, subst (λ q. hash.get_by (λ k. bytes_eq q k.now) c.args.fragments.now ≡ Some c.in-Some.number.now) (name ∙ sym e) at, number_there c.args.reached.now.keys c.in-Some.number.now has))
    (subst (λ (f : Fragment). MayAdd (λ n. n ≡ f.name.text) c.args.clean.now c.add.new.self) c.get.ensures c.in_err-add.ensures.added)

pub returns-in_ok-add : goal.returns-in_ok-add
returns-in_ok-add c =
    let name : c.as_str.result.now ≡ c.args.member.now.fragment.name.text = search rules in
    let at : hash.get_by (λ k. bytes_eq c.as_str.result.now k.now) c.args.fragments.now ≡ Some c.in-Some.number.now = search rules in
    let has : list_any (nat_eq c.in-Some.number.now) c.args.reached.now.keys ≡ true = search rules in
    added_by (λ n. n ≡ c.args.member.now.fragment.name.text) _ c.args.clean.now c.add.new.self
    (λ n e. (c.in-Some.number.now, subst (λ q. hash.get_by (λ k. bytes_eq q k.now) c.args.fragments.now ≡ Some c.in-Some.number.now) (name ∙ sym e) at, number_there c.args.reached.now.keys c.in-Some.number.now has))
    (subst (λ (f : Fragment). MayAdd (λ n. n ≡ f.name.text) c.args.clean.now c.add.new.self) c.get.ensures c.in_ok-add.ensures.added)
