use Rattle.std.proofs.Common.{◌≡◌, ◌++◌, None, Some, bytes_eq, inl, inr, map, rules, subst}
use Rattle.std.specs.HashMap as hash
use Rattle.gql_ast.specs.declared.executable.Fragment.{Fragment}
use Rattle.gql_merge.proofs.AmongFragments.{clash_of, named_found, named_nothing}
use Rattle.gql_merge.proofs.two_fragments.add_two.Goals as goal

pub returns-in_default : goal.returns-in_default
returns-in_default c =
    let name : c.as_str.result.now ≡ c.args.first.now.fragment.name.text = search rules in
    let none : hash.get_by (λ k. bytes_eq c.as_str.result.now k.now) c.args.numbers.now ≡ None = search rules in
    named_nothing c.args.numbered.now c.args.all.now (λ q. hash.get_by (λ k. bytes_eq q k.now) c.args.numbers.now) c.args.first.now c.args.second.now c.args.found.now.items
    (inl (subst (λ q. hash.get_by (λ k. bytes_eq q k.now) c.args.numbers.now ≡ None) name none))

pub returns-in_default-known_number : goal.returns-in_default-known_number
returns-in_default-known_number c =
    let name : c.as_str-2.result.now ≡ c.args.second.now.fragment.name.text = search rules in
    let none : hash.get_by (λ k. bytes_eq c.as_str-2.result.now k.now) c.args.numbers.now ≡ None = search rules in
    named_nothing c.args.numbered.now c.args.all.now (λ q. hash.get_by (λ k. bytes_eq q k.now) c.args.numbers.now) c.args.first.now c.args.second.now c.args.found.now.items
    (inr (subst (λ q. hash.get_by (λ k. bytes_eq q k.now) c.args.numbers.now ≡ None) name none))

pub bad_between-requires-clause-left : goal.bad_between-requires-clause-left
bad_between-requires-clause-left c =
    let at : hash.get_by (λ k. bytes_eq c.as_str.result.now k.now) c.args.numbers.now ≡ Some c.in-Some.left = search rules in
    c.requires.inside c.as_str.result.now c.in-Some.left at

pub bad_between-requires-clause-right : goal.bad_between-requires-clause-right
bad_between-requires-clause-right c =
    let at : hash.get_by (λ k. bytes_eq c.as_str-2.result.now k.now) c.args.numbers.now ≡ Some c.in-Some-known_number.right = search rules in
    c.requires.inside c.as_str-2.result.now c.in-Some-known_number.right at

pub returns : goal.returns
returns c =
    let name : c.as_str.result.now ≡ c.args.first.now.fragment.name.text = search rules in
    let at : hash.get_by (λ k. bytes_eq c.as_str.result.now k.now) c.args.numbers.now ≡ Some c.in-Some.left = search rules in
    let other : c.as_str-2.result.now ≡ c.args.second.now.fragment.name.text = search rules in
    let at' : hash.get_by (λ k. bytes_eq c.as_str-2.result.now k.now) c.args.numbers.now ≡ Some c.in-Some-known_number.right = search rules in
    named_found c.args.numbered.now c.args.all.now (λ q. hash.get_by (λ k. bytes_eq q k.now) c.args.numbers.now) c.args.first.now c.args.second.now
    c.in-Some.left c.in-Some-known_number.right c.in_ok-bad.bad.items c.args.found.now.items c.add_named.new.found.items
    (subst (λ q. hash.get_by (λ k. bytes_eq q k.now) c.args.numbers.now ≡ Some c.in-Some.left) name at)
    (subst (λ q. hash.get_by (λ k. bytes_eq q k.now) c.args.numbers.now ≡ Some c.in-Some-known_number.right) other at')
    c.in_ok-bad.ensures
    (subst (λ (f : Fragment). c.add_named.new.found.items ≡ c.args.found.now.items ++ map (clash_of f.name.text c.args.second.now.fragment.name.text) c.in_ok-bad.bad.items) c.get.ensures
    (subst (λ (f : Fragment). c.add_named.new.found.items ≡ c.args.found.now.items ++ map (clash_of c.get.result.now.name.text f.name.text) c.in_ok-bad.bad.items) c.get-2.ensures
    c.in_ok-add_named.ensures))
