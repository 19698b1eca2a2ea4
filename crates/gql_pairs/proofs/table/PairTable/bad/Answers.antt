use Rattle.std.proofs.Common.{◌≡◌, Contains, List, inl, inr, rules, subst, sym}
use Rattle.std.specs.Prelude.{ℕ}
use Rattle.gql_facts.specs.declared.fact.FragmentFact.{FragmentFact}
use Rattle.gql_merge.specs.Between.{name_of}
use Rattle.gql_pairs.specs.Fragments.{IsFragmentOfName}
use Rattle.gql_pairs.specs.Groups.{IsPairCertified}
use Rattle.gql_pairs.specs.Tables.{HasPair}
use Rattle.gql_pairs.proofs.Searching.{bad_right, is_found, keys_right, own_name_of, some_certified, some_entry}
use Rattle.gql_pairs.proofs.table.PairTable.bad.Goals as goal

pub cover-requires-clause-named : goal.cover-requires-clause-named
cover-requires-clause-named g c =
    let F = g.W.World.facts c.args.world.now in
    let first = own_name_of F c.args.first.now c.in_ok-first.first c.in_ok-first.ensures c.requires.first in
    let second = own_name_of F c.args.second.now c.in_ok-second.second c.in_ok-second.ensures c.requires.second in
    λ x h. elim (c.in_ok-both.ensures.only x (subst (λ (l : List FragmentFact). Contains l x) c.as_slice.ensures.value h)) [
      | inl e ↦ subst (IsFragmentOfName F) (sym e) first
      | inr e ↦ subst (IsFragmentOfName F) (sym e) second
    ]

pub unwrap-requires : goal.unwrap-requires
unwrap-requires g c =
    let f1 = c.in_ok-first.first in
    let f2 = c.in_ok-second.second in
    let n : name_of f1 ≡ c.as_str.result.now = search rules in
    let m : name_of f2 ≡ c.as_str-2.result.now = search rules in
    let table = c.cover.new.self in
    let one = subst (λ (l : List FragmentFact). Contains l f1) (sym c.as_slice.ensures.value) c.in_ok-both.ensures.has_first in
    let other = subst (λ (l : List FragmentFact). Contains l f2) (sym c.as_slice.ensures.value) c.in_ok-both.ensures.has_second in
    let has = subst (λ (l : List ℕ). HasPair table l c.as_str-2.result.now) n (subst (λ (l : List ℕ). HasPair table (name_of f1) l) m (c.in_ok-cover.ensures.has f1 f2 one other)) in
    is_found table c.as_str.result.now c.as_str-2.result.now c.in_ok-found.found has c.in_ok-found.ensures.value

pub returns-clause-bad : goal.returns-clause-bad
returns-clause-bad g c =
    let F = g.W.World.facts c.args.world.now in
    let f1 = c.in_ok-first.first in
    let f2 = c.in_ok-second.second in
    let pair = c.unwrap.result in
    let entry = some_entry c.cover.new.self c.as_str.result.now c.as_str-2.result.now c.in_ok-found.found c.in_ok-found.ensures.value pair c.unwrap.ensures in
    let hold = c.cover.ensures.holds c.as_str.result.now c.as_str-2.result.now pair entry in
    let n : c.as_str.result.now ≡ name_of f1 = search rules in
    let m : c.as_str-2.result.now ≡ name_of f2 = search rules in
    let found = some_certified c.as_str.result.now c.as_str-2.result.now c.in_ok-found.found pair c.unwrap.ensures c.in_ok-found.ensures.certificate in
    let certificate = subst (λ (l : List ℕ). IsPairCertified l (name_of f2) pair) n (subst (λ (l : List ℕ). IsPairCertified c.as_str.result.now l pair) m found) in
    let first = own_name_of F c.args.first.now f1 c.in_ok-first.ensures c.requires.first in
    let second = own_name_of F c.args.second.now f2 c.in_ok-second.ensures c.requires.second in
    bad_right F c.args.first.now c.args.second.now f1 f2 c.in_ok-first.ensures c.in_ok-second.ensures first second pair hold certificate

pub returns-clause-keys : goal.returns-clause-keys
returns-clause-keys g c =
    let F = g.W.World.facts c.args.world.now in
    let f1 = c.in_ok-first.first in
    let f2 = c.in_ok-second.second in
    let pair = c.unwrap.result in
    let entry = some_entry c.cover.new.self c.as_str.result.now c.as_str-2.result.now c.in_ok-found.found c.in_ok-found.ensures.value pair c.unwrap.ensures in
    let hold = c.cover.ensures.holds c.as_str.result.now c.as_str-2.result.now pair entry in
    let n : c.as_str.result.now ≡ name_of f1 = search rules in
    let m : c.as_str-2.result.now ≡ name_of f2 = search rules in
    let found = some_certified c.as_str.result.now c.as_str-2.result.now c.in_ok-found.found pair c.unwrap.ensures c.in_ok-found.ensures.certificate in
    let certificate = subst (λ (l : List ℕ). IsPairCertified l (name_of f2) pair) n (subst (λ (l : List ℕ). IsPairCertified c.as_str.result.now l pair) m found) in
    let first = own_name_of F c.args.first.now f1 c.in_ok-first.ensures c.requires.first in
    let second = own_name_of F c.args.second.now f2 c.in_ok-second.ensures c.requires.second in
    keys_right F c.args.first.now c.args.second.now f1 f2 c.in_ok-first.ensures c.in_ok-second.ensures first second pair hold certificate

pub returns-clause-hold : goal.returns-clause-hold
returns-clause-hold g c =
    let pair = c.unwrap.result in
    let entry = some_entry c.cover.new.self c.as_str.result.now c.as_str-2.result.now c.in_ok-found.found c.in_ok-found.ensures.value pair c.unwrap.ensures in
    c.cover.ensures.holds c.as_str.result.now c.as_str-2.result.now pair entry
