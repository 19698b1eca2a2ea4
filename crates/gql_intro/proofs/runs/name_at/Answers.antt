use Rattle.std.proofs.Common.{◌≡◌, ◌∙◌, ◌<◌, ◌≤◌, get_or, length, rules, subst, sym}
use Rattle.gql_intro.proofs.Counting.{is_counted, name_there, none_behind, starts}
use Rattle.gql_intro.proofs.runs.name_at.Goals as goal

pub get-requires-in-Some-clause-counted : goal.get-requires-in-Some-clause-counted
get-requires-in-Some-clause-counted c =
    let inside : c.run_of.result < length c.args.runs.now = search rules in
    let is : c.in-Some.run'.now ≡ get_or c.args.runs.now c.run_of.result c.in-Some.run'.now = search rules in
    is_counted c.args.runs.now c.run_of.result c.args.index c.in-Some.run'.now c.requires inside is

pub get-requires-in-Some-clause-after : goal.get-requires-in-Some-clause-after
get-requires-in-Some-clause-after c =
    let inside : c.run_of.result < length c.args.runs.now = search rules in
    let is : c.in-Some.run'.now ≡ get_or c.args.runs.now c.run_of.result c.in-Some.run'.now = search rules in
    subst (λ n. n ≤ c.args.index) (sym (starts c.args.runs.now c.run_of.result c.args.index c.in-Some.run'.now c.requires inside is)) c.run_of.ensures.before

pub returns-in-Some : goal.returns-in-Some
returns-in-Some c =
    let inside : c.run_of.result < length c.args.runs.now = search rules in
    let is : c.in-Some.run'.now ≡ get_or c.args.runs.now c.run_of.result c.in-Some.run'.now = search rules in
    c.get-in-Some.ensures ∙ name_there c.args.runs.now c.run_of.result c.args.index c.in-Some.run'.now c.requires inside is
    c.run_of.ensures.before (c.run_of.ensures.within inside)

pub returns-in-None : goal.returns-in-None
returns-in-None c =
    let behind : c.run_of.result ≡ length c.args.runs.now = search rules in
    sym (none_behind c.args.runs.now c.run_of.result c.args.index behind c.run_of.ensures.before)
