use Rattle.std.proofs.Common.{◌≡◌, map, All, List, subst, sym, ap, ◌∙◌, rules}
use Rattle.serde_json.specs.Data.{Data, Members, member}
use Rattle.serde_json.specs.View.{members_view, view}
use Rattle.gql_steps.specs.Columns.{IsTestOf, print_of, prints_in}
use Rattle.gql_steps.specs.declared.filter.Test.{Test}
use Rattle.gql_steps.proofs.Printing.{AreAmong, rest_among, tests_more}
use Rattle.gql_steps.proofs.columns.Columns.tests.Goals as goal

pub loop-name-preserved-in-Continue-1 : goal.loop-name-preserved-in-Continue-1
loop-name-preserved-in-Continue-1 c =
    let arguments = members_view c.args.arguments.now.entries in
    let name = c.as_str.result.now in
    let rest = members_view c.next.new.self in
    let argument = view c.in-Some.argument.now in
    let test : Test = record { prints = c.in-Some-prints.prints; print = c.print_of-print.result } in
    let next : member name argument rest ≡ members_view c.loop-name.name-iterator = search rules in
    let among : AreAmong (member name argument rest) arguments = subst (λ (ms : Members). AreAmong ms arguments) (sym next) c.loop-name.invariant.among in
    record {
      among = rest_among name argument rest arguments among;
      tests = λ whole here all. subst (λ (ts : List Test). All (IsTestOf arguments (map view c.args.items.now)) ts) (sym c.in_ok-push.ensures.items)
          (tests_more name argument rest arguments (map view c.args.items.now) c.loop-name.tests.items test among
          (c.in-Some-prints.ensures whole all ∙ ap (λ (ds : List Data). prints_in name ds) here) (c.print_of-print.ensures ∙ ap (λ v. print_of (view v)) (c.get-in-Some-prints.ensures ∙ c.get.ensures)) (c.loop-name.invariant.tests whole here all));
    }
