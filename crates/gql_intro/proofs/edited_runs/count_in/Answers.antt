use Rattle.std.proofs.Common.{◌≡◌, ◌-◌, ◌<◌, get_or, length, rules}
use Rattle.gql_intro.specs.Runs.{names_of}
use Rattle.gql_intro.proofs.Sorting.{run_is_before, taken_are_before}
use Rattle.gql_intro.proofs.edited_runs.count_in.Goals as goal

pub returns-in-Some-clause-taken : goal.returns-in-Some-clause-taken
returns-in-Some-clause-taken c =
    let run = c.args.run.now.names in
    let last = c.in-Some.last.now in
    let some : 0 < length run = search rules in
    let is : last ≡ get_or run (length run - 1) last = search rules in
    taken_are_before run last some is (names_of c.args.later.now) c.args.names.now c.count_to.result c.requires.runs c.count_to.ensures.taken

pub returns-in-Some-clause-later : goal.returns-in-Some-clause-later
returns-in-Some-clause-later c =
    let run = c.args.run.now.names in
    let last = c.in-Some.last.now in
    let some : 0 < length run = search rules in
    let is : last ≡ get_or run (length run - 1) last = search rules in
    run_is_before run last some is (names_of c.args.later.now) c.args.names.now c.count_to.result c.requires.runs c.count_to.ensures.later
