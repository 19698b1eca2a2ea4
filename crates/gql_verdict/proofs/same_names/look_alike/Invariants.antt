use Rattle.std.proofs.Common.{◌≡◌, take}
use Rattle.gql_verdict.specs.NameViews.{views_of}
use Rattle.gql_verdict.proofs.same_names.look_alike.Given as goal

abbrev pub invariant-loop-i : goal.invariant-loop-i
invariant-loop-i l = views_of (take l.i l.definitions) ≡ views_of (take l.i l.others)
