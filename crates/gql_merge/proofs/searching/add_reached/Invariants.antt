use Rattle.std.proofs.Common.{bytes_eq}
use Rattle.std.specs.HashMap as hash
use Rattle.gql_merge.specs.Light.{IsNameAt, MayAdd}
use Rattle.gql_merge.proofs.searching.add_reached.Given as goal

abbrev pub invariant-loop-member : goal.invariant-loop-member
invariant-loop-member l = MayAdd (IsNameAt (λ q. hash.get_by (λ k. bytes_eq q k.now) l.fragments) l.reached.keys) l.fn.clean l.clean
