use Rattle.std.proofs.Common.{◌≡◌, length}
use Rattle.httparse.specs.Grammar.{skip_ows}
use Rattle.gql_wire.proofs.head.skip_blanks.Given as goal

abbrev pub invariant-blanks : goal.invariant-blanks
invariant-blanks l = skip_ows l.rest ≡ skip_ows l.initial.rest

abbrev pub decreases-blanks : goal.decreases-blanks
decreases-blanks l = length l.rest
