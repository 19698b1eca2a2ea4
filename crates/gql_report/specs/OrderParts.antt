-- Helper definitions for private contracts: parts of the order of faults, which are compared last.
use Rattle.std.specs.Prelude.{drop}
use Rattle.std.specs.Ordering.{nat_cmp, ordering_then}
use Rattle.std.specs.Option.{option_cmp}
use Rattle.std.specs.Cmp.Lexicographic.{slice_cmp}
use Rattle.std.specs.declared.cmp.Ordering.{Ordering}
use Rattle.gql_ast.specs.declared.fault.Fault.{Fault}
use Rattle.gql_ast.specs.declared.fault.FilePlace.{FilePlace}
use Rattle.gql_report.specs.Order.{place_order, text_order}

-- the order of places of one file
abbrev pub spot_order : FilePlace → FilePlace → Ordering
spot_order p q = ordering_then (nat_cmp p.place.offset q.place.offset)
    (ordering_then (nat_cmp p.place.line q.place.line) (nat_cmp p.place.column q.place.column))

-- the order of faults of one first place and one rule
abbrev pub later_order : Fault → Fault → Ordering
later_order f g = ordering_then (slice_cmp place_order (drop 1 f.places) (drop 1 g.places))
    (ordering_then (option_cmp place_order f.owner g.owner) (text_order f.about g.about))
