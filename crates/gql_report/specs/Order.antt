-- The order of faults in a report: by first place (none first), rule, later places, owner (none
-- first), text.
use Rattle.std.specs.Prelude.{ℕ, List, take, drop}
use Rattle.std.specs.Ordering.{nat_cmp, ordering_then}
use Rattle.std.specs.Option.{option_cmp}
use Rattle.std.specs.Cmp.Lexicographic.{slice_cmp}
use Rattle.std.specs.declared.cmp.Ordering.{Ordering}
use Rattle.gql_ast.specs.Rules.{name_of}
use Rattle.gql_ast.specs.declared.fault.Fault.{Fault}
use Rattle.gql_ast.specs.declared.fault.FilePlace.{FilePlace}
use Rattle.gql_ast.specs.declared.fault.FileSide.{FileSide}
use Rattle.gql_ast.specs.declared.fault.FileSide.TheVariants.{Schema, Documents}

-- the rank of a kind of file: schema files come before documents
abbrev pub side_number : FileSide → ℕ
side_number Schema = 0
side_number Documents = 1

-- the order of places: by kind of file, bytes of the file name, and offset. Within a file the
-- offset determines line and column.
abbrev pub place_order : FilePlace → FilePlace → Ordering
place_order p q = ordering_then (nat_cmp (side_number p.side) (side_number q.side))
    (ordering_then (slice_cmp nat_cmp p.file q.file)
    (ordering_then (nat_cmp p.place.offset q.place.offset)
    (ordering_then (nat_cmp p.place.line q.place.line)
    (nat_cmp p.place.column q.place.column))))

-- the order of texts, by their bytes
abbrev pub text_order : List ℕ → List ℕ → Ordering
text_order = slice_cmp nat_cmp

-- the order of faults: by first place, name of the rule, later places, owner and text
abbrev pub fault_order : Fault → Fault → Ordering
fault_order f g = ordering_then (slice_cmp place_order (take 1 f.places) (take 1 g.places))
    (ordering_then (text_order (name_of f.rule) (name_of g.rule))
    (ordering_then (slice_cmp place_order (drop 1 f.places) (drop 1 g.places))
    (ordering_then (option_cmp place_order f.owner g.owner) (text_order f.about g.about))))
