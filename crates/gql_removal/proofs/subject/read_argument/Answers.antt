use Rattle.std.proofs.Common.{Some, None, lit<}
use Rattle.std.proofs.lemmas.Str.Pattern.{split_parts, strip_prefix_char}
use Rattle.gql_removal.specs.Subjects.{of_directive, of_field, of_nothing}
use Rattle.gql_removal.proofs.subject.read_argument.Goals as goal

pub returns-in-Some : goal.returns-in-Some
returns-in-Some c =
    let after = strip_prefix_char 64 c.args.front.now (Some c.in-Some.directive) c.in-Some.ensures.cases (lit< tt) in
    rw (c.in_ok-from_str.ensures, c.in_ok-from_str-2.ensures) (of_directive after)

pub returns-in_ok-from_str-in-Some-split_once-3 : goal.returns-in_ok-from_str-in-Some-split_once-3
returns-in_ok-from_str-in-Some-split_once-3 c =
    let no_sign = strip_prefix_char 64 c.args.front.now None c.in_default.ensures.cases (lit< tt) in
    let parts = split_parts 46 c.args.front.now (Some (c.in-Some-split_once.of_type, c.in-Some-split_once.field)) c.in-Some-split_once.ensures.cases (lit< tt) in
    rw (c.in_ok-from_str-in-Some-split_once.ensures, c.in_ok-from_str-in-Some-split_once-2.ensures, c.in_ok-from_str-in-Some-split_once-3.ensures)
    (of_field (λ at. no_sign at.0 at.1) parts.1 parts.0)

pub returns-in-None : goal.returns-in-None
returns-in-None c =
    let no_sign = strip_prefix_char 64 c.args.front.now None c.in_default.ensures.cases (lit< tt) in
    let no_dot = split_parts 46 c.args.front.now None c.in-None.ensures.cases (lit< tt) in
    of_nothing (λ at. no_sign at.0 at.1) no_dot
