use Rattle.std.proofs.Common.{◌∙◌, ◌∷◌, ap, sym, Some, None, lit<}
use Rattle.std.proofs.lemmas.Str.Pattern.{split_parts, strip_prefix_char}
use Rattle.gql_removal.specs.Subjects.{a_directive, a_member, of_type, at_sign}
use Rattle.gql_removal.proofs.subject.read_plain.Goals as goal

pub returns-in-Some : goal.returns-in-Some
returns-in-Some c =
    let after = strip_prefix_char 64 c.args.word.now (Some c.in-Some.name) c.in-Some.ensures.cases (lit< tt) in
    a_directive (after ∙ ap (λ name. at_sign ∷ name) (sym c.in_ok-from_str.ensures))

pub returns-in_ok-from_str-in-Some-split_once-2 : goal.returns-in_ok-from_str-in-Some-split_once-2
returns-in_ok-from_str-in-Some-split_once-2 c =
    let no_sign = strip_prefix_char 64 c.args.word.now None c.in_default.ensures.cases (lit< tt) in
    let parts = split_parts 46 c.args.word.now (Some (c.in-Some-split_once.of_type, c.in-Some-split_once.name)) c.in-Some-split_once.ensures.cases (lit< tt) in
    rw (c.in_ok-from_str-in-Some-split_once.ensures, c.in_ok-from_str-in-Some-split_once-2.ensures)
    (a_member (λ at. no_sign at.0 at.1) parts.1 parts.0)

pub returns-in_ok-from_str-in-None : goal.returns-in_ok-from_str-in-None
returns-in_ok-from_str-in-None c =
    let no_sign = strip_prefix_char 64 c.args.word.now None c.in_default.ensures.cases (lit< tt) in
    let no_dot = split_parts 46 c.args.word.now None c.in-None.ensures.cases (lit< tt) in
    of_type (λ at. no_sign at.0 at.1) no_dot (sym c.in_ok-from_str-in-None.ensures)
