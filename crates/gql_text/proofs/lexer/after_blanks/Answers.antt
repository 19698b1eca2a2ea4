use Rattle.std.proofs.Common.{arith, ◌≡◌, ◌+◌, drop, length-take, take, ap, sym, ◌∙◌}
use Rattle.std.specs.List.{prefix_len}
use Rattle.gql_text.specs.Chars.{is_blank}
use Rattle.gql_text.specs.Place.{place_after}
use Rattle.gql_text.specs.declared.place.Place.{Place}
use Rattle.gql_text.proofs.BlankRuns.{cut_blanks, blanks_within}
use Rattle.gql_text.proofs.lexer.after_blanks.Goals as goal
use Rattle.gql_text.proofs.lexer.after_blanks.Goals.{After-past_blanks}

moved : (c : After-past_blanks) → c.past_blanks.result.offset ≡ c.args.place.offset + prefix_len is_blank (drop c.args.place.offset c.args.source.now)
moved c =
    let e = rw c.as_bytes.ensures.value at (ap (λ (p : Place). p.offset) c.past_blanks.ensures) in
    omega (arith, e, length-take (c.args.place.offset + prefix_len is_blank (drop c.args.place.offset c.args.source.now)) c.args.source.now, blanks_within c.args.source.now c.args.place c.requires.known)

pub returns-clause-value : goal.returns-clause-value
returns-clause-value c =
    rw c.as_bytes.ensures.value at c.past_blanks.ensures ∙ ap (λ o. place_after (take o c.args.source.now)) (sym (moved c))

pub returns-clause-moved : goal.returns-clause-moved
returns-clause-moved c = moved c

pub returns-clause-within : goal.returns-clause-within
returns-clause-within c = omega (arith, moved c, blanks_within c.args.source.now c.args.place c.requires.known)

pub returns-clause-cut : goal.returns-clause-cut
returns-clause-cut c = rw (moved c) (cut_blanks c.args.source.now c.args.place.offset c.utf8.source c.requires.cut.0 c.requires.cut)
