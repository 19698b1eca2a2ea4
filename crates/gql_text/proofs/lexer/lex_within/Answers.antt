use Rattle.std.proofs.Common.{arith, ◌<◌, ◌≤◌, length, take, [], refl, sym, ap, ◌∙◌}
use Rattle.gql_text.specs.Place.{place_after}
use Rattle.gql_text.specs.declared.token.Token as code
use Rattle.std.proofs.lemmas.List.{append-nil}
use Rattle.gql_text.specs.Lexis.{too_long, first}
use Rattle.std.proofs.lemmas.Str.{IsCharBoundary-start}
use Rattle.gql_text.proofs.Steps.{tokens_dropped, tokens_token, faulty_dropped, faulty_token, faulty_here, tokens_end, slice_is, pushed, lexeme_is}
use Rattle.gql_text.proofs.BlankRuns.{tokens_blanks, faulty_blanks}
use Rattle.gql_text.proofs.lexer.lex_within.Goals as goal

pub returns-then-source-limit-clause-fault : goal.returns-then-source-limit-clause-fault
returns-then-source-limit-clause-fault c = too_long (omega arith) refl

pub parts-init : goal.parts-init
parts-init c = record {
  short = omega arith;
  within = omega arith;
  known = refl;
  cut = IsCharBoundary-start c.args.source.now c.utf8.source;
  tokens = λ ts h. rw c.in-Ok.ensures.items h;
  fault = λ f p h. h;
}

pub past_part-after-requires-clause-within : goal.past_part-after-requires-clause-within
past_part-after-requires-clause-within c = omega (arith, c.in-Dropped.ensures.fits.within)

pub after_blanks-place-requires-clause-known : goal.after_blanks-place-requires-clause-known
after_blanks-place-requires-clause-known c = c.past_part-after.ensures.value ∙ ap (λ o. place_after (take o c.args.source.now)) (sym c.past_part-after.ensures.moved)

pub after_blanks-place-requires-clause-cut : goal.after_blanks-place-requires-clause-cut
after_blanks-place-requires-clause-cut c = rw c.past_part-after.ensures.moved (c.in-Dropped.ensures.cuts refl)

pub parts-smaller-in-Dropped : goal.parts-smaller-in-Dropped
parts-smaller-in-Dropped c =
    let some : 0 < c.in-Dropped.count = c.in-Dropped.ensures.fits.some refl in
    omega (arith, c.past_part-after.ensures.moved, c.after_blanks-place.ensures.moved)

pub parts-preserved-in-Dropped : goal.parts-preserved-in-Dropped
parts-preserved-in-Dropped c =
    let s = c.args.source.now in
    let e = c.past_part-after.ensures.moved in
    let b = c.after_blanks-place.ensures.moved in
    let within : c.past_part-after.result.offset ≤ length s = omega (arith, e, c.in-Dropped.ensures.fits.within) in
    record {
      short = omega arith;
      within = c.after_blanks-place.ensures.within;
      known = c.after_blanks-place.ensures.value;
      cut = c.after_blanks-place.ensures.cut;
      tokens = λ ts h.
          let after = tokens_blanks s c.past_part-after.result.offset ts within (rw b at h) in
          c.parts.invariant.tokens ts (tokens_dropped s c.parts.place.offset c.in-Dropped.count ts c.in-Dropped.ensures.stands (rw e at after));
      fault = λ f p h.
          let after = faulty_blanks s c.past_part-after.result.offset f p within (rw b at h) in
          c.parts.invariant.fault f p (faulty_dropped s c.parts.place.offset c.in-Dropped.count f p c.in-Dropped.ensures.stands (rw e at after));
    }

pub overflow_add-place : goal.overflow_add-place
overflow_add-place c = omega (arith, c.in-Taken.ensures.fits.within)

pub range-text-requires-clause-end_boundary : goal.range-text-requires-clause-end_boundary
range-text-requires-clause-end_boundary c = c.in-Taken.ensures.cuts refl

pub after_blanks-place-requires-in-Taken-clause-known : goal.after_blanks-place-requires-in-Taken-clause-known
after_blanks-place-requires-in-Taken-clause-known c = c.past_token-after.ensures.value ∙ ap (λ o. place_after (take o c.args.source.now)) (sym c.past_token-after.ensures.moved)

pub after_blanks-place-requires-in-Taken-clause-cut : goal.after_blanks-place-requires-in-Taken-clause-cut
after_blanks-place-requires-in-Taken-clause-cut c = rw c.past_token-after.ensures.moved (c.in-Taken.ensures.cuts refl)

pub parts-smaller : goal.parts-smaller
parts-smaller c =
    let some : 0 < c.in-Taken.count = c.in-Taken.ensures.fits.some refl in
    omega (arith, c.past_token-after.ensures.moved, c.after_blanks-place-in-Taken.ensures.moved)

pub parts-preserved : goal.parts-preserved
parts-preserved c =
    let s = c.args.source.now in
    let e = c.past_token-after.ensures.moved in
    let b = c.after_blanks-place-in-Taken.ensures.moved in
    let within : c.past_token-after.result.offset ≤ length s = omega (arith, e, c.in-Taken.ensures.fits.within) in
    record {
      short = omega arith;
      within = c.after_blanks-place-in-Taken.ensures.within;
      known = c.after_blanks-place-in-Taken.ensures.value;
      cut = c.after_blanks-place-in-Taken.ensures.cut;
      tokens = λ ts h.
          let items = c.in_ok-push-in-Taken.ensures.items in
          let after = tokens_blanks s c.past_token-after.result.offset ts within (rw b at h) in
          let more = c.parts.invariant.tokens _ (tokens_token s c.parts.place.offset c.in-Taken.count c.in-Taken.kind ts c.in-Taken.ensures.stands (rw e at after)) in
          let text = c.range-text.ensures.value ∙ slice_is s c.parts.place.offset c.in-Taken.count in
          let t : code.Token = record { kind = c.in-Taken.kind; text = c.range-text.result; place = c.parts.place } in
          pushed s c.parts.tokens.items c.push.new.self.items t _ ts items (lexeme_is t _ _ text c.parts.invariant.known) more;
      fault = λ f p h.
          let after = faulty_blanks s c.past_token-after.result.offset f p within (rw b at h) in
          c.parts.invariant.fault f p (faulty_token s c.parts.place.offset c.in-Taken.count c.in-Taken.kind f p c.in-Taken.ensures.stands (rw e at after));
    }

pub past_part-place-requires-clause-within : goal.past_part-place-requires-clause-within
past_part-place-requires-clause-within c = omega (arith, c.in-Refused.ensures.fits.within)

pub returns-in-Refused-clause-fault : goal.returns-in-Refused-clause-fault
returns-in-Refused-clause-fault c =
    first (omega arith) (c.parts.invariant.fault c.in-Refused.number c.past_part-place.result
    (faulty_here c.args.source.now c.parts.place.offset c.in-Refused.count c.in-Refused.number _ c.in-Refused.ensures.stands c.past_part-place.ensures.value))

pub returns-clause-tokens : goal.returns-clause-tokens
returns-clause-tokens c =
    record { short = omega arith; tokens_of = rw append-nil at (c.parts.invariant.tokens [] (tokens_end c.args.source.now c.parts.place.offset (omega arith))) }
