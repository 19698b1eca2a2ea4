use Rattle.std.proofs.Common.{◌≡◌, ◌+◌, ◌<◌, ◌≤◌, length, length-drop, map, arith, refl, sym, ap, subst, ◌∙◌}
use Rattle.std.specs.Prelude.{All}
use Rattle.std.specs.Str.{IsCharBoundary}
use Rattle.std.proofs.lemmas.Bool.Decides.{nat_tests}
use Rattle.std.proofs.lemmas.List.Elements.{All-push}
use Rattle.std.proofs.lemmas.Str.{IsCharBoundary-start, IsCharBoundary-from_rest}
use Rattle.gql_text.specs.Escapes.{break_len}
use Rattle.gql_text.proofs.Lines.{line_size}
use Rattle.gql_findings.specs.LineSpans.{IsPart, part_of}
use Rattle.gql_findings.proofs.Spans.{span_more, spans_end, spans_next, breaks_after, is_part}
use Rattle.gql_findings.proofs.lines.line_spans.Goals as goal

pub lines-init : goal.lines-init
lines-init c = record {
  within = omega arith;
  cut = IsCharBoundary-start c.args.text.now c.utf8.text;
  parts = subst (All (IsPart c.args.text.now)) (sym c.new-spans.ensures.items) (λ k d h. absurd (omega arith));
  lines = rw c.new-spans.ensures.items refl;
}

pub returns-then-is_empty : goal.returns-then-is_empty
returns-then-is_empty c =
    let text = c.args.text.now in
    let count = c.line_len-count.result in
    let new = c.push.new.self.items in
    let none : length c.range_from-behind.result.now ≡ 0 = grind (arith, nat_tests) in
    let part = is_part text c.range_from-rest.result.now c.lines.start count c.range_from-rest.ensures.value c.lines.invariant.within c.lines.invariant.cut c.line_len-count.ensures.cut in
    let more = span_more text c.lines.spans.items new (record { start = c.lines.start; end = c.lines.start + count }) c.lines.start count
    c.in_ok-push.ensures.items refl refl (c.line_len-count.ensures.value ∙ ap line_size c.range_from-rest.ensures.value) c.lines.invariant.lines in
    record {
      parts = subst (All (IsPart text)) (sym c.in_ok-push.ensures.items) (All-push (IsPart text) c.lines.spans.items _ c.lines.invariant.parts part);
      lines = spans_end text (map (part_of text) new) (c.lines.start + count) (sym (ap length c.range_from-behind.ensures.value) ∙ none) more;
    }

pub end_len-requires : goal.end_len-requires
end_len-requires c = breaks_after c.args.text.now c.range_from-behind.result.now c.lines.start c.line_len-count.result c.range_from-behind.ensures.value (c.line_len-count.ensures.value ∙ ap line_size c.range_from-rest.ensures.value) (grind (arith, nat_tests))

pub lines-preserved : goal.lines-preserved
lines-preserved c =
    let text = c.args.text.now in
    let count = c.line_len-count.result in
    let new = c.push.new.self.items in
    let behind = c.range_from-behind.ensures.value in
    let some : 0 < length c.range_from-behind.result.now = grind (arith, nat_tests) in
    let part = is_part text c.range_from-rest.result.now c.lines.start count c.range_from-rest.ensures.value c.lines.invariant.within c.lines.invariant.cut c.line_len-count.ensures.cut in
    let more = span_more text c.lines.spans.items new (record { start = c.lines.start; end = c.lines.start + count }) c.lines.start count
    c.in_ok-push.ensures.items refl refl (c.line_len-count.ensures.value ∙ ap line_size c.range_from-rest.ensures.value) c.lines.invariant.lines in
    let long : c.lines.start + count ≤ length text = part.within in
    record {
      within = omega (arith, c.end_len.ensures.within, ap length behind, length-drop (c.lines.start + count) text);
      cut = IsCharBoundary-from_rest text (c.lines.start + count) c.end_len.result long (subst (λ xs. IsCharBoundary xs c.end_len.result) behind c.end_len.ensures.cut);
      parts = subst (All (IsPart text)) (sym c.in_ok-push.ensures.items) (All-push (IsPart text) c.lines.spans.items _ c.lines.invariant.parts part);
      lines = spans_next text (map (part_of text) new) (c.lines.start + count) c.end_len.result (subst (λ xs. 0 < length xs) behind some) (c.end_len.ensures.value ∙ ap break_len behind) more;
    }
