-- The spans of the lines of a text.
use Rattle.std.proofs.Common.{◌≡◌, ℕ, zero, suc, ◌+◌, ◌-◌, ◌<◌, ◌≤◌, List, [], ◌∷◌, ◌++◌, length, take, drop, length-drop, drop-drop, get_or, refl, sym, ap, subst, ◌∙◌, arith, append_assoc, map, ◌≢◌, Some, None}
use Rattle.std.specs.List.{slice_range, slice_get}
use Rattle.std.specs.Prelude.{option_map, unwrap_or}
use Rattle.std.proofs.lemmas.Option.{slice_get-map, slice_get-get_or, slice_get_past}
use Rattle.std.specs.Str.{IsCharBoundary}
use Rattle.std.proofs.lemmas.Str.{IsCharBoundary-from_rest}
use Rattle.std.proofs.lemmas.List.{map-append, append-nil, nil_from_length}
use Rattle.gql_text.specs.Values.{lines_of}
use Rattle.gql_text.specs.Escapes.{BreaksLine, break_len}
use Rattle.gql_text.proofs.Lines.{line_size, other_lines, first_line, line_stops, other_some}
use Rattle.gql_findings.specs.Sources.{line_at}
use Rattle.gql_findings.specs.LineSpans.{IsPart, part_of}
use Rattle.gql_findings.specs.declared.lines.LineSpan.{LineSpan}

range_is : (text : List ℕ) (start count : ℕ) → slice_range text start (start + count) ≡ take count (drop start text)
range_is text start count = let e : start + count - start ≡ count = omega arith in ap (λ k. take k (drop start text)) e

-- one line more
pub span_more : (text : List ℕ) (spans new : List LineSpan) (span : LineSpan) (start count : ℕ) → new ≡ spans ++ span ∷ [] → span.start ≡ start → span.end ≡ start + count → count ≡ line_size (drop start text)
    → map (part_of text) spans ++ lines_of (drop start text) ≡ lines_of text → map (part_of text) new ++ other_lines (drop (start + count) text) ≡ lines_of text
span_more text spans new span start count n s e c h =
    let bs = drop start text in
    let is : part_of text span ≡ take count bs = ap (λ k. slice_range text k span.end) s ∙ ap (λ k. slice_range text start k) e ∙ range_is text start count in
    let rest : drop (start + count) text ≡ drop count bs = sym (drop-drop count start text) in
    let first : lines_of bs ≡ part_of text span ∷ other_lines (drop (start + count) text) =
    first_line bs ∙ ap (λ k. take k bs ∷ other_lines (drop k bs)) (sym c) ∙ ap (λ xs. xs ∷ other_lines (drop count bs)) (sym is) ∙ ap (λ xs. part_of text span ∷ other_lines xs) (sym rest) in
    ap (λ xs. map (part_of text) xs ++ other_lines (drop (start + count) text)) n
    ∙ ap (λ xs. xs ++ other_lines (drop (start + count) text)) (map-append (part_of text) spans (span ∷ []))
    ∙ append_assoc (map (part_of text) spans) (part_of text span ∷ []) (other_lines (drop (start + count) text))
    ∙ ap (λ xs. map (part_of text) spans ++ xs) (sym first) ∙ h

-- after the last line there are no others
pub spans_end : (text : List ℕ) (found : List (List ℕ)) (at : ℕ) → length (drop at text) ≡ 0 → found ++ other_lines (drop at text) ≡ lines_of text → found ≡ lines_of text
spans_end text found at e h = sym (append-nil found) ∙ ap (λ xs. found ++ other_lines xs) (sym (nil_from_length (drop at text) e)) ∙ h

-- after a line end the others begin
pub spans_next : (text : List ℕ) (found : List (List ℕ)) (at n : ℕ) → 0 < length (drop at text) → n ≡ break_len (drop at text) → found ++ other_lines (drop at text) ≡ lines_of text
    → found ++ lines_of (drop (at + n) text) ≡ lines_of text
spans_next text found at n some e h =
    ap (λ xs. found ++ lines_of xs) (sym (drop-drop n at text) ∙ ap (λ k. drop k (drop at text)) e)
    ∙ ap (λ xs. found ++ xs) (sym (other_some (drop at text) some)) ∙ h

-- what is after a line ends it
pub breaks_after : (text behind : List ℕ) (start count : ℕ) → behind ≡ drop (start + count) text → count ≡ line_size (drop start text) → 0 < length behind → BreaksLine behind
breaks_after text behind start count b c some =
    let is : behind ≡ drop (line_size (drop start text)) (drop start text) = b ∙ sym (drop-drop count start text) ∙ ap (λ k. drop k (drop start text)) c in
    let long : 0 < length (drop (line_size (drop start text)) (drop start text)) = subst (λ xs. 0 < length xs) is some in
    subst BreaksLine (sym is) (line_stops (drop start text) long)

-- the line at the front of the rest is a part of the text
pub is_part : (text rest : List ℕ) (start count : ℕ) → rest ≡ drop start text → start ≤ length text → IsCharBoundary text start → IsCharBoundary rest count → IsPart text (record { start = start; end = start + count })
is_part text rest start count r w s e =
    let cut : IsCharBoundary (drop start text) count = subst (λ xs. IsCharBoundary xs count) r e in
    let short : count ≤ length text - start = omega (arith, cut.0, length-drop start text) in
    record { rises = omega arith; within = omega arith; starts = s; ends = IsCharBoundary-from_rest text start count w cut }

-- the line of a number, by its span
pub line_found : (text : List ℕ) (spans : List LineSpan) (number : ℕ) (span : LineSpan) → number ≢ 0 → number - 1 < length spans → span ≡ get_or spans (number - 1) span → map (part_of text) spans ≡ lines_of text
    → part_of text span ≡ line_at text number
line_found text spans zero span n lt g h = absurd (n refl)
line_found text spans (suc i) span n lt g h =
    let e : suc i - 1 ≡ i = omega arith in
    let at : slice_get spans (suc i - 1) ≡ Some span = slice_get-get_or spans (suc i - 1) span lt ∙ ap Some (sym g) in
    let found : slice_get (map (part_of text) spans) i ≡ Some (part_of text span) = slice_get-map (part_of text) spans i ∙ ap (λ k. option_map (part_of text) (slice_get spans k)) (sym e) ∙ ap (option_map (part_of text)) at in
    sym (ap (λ xs. unwrap_or (slice_get xs i) []) (sym h) ∙ ap (λ o. unwrap_or o []) found)

-- no span, no line
pub line_none : (text : List ℕ) (spans : List LineSpan) (number : ℕ) → length spans ≤ number - 1 → map (part_of text) spans ≡ lines_of text → [] ≡ line_at text number
line_none text spans zero le h = refl
line_none text spans (suc i) le h =
    let e : suc i - 1 ≡ i = omega arith in
    let found : slice_get (map (part_of text) spans) i ≡ None = slice_get-map (part_of text) spans i ∙ ap (option_map (part_of text)) (slice_get_past spans i (omega arith)) in
    sym (ap (λ xs. unwrap_or (slice_get xs i) []) (sym h) ∙ ap (λ o. unwrap_or o []) found)
