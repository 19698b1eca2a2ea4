-- Helper definitions for private contracts: where the lines of a text begin and end.
use Rattle.std.specs.Prelude.{ℕ, ◌≡◌, ◌≤◌, List, length, map, All, slice_range}
use Rattle.std.specs.Str.{IsCharBoundary}
use Rattle.gql_text.specs.Values.{lines_of}
use Rattle.gql_findings.specs.declared.lines.LineSpan.{LineSpan}

-- the part of a text that a span names
abbrev pub part_of : List ℕ → LineSpan → List ℕ
part_of text span = slice_range text span.start span.end

-- the span names a part of the text that may be cut out
pub record IsPart (text : List ℕ) (span : LineSpan) : Type 0 where
  pub rises : span.start ≤ span.end
  pub within : span.end ≤ length text
  pub starts : IsCharBoundary text span.start
  pub ends : IsCharBoundary text span.end

-- the spans name the lines of the text
pub record AreSpans (text : List ℕ) (spans : List LineSpan) : Type 0 where
  pub parts : All (IsPart text) spans
  pub lines : map (part_of text) spans ≡ lines_of text
