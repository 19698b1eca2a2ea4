use Rattle.std.proofs.Common.{◌≡◌, ◌≤◌, ◌-◌, ◌++◌, length, map, drop}
use Rattle.std.specs.Prelude.{All}
use Rattle.std.specs.Str.{IsCharBoundary}
use Rattle.gql_text.specs.Values.{lines_of}
use Rattle.gql_findings.specs.LineSpans.{IsPart, part_of}
use Rattle.gql_findings.proofs.lines.line_spans.Given as goal

abbrev pub invariant-lines : goal.invariant-lines
invariant-lines l = record {
  within : l.start ≤ length l.text;
  cut : IsCharBoundary l.text l.start;
  parts : All (IsPart l.text) l.spans.items;
  lines : map (part_of l.text) l.spans.items ++ lines_of (drop l.start l.text) ≡ lines_of l.text;
}

abbrev pub decreases-lines : goal.decreases-lines
decreases-lines l = length l.text - l.start
