use Rattle.std.proofs.Common.{◌≡◌, ◌-◌, ◌<◌, ◌≤◌, ◌∙◌, ap, subst, get_or, length}
use Rattle.std.specs.Prelude.{string_bytes}
use Rattle.gql_findings.specs.LineSpans.{part_of}
use Rattle.gql_findings.specs.Sources.{line_at}
use Rattle.gql_findings.proofs.Spans.{line_found, line_none}
use Rattle.gql_findings.proofs.source.Source.line.Goals as goal

pub returns-in-Some : goal.returns-in-Some
returns-in-Some c =
    let spans = c.self.inside.lines.items in
    let number = c.args.number in
    let span = c.in-Some.span.now in
    let found = c.in-Some.ensures.lookup in
    c.of.ensures ∙ ap (λ t. part_of t span) c.as_str.ensures.value
    ∙ line_found (string_bytes c.self.inside.text) spans number span c.if-number-eq0.false
    (subst (λ xs. number - 1 < length xs) c.deref.ensures.value found.3.0) (subst (λ xs. span ≡ get_or xs (number - 1) span) c.deref.ensures.value found.1) c.self.invariant.lines
    ∙ ap (λ f. line_at f.text number) c.self.view_is

pub returns-in-None : goal.returns-in-None
returns-in-None c =
    let number = c.args.number in
    line_none (string_bytes c.self.inside.text) c.self.inside.lines.items number (subst (λ xs. length xs ≤ number - 1) c.deref.ensures.value c.in-None.ensures.lookup.3) c.self.invariant.lines
    ∙ ap (λ f. line_at f.text number) c.self.view_is
