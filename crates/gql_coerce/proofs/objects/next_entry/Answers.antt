use Rattle.std.proofs.Common.{suc, drop, option_map, sym, ap, ◌+◌, ◌∙◌, Some, rules}
use Rattle.std.specs.Option.{option_copied}
use Rattle.gql_types.specs.Written.{written}
use Rattle.serde_json.specs.View.{members_view}
use Rattle.gql_coerce.specs.Coercion.{coerced, once}
use Rattle.gql_coerce.specs.Frames.{members_rest, members_then, focus_at, entry_focus_at, or_stop}
use Rattle.gql_coerce.specs.Outcomes.{value, within}
use Rattle.gql_coerce.specs.Parts.{entry_of, entries_in}
use Rattle.gql_coerce.specs.declared.refusal.Segment.TheVariants.{Key}
use Rattle.gql_coerce.proofs.ObjectSteps.{entry_taken, entries_end}
use Rattle.gql_coerce.proofs.objects.next_entry.Goals as goal

pub returns-in_default : goal.returns-in_default
returns-in_default c = λ n.
    let expected = option_map written (option_copied c.entries.object.expected) in
    c.entries.invariant n
    ∙ entries_end (coerced (suc n) c.args.schema.now) expected (members_view c.entries.object.members) (entries_in c.entries.object.entries) c.entries.object.next
    (sym c.get.ensures.entry ∙ ap (option_map entry_of) c.in_default.is) ∙ ap (λ d. once expected (value (Some d))) (search rules) ∙ sym c.in_ok-once.ensures

pub returns-in-Last : goal.returns-in-Last
returns-in-Last c = λ n.
    let inner = coerced (suc n) c.args.schema.now in
    let expected = option_map written (option_copied c.entries.object.expected) in
    let rest = drop (c.entries.object.next + 1) (entries_in c.entries.object.entries) in
    c.entries.invariant n
    ∙ entry_taken inner expected (members_view c.entries.object.members) (entries_in c.entries.object.entries) c.entries.object.next
    (entry_of c.in-Some.entry) (sym c.get.ensures.entry ∙ ap (option_map entry_of) c.in-Some.is)
    ∙ ap (members_then inner expected c.in-Some.entry.name.now (members_view c.entries.object.members) rest)
    (c.in_ok-coerced.ensures n ∙ ap (entry_focus_at (suc n) c.args.schema.now (entry_of c.in-Some.entry)) c.in-Last.is)

pub returns-in-Given : goal.returns-in-Given
returns-in-Given c = λ n.
    let inner = coerced (suc n) c.args.schema.now in
    let expected = option_map written (option_copied c.entries.object.expected) in
    let rest = drop (c.entries.object.next + 1) (entries_in c.entries.object.entries) in
    c.entries.invariant n
    ∙ entry_taken inner expected (members_view c.entries.object.members) (entries_in c.entries.object.entries) c.entries.object.next
    (entry_of c.in-Some.entry) (sym c.get.ensures.entry ∙ ap (option_map entry_of) c.in-Some.is)
    ∙ ap (members_then inner expected c.in-Some.entry.name.now (members_view c.entries.object.members) rest)
    (c.in_ok-coerced.ensures n ∙ ap (entry_focus_at (suc n) c.args.schema.now (entry_of c.in-Some.entry)) c.in-Given.is)

pub returns-in-Some-2 : goal.returns-in-Some-2
returns-in-Some-2 c = λ n.
    let inner = coerced (suc n) c.args.schema.now in
    let expected = option_map written (option_copied c.entries.object.expected) in
    let rest = drop (c.entries.object.next + 1) (entries_in c.entries.object.entries) in
    c.entries.invariant n
    ∙ entry_taken inner expected (members_view c.entries.object.members) (entries_in c.entries.object.entries) c.entries.object.next
    (entry_of c.in-Some.entry) (sym c.get.ensures.entry ∙ ap (option_map entry_of) c.in-Some.is)
    ∙ ap (members_then inner expected c.in-Some.entry.name.now (members_view c.entries.object.members) rest)
    (c.in_ok-coerced.ensures n ∙ ap (entry_focus_at (suc n) c.args.schema.now (entry_of c.in-Some.entry)) c.in-Last-Answer.is
    ∙ ap (λ f. within (Key c.in-Some.entry.name.now) (focus_at (suc n) c.args.schema.now f)) c.in-Last-Answer.field-0-is)
    ∙ c.in_ok-stop-in-Last-Answer.ensures inner rest expected
    ∙ ap (or_stop (members_rest inner expected (members_view c.add_entry.new.members) rest)) c.in-Some-2.is

pub entries-preserved : goal.entries-preserved
entries-preserved c = λ n.
    let inner = coerced (suc n) c.args.schema.now in
    let expected = option_map written (option_copied c.entries.object.expected) in
    let rest = drop (c.entries.object.next + 1) (entries_in c.entries.object.entries) in
    c.entries.invariant n
    ∙ entry_taken inner expected (members_view c.entries.object.members) (entries_in c.entries.object.entries) c.entries.object.next
    (entry_of c.in-Some.entry) (sym c.get.ensures.entry ∙ ap (option_map entry_of) c.in-Some.is)
    ∙ ap (members_then inner expected c.in-Some.entry.name.now (members_view c.entries.object.members) rest)
    (c.in_ok-coerced.ensures n ∙ ap (entry_focus_at (suc n) c.args.schema.now (entry_of c.in-Some.entry)) c.in-Last-Answer.is
    ∙ ap (λ f. within (Key c.in-Some.entry.name.now) (focus_at (suc n) c.args.schema.now f)) c.in-Last-Answer.field-0-is)
    ∙ c.in_ok-stop-in-Last-Answer.ensures inner rest expected
    ∙ ap (or_stop (members_rest inner expected (members_view c.add_entry.new.members) rest)) c.in_default-2.is
