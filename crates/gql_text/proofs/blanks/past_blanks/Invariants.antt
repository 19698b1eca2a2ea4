use Rattle.std.proofs.Common.{◌≡◌, ◌+◌, ◌-◌, take, drop, length}
use Rattle.std.specs.List.{prefix_len}
use Rattle.gql_text.specs.Chars.{is_blank}
use Rattle.gql_text.specs.Place.{place_after}
use Rattle.gql_text.proofs.blanks.past_blanks.Given as goal

abbrev pub invariant-blanks : goal.invariant-blanks
invariant-blanks l = record {
  known : l.place ≡ place_after (take l.place.offset l.source);
  same : l.place.offset + prefix_len is_blank (drop l.place.offset l.source) ≡ l.initial.place.offset + prefix_len is_blank (drop l.initial.place.offset l.source);
}

abbrev pub decreases-blanks : goal.decreases-blanks
decreases-blanks l = length l.source - l.place.offset
