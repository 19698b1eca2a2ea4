-- What an edit would do: the faults that it would bring and mend, and the operations that it would
-- break and heal, by what is present and what it would leave.
use Rattle.std.specs.Prelude.{ℕ, ◌≡◌, List, flat_map, length, map, slice_get}
use Rattle.std.specs.Option.{option_to_list}
use Rattle.gql_ast.specs.declared.files.Files.{Files}
use Rattle.gql_findings.specs.Comparing.{brought, broken, healed, mended}
use Rattle.gql_findings.specs.Marks.{label_at}
use Rattle.gql_findings.specs.Sources.{TextFile}
use Rattle.gql_findings.specs.declared.finding.Affected.{Affected}
use Rattle.gql_found.specs.Found.{IsReported}
use Rattle.gql_found.specs.declared.edit_check.EditCheck.{EditCheck}
use Rattle.gql_found.specs.declared.edit_check.ShownOperation.{ShownOperation}
use Rattle.gql_found.specs.declared.reported.Reported.{Reported}
use Rattle.gql_found.specs.declared.sources.Sources.{Sources}

-- the items at these places of a list, in the order of the places
abbrev pub at_places : {A : Type 0} → List A → List ℕ → List A
at_places xs places = flat_map (λ i. option_to_list (slice_get xs i)) places

-- an operation that is not served, with the path of its file
abbrev pub shown_in : List TextFile → Affected → ShownOperation
shown_in files a = record {
  kind = a.kind;
  name = a.name;
  file = label_at files a.spot;
  line = a.spot.line;
  column = a.spot.column;
  through = a.through;
}

-- those of what is not served that stand at these places
abbrev pub shown_at : Reported → List ℕ → List ShownOperation
shown_at r places =
    map (shown_in r.found.sources.items) (at_places r.found.affected.items places)

-- What an edit would do, by what is reported before it and what would be reported after it: the
-- number of faults after it; the faults that it brings, which are of the report after it, and those
-- that it mends, of the report before it; the operations that it breaks, as they would be, and those
-- that it heals, as they are.
pub record IsEditCheck (before after : Reported) (c : EditCheck) : Type 0 where
  pub faults : c.faults ≡ length after.faults.items
  pub brought_faults : c.brought.items
      ≡ at_places after.faults.items (brought after.found before.found)
  pub mended_faults : c.mended.items
      ≡ at_places before.faults.items (mended after.found before.found)
  pub breaks : c.breaks.items ≡ shown_at after (broken after.found before.found)
  pub heals : c.heals.items ≡ shown_at before (healed after.found before.found)

-- This is what an edit would do to these files, which have these texts, if it leaves those files,
-- which have those texts.
pub record IsCheckOf (s : Sources) (files : Files) (t : Sources) (left : Files) (c : EditCheck)
    : Type 0 where
  pub before : Reported
  pub after : Reported
  pub present : IsReported s files before
  pub would_be : IsReported t left after
  pub says : IsEditCheck before after c

-- this is what an edit would do, of whatever files with whatever texts these two are reported
abbrev pub IsCheckOfAny : Reported → Reported → EditCheck → Type 0
IsCheckOfAny before after c = (s t : Sources) (files left : Files) → IsReported s files before
    → IsReported t left after → IsCheckOf s files t left c
