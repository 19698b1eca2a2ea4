-- Helper definitions for private contracts: the lists and objects around the part of a value that
-- is copied.
use Rattle.std.specs.Prelude.{List, [], ◌∷◌, ◌++◌, String, map, string_bytes}
use Rattle.std.specs.Global.{Global}
use Rattle.serde_json.specs.Data as json
use Rattle.serde_json.specs.Data.{Data, Members, put}
use Rattle.serde_json.specs.View.{view, items_of, members_view}
use Rattle.serde_json.specs.declared.value.Value.{Value}
use Rattle.gql_coerce.specs.declared.copies.CopyFrame.{CopyFrame}
use Rattle.gql_coerce.specs.declared.copies.CopyFrame.TheVariants as frame
use Rattle.gql_coerce.specs.declared.copies.CopyStep.{CopyStep}
use Rattle.gql_coerce.specs.declared.copies.CopyStep.TheVariants as step

-- the members of an object, with these put one after the other
abbrev pub put_each : List (String Global × Value) → Members → Members
put_each [] ms = ms
put_each (e ∷ es) ms = put_each es (put (string_bytes e.0) (view e.1) ms)

-- a list or an object, with this as the part that is being copied
abbrev pub frame_with : CopyFrame → Data → Data
frame_with (frame.Items rest copies) d =
    json.array (items_of (map view copies ++ d ∷ map view rest.now))
frame_with (frame.Members name rest copies) d =
    json.object (put_each rest (put (string_bytes name.now) d (members_view copies)))

-- the outermost list or object, with this as the part in the innermost one
abbrev pub within_frames : List CopyFrame → Data → Data
within_frames [] d = d
within_frames (f ∷ fs) d = within_frames fs (frame_with f d)

-- what a step copies
abbrev pub copied_by : CopyStep → Data
copied_by (step.Within f v) = frame_with f (view v.now)
copied_by (step.Copied c) = view c
