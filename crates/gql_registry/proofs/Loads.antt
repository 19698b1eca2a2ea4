-- Changes that are put together, before they are taken.
use Rattle.std.proofs.Common.{◌≡◌, ℕ, List, true, refl, sym, ap, subst}
use Rattle.std.specs.Prelude.{IsUtf8}
use Rattle.gql_ast.specs.declared.fault.FileSide.{FileSide}
use Rattle.gql_ast.specs.declared.files.Files.{Files}
use Rattle.gql_registry.specs.DataBodies.{IsDataText, is_data}
use Rattle.gql_registry.specs.Edits.{put, remove, put_data, set_data}
use Rattle.gql_registry.specs.Working.{IsFilePut, IsFileRemoved, Takes, state_over}
use Rattle.gql_registry.proofs.FirstRefusals.{data_accepted, value_accepted}
use Rattle.gql_registry.proofs.PlacedFiles.{put_placed_on, removal_placed_on}
use Rattle.gql_verdict.specs.FileOrder.{AreFilesPlaced}
use Rattle.serde_json.specs.Data.{Data}

-- a file that is put
pub file_puts : (side : FileSide) (name bytes : List ℕ) (before after : Files) (stored : Data) (n : ℕ) → IsFilePut side name bytes before after
    → Takes (state_over before stored n) (put side name bytes) (state_over after stored n)
file_puts side name bytes before after stored n p = (
  p.accepted (state_over before stored n) refl,
  (p.document, p.file, ap (λ (f : Files). state_over f stored n) p.is),
)

-- a file that is removed
pub file_removed : (side : FileSide) (name : List ℕ) (before after : Files) (stored : Data) (n : ℕ) → IsFileRemoved side name before after
    → Takes (state_over before stored n) (remove side name) (state_over after stored n)
file_removed side name before after stored n p =
    (p.accepted (state_over before stored n) refl, ap (λ (f : Files). state_over f stored n) p.is)

-- the definitions stay in order
pub file_placed : (side : FileSide) (name bytes : List ℕ) (before after : Files) → IsFilePut side name bytes before after → AreFilesPlaced before.documents → AreFilesPlaced after.documents
file_placed side name bytes before after p all =
    subst (λ (f : Files). AreFilesPlaced f.documents) (sym p.is) (put_placed_on side before name p.document all p.placed)

pub left_placed : (side : FileSide) (name : List ℕ) (before after : Files) → IsFileRemoved side name before after → AreFilesPlaced before.documents → AreFilesPlaced after.documents
left_placed side name before after p all =
    subst (λ (f : Files). AreFilesPlaced f.documents) (sym p.is) (removal_placed_on side before name all)

-- data that are put, as a text and as a value
pub data_puts : (files : Files) (stored : Data) (n : ℕ) (bytes : List ℕ) (d : Data) → IsUtf8 bytes → IsDataText files.profile bytes d
    → Takes (state_over files stored n) (put_data bytes) (state_over files d n)
data_puts files stored n bytes d text is = (data_accepted (state_over files stored n) bytes d text is, (d, is, refl))

pub value_puts : (files : Files) (stored : Data) (n : ℕ) (d : Data) → is_data files.profile d ≡ true
    → Takes (state_over files stored n) (set_data d) (state_over files d n)
value_puts files stored n d is = (value_accepted (state_over files stored n) d is, refl)
