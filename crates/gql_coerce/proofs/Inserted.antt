-- A member that is inserted is put.
use Rattle.std.proofs.Common.{◌≡◌, List, String, Global, string_bytes, string_cmp}
use Rattle.std.specs.BTreeMap.{insert_entry}
use Rattle.serde_json.proofs.Views.{members_view-insert_entry}
use Rattle.serde_json.specs.Data.{put}
use Rattle.serde_json.specs.View.{view, members_view}
use Rattle.serde_json.specs.declared.value.Value.{Value}

pub inserted : (es : List (String Global × Value)) (k : String Global) (v : Value) → members_view (insert_entry string_cmp es k v) ≡ put (string_bytes k) (view v) (members_view es)
inserted es k v = members_view-insert_entry es k v
