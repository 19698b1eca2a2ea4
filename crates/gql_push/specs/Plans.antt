-- What a push puts and removes, and what is pushed after it.
use Rattle.std.specs.Prelude.{ℕ, ◌++◌, List, [], Bool, false, ◌||◌, not, Option, None, bytes_eq, codes, filter, find, map, option_map, slice_get, string_bytes, unwrap_or, if◌then◌else◌}
use Rattle.std.specs.List.{enumerate_from, filter_map, list_any}
use Rattle.gql_push.specs.Resources.{Entry}
use Rattle.gql_push.specs.declared.edits.Edit.{Edit}
use Rattle.gql_push.specs.declared.edits.Edit.TheVariants as edit

-- an edit of a push: the file of the resource at an index is put, the file of a target is removed,
-- or the data are put in their first state, an empty object
pub data Change : Type 0 where
  put : ℕ → Change
  remove : List ℕ → Change
  empty_data : Change

-- the change that an edit is
abbrev pub change_of : Edit → Change
change_of (edit.Put at) = put at
change_of (edit.Remove target) = remove (string_bytes target)
change_of edit.EmptyData = empty_data

-- the changes that edits are
abbrev pub changes_of : List Edit → List Change
changes_of = map change_of

-- whether this is the target of a resource
abbrev pub is_of : List ℕ → Entry → Bool
is_of target e = bytes_eq e.target target

-- whether a resource was pushed as it is: the first of its target among the pushed ones has its sum
abbrev pub is_pushed : List Entry → Entry → Bool
is_pushed pushed e =
    unwrap_or (option_map (λ b. bytes_eq b.sum e.sum) (find (is_of e.target) pushed)) false

-- whether a resource is to be put: with `all` each one, and else those that were not pushed as they
-- are
abbrev pub is_to_put : Bool → List Entry → Entry → Bool
is_to_put all pushed e = all || not (is_pushed pushed e)

-- the puts of a push: one for each resource that is to be put, in their order
abbrev pub puts : Bool → List Entry → List Entry → List Change
puts all resources pushed =
    map (λ p. put p.0) (filter (λ p. is_to_put all pushed p.1) (enumerate_from 0 resources))

-- how a target goes: a file is removed, and the data become an empty object
abbrev pub removal_of : List ℕ → Change
removal_of target = if bytes_eq target (codes "data") then empty_data else remove target

-- whether a pushed resource is gone: none of the folder's has its target
abbrev pub is_gone : List Entry → Entry → Bool
is_gone resources before = not (list_any (is_of before.target) resources)

-- the removals of a push: one for each pushed resource that is gone, in their order
abbrev pub removals : List Entry → List Entry → List Change
removals resources pushed = map (λ e. removal_of e.target) (filter (is_gone resources) pushed)

-- what a push of these resources puts and removes, if those were pushed before
abbrev pub planned : List Entry → List Entry → Bool → List Change
planned resources pushed all = puts all resources pushed ++ removals resources pushed

-- the target that a change changes, where the resources of the push are these; empty for a put of
-- none of them
abbrev pub target_of : List Entry → Change → List ℕ
target_of resources (put at) = unwrap_or (option_map (λ e. e.target) (slice_get resources at)) []
target_of resources (remove target) = target
target_of resources empty_data = codes "data"

-- whether one of these changes is of this target
abbrev pub is_changed : List Entry → List Change → List ℕ → Bool
is_changed resources made target = list_any (λ c. bytes_eq (target_of resources c) target) made

-- the resource that a change puts, if it puts one
abbrev pub put_by : List Entry → Change → Option Entry
put_by resources (put at) = slice_get resources at
put_by resources (remove target) = None
put_by resources empty_data = None

-- the resources pushed before whose targets no change of these changes, in their order
abbrev pub kept : List Entry → List Entry → List Change → List Entry
kept resources pushed made = filter (λ e. not (is_changed resources made e.target)) pushed

-- the resources that these changes put, in their order
abbrev pub put_among : List Entry → List Change → List Entry
put_among resources made = filter_map (put_by resources) made

-- what is pushed after these changes were made: the resources pushed before whose targets they do
-- not change, and then those that they put
abbrev pub after : List Entry → List Entry → List Change → List Entry
after resources pushed made = kept resources pushed made ++ put_among resources made

-- these resources with a sum that no file has, so that each is to be put again
abbrev pub put_again : List Entry → List Entry
put_again = map (λ (e : Entry). record e { sum = codes "-" })
