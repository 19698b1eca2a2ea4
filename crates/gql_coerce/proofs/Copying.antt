-- Copies of a list or an object, one part after the other.
use Rattle.std.proofs.Common.{◌≡◌, List, [], ◌∷◌, ◌++◌, map, reverse, sym, ap, subst, ◌∙◌, append_assoc, append-nil, string_cmp}
use Rattle.std.proofs.lemmas.List.{map-append, reverse-append}
use Rattle.std.specs.List.Sorted.{IsStrictlySortedBy}
use Rattle.std.specs.Map.{keys_of}
use Rattle.serde_json.specs.Data as json
use Rattle.serde_json.specs.Data.{Data}
use Rattle.serde_json.specs.View.{view, items_of, items_view, members_view}
use Rattle.serde_json.specs.declared.value.Value.{Value}
use Rattle.serde_json.proofs.Views.{Entry, put_last}
use Rattle.gql_coerce.specs.Copies.{put_each, frame_with, within_frames}
use Rattle.gql_coerce.specs.declared.copies.CopyFrame.{CopyFrame}

-- members that are put in the order of their names are the members
put_after : (done es : List Entry) → IsStrictlySortedBy string_cmp (keys_of (done ++ es)) → put_each es (members_view done) ≡ members_view (done ++ es)
put_after done [] sorted = ap members_view (sym (append-nil done))
put_after done (e ∷ es) sorted = ap (put_each es) (put_last done e es sorted)
    ∙ put_after (done ++ e ∷ []) es (subst (λ all. IsStrictlySortedBy string_cmp (keys_of all)) (sym (append_assoc done (e ∷ []) es)) sorted)
    ∙ ap members_view (append_assoc done (e ∷ []) es)

pub put_all_members : (es : List Entry) → IsStrictlySortedBy string_cmp (keys_of es) → put_each es json.no_members ≡ members_view es
put_all_members es sorted = put_after [] es sorted

-- one item more is copied
pub item_copied : (old new rest : List Value) (v : Value) (d : Data) → new ≡ old ++ v ∷ [] → view v ≡ d
    → items_of (map view old ++ d ∷ map view rest) ≡ items_view (new ++ rest)
item_copied old new rest v d is copy = ap (λ e. items_of (map view old ++ e ∷ map view rest)) (sym copy)
    ∙ ap items_of (sym (map-append view old (v ∷ rest)))
    ∙ ap items_view (sym (append_assoc old (v ∷ []) rest) ∙ ap (λ vs. vs ++ rest) (sym is))

-- the next item is to be copied
pub item_taken : (old items rest : List Value) (v : Value) → items ≡ v ∷ rest
    → items_view (old ++ items) ≡ items_of (map view old ++ view v ∷ map view rest)
item_taken old items rest v is = ap (λ vs. items_view (old ++ vs)) is ∙ ap items_of (map-append view old (v ∷ rest))

-- one frame more on the stack
pub one_frame_more : (fs : List CopyFrame) (f : CopyFrame) (d : Data) → within_frames (reverse (fs ++ f ∷ [])) d ≡ within_frames (reverse fs) (frame_with f d)
one_frame_more fs f d = ap (λ gs. within_frames gs d) (reverse-append fs (f ∷ []))

module _ (whole : Data) (old new : List CopyFrame) (f : CopyFrame) (d e : Data) where
  -- a part of the list or object f is to be copied
  pub part_entered : whole ≡ within_frames (reverse old) (frame_with f d) → new ≡ old ++ f ∷ [] → d ≡ e → whole ≡ within_frames (reverse new) e
  part_entered before is part = before ∙ sym (one_frame_more old f d) ∙ ap (λ fs. within_frames (reverse fs) d) (sym is) ∙ ap (within_frames (reverse new)) part

  -- a part of the list or object f is copied
  pub part_copied : whole ≡ within_frames (reverse old) d → old ≡ new ++ f ∷ [] → frame_with f d ≡ e → whole ≡ within_frames (reverse new) e
  part_copied before is next = before ∙ ap (λ fs. within_frames (reverse fs) d) is ∙ one_frame_more new f d ∙ ap (within_frames (reverse new)) next
