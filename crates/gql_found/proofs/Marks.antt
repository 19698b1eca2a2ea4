-- The definitions that own one fault more.
use Rattle.std.proofs.Common.{◌≡◌, ◌<◌, ◌+◌, ◌∙◌, ◌||◌, ℕ, List, [], ◌∷◌, Bool, true, false, Some, cond, length, take, get_or, ap, sym, refl}
use Rattle.std.specs.BTreeMap.{is_at as is_key}
use Rattle.std.specs.Cmp.{both_tied, unsigned_ties}
use Rattle.std.specs.Cmp.Lexicographic.{texts_ties}
use Rattle.std.specs.Ordering.{nat_cmp}
use Rattle.std.proofs.lemmas.List.Folds.{list_any-append}
use Rattle.gql_ast.specs.FileMaps.{name_order}
use Rattle.gql_ast.specs.Trees as trees
use Rattle.gql_ast.specs.declared.definition.Definition.{Definition}
use Rattle.gql_ast.specs.declared.fault.Fault.{Fault}
use Rattle.gql_ast.specs.declared.fault.FilePlace.{FilePlace}
use Rattle.gql_found.proofs.Lists.{take_next}
use Rattle.gql_found.specs.Owners.{is_at, is_at_owner, is_owned_by, is_owner}
use Rattle.gql_found.specs.Steps.{mark_of, mark_order}

-- the key of a place is that of the definition that is there
pub same_mark : (p : FilePlace) (d : Definition) → is_key (mark_order (p.file, p.place.offset)) (mark_of d) ≡ is_at p d
same_mark p d =
    sym (both_tied _ _ (name_order p.file d.file) (nat_cmp p.place.offset (trees.place_of d.tree).offset) (texts_ties p.file d.file) (unsigned_ties p.place.offset (trees.place_of d.tree).offset))

or_cond : (a b : Bool) → (a || (b || false)) ≡ cond b true a
or_cond true true = refl
or_cond true false = refl
or_cond false true = refl
or_cond false false = refl

-- with one fault more, its owner is one more
pub owner_more : (faults : List Fault) (i : ℕ) (f : Fault) → i < length faults → f ≡ get_or faults i f → (d : Definition) (old new : Bool)
    → new ≡ cond (is_owned_by d f) true old → old ≡ is_owner (take i faults) d → new ≡ is_owner (take (i + 1) faults) d
owner_more faults i f within is d old new updates before =
    updates ∙ ap (cond (is_owned_by d f) true) before ∙ sym (or_cond (is_owner (take i faults) d) (is_owned_by d f))
    ∙ sym (list_any-append (is_owned_by d) (take i faults) (f ∷ []))
    ∙ ap (λ xs. is_owner xs d) (sym (take_next faults i f within is))

-- the owner of a fault is added
pub owner_added : (f : Fault) (p : FilePlace) → f.owner ≡ Some p → (file : List ℕ) → file ≡ p.file → (d : Definition) (old new : Bool)
    → new ≡ cond (is_key (mark_order (file, p.place.offset)) (mark_of d)) true old → new ≡ cond (is_owned_by d f) true old
owner_added f p is file same d old new updates =
    updates ∙ ap (λ x. cond (is_key (mark_order (x, p.place.offset)) (mark_of d)) true old) same
    ∙ ap (λ b. cond b true old) (same_mark p d ∙ sym (ap (λ o. is_at_owner o d) is))
