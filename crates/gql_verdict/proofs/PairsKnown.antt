-- What is known of pairs of fragments before an edit.
use Rattle.std.specs.Prelude.{◌≡◌, List, false, true, refl}
use Rattle.std.proofs.Common.{sym, ◌∙◌}
use Rattle.gql_facts.specs.Worlds.{Facts}
use Rattle.gql_facts.specs.declared.key.Key.{Key}
use Rattle.gql_facts.specs.declared.key.Key.TheVariants as key
use Rattle.gql_pairs.proofs.Doubting.{held_before}
use Rattle.gql_pairs.specs.Doubts.{AllHoldUndoubted, in_doubt}
use Rattle.gql_pairs.specs.Groups.{KeptGroup}
use Rattle.gql_pairs.specs.declared.doubt.Doubt.{Doubt}
use Rattle.gql_pairs.specs.declared.doubt.Doubt.TheVariants as doubt
use Rattle.gql_verdict.specs.TouchedFacts.{ArePairsKnown, touches}
use Rattle.gql_verdict.specs.declared.touched.FileEdit.{FileEdit}
use Rattle.gql_verdict.specs.declared.touched.SchemaEdit.{SchemaEdit}
use Rattle.gql_verdict.specs.declared.touched.Touched.{Touched}
use Rattle.gql_verdict.specs.declared.touched.Touched.TheVariants as touched

-- the fragments of the edited file are in doubt
pub file_doubt : (edit : FileEdit) (k : Key) → in_doubt (doubt.Fragments edit.fragments) k ≡ touches (touched.File edit) k
file_doubt edit (key.KindOf n) = refl
file_doubt edit (key.FieldOf t n) = refl
file_doubt edit (key.PossibleOf n) = refl
file_doubt edit (key.InputOf n) = refl
file_doubt edit (key.EnumOf n) = refl
file_doubt edit (key.DirectiveOf n) = refl
file_doubt edit (key.RootOf n) = refl
file_doubt edit (key.FragmentOf n) = refl

-- what is known of the types of the edit is in doubt
pub schema_doubt : (edit : SchemaEdit) (k : Key) → in_doubt (doubt.Types edit.types) k ≡ touches (touched.Schema edit) k
schema_doubt edit (key.KindOf n) = refl
schema_doubt edit (key.FieldOf t n) = refl
schema_doubt edit (key.PossibleOf n) = refl
schema_doubt edit (key.InputOf n) = refl
schema_doubt edit (key.EnumOf n) = refl
schema_doubt edit (key.DirectiveOf n) = refl
schema_doubt edit (key.RootOf n) = refl
schema_doubt edit (key.FragmentOf n) = refl

pub known_pairs : (F : Facts) (t : Touched) (pairs : List KeptGroup) → ArePairsKnown F pairs t → (d : Doubt) → ((k : Key) → in_doubt d k ≡ touches t k) → AllHoldUndoubted F d pairs
known_pairs F touched.All pairs known d same = λ g cg x cx o co untouched. let e : true ≡ false = sym (same o.key) ∙ untouched in absurd (cc e)
known_pairs F (touched.File edit) pairs known d same = held_before F known.0 d pairs known.1 (λ k untouched. known.2 k (sym (same k) ∙ untouched))
known_pairs F (touched.Schema edit) pairs known d same = held_before F known.0 d pairs known.1 (λ k untouched. known.2 k (sym (same k) ∙ untouched))
