-- The definitions of document files stand at rising places, after each edit too.
use Rattle.std.proofs.Common.{◌≡◌, inl, inr, ℕ, List, [], ◌∷◌, Bool, true, false, refl, sym, ap, subst, ◌∙◌}
use Rattle.std.specs.Ordering.{is_eq}
use Rattle.std.specs.declared.cmp.Ordering.{Ordering}
use Rattle.std.specs.declared.cmp.Ordering.TheVariants.{Less, Equal, Greater}
use Rattle.std.specs.Cmp.Lexicographic.{texts_ties, told_text}
use Rattle.gql_ast.specs.FileMaps.{name_order, with_file, without_file}
use Rattle.gql_ast.specs.declared.definition.Definition.{Definition}
use Rattle.gql_ast.specs.declared.definition.Document.{Document}
use Rattle.gql_ast.specs.declared.fault.FileSide.{FileSide}
use Rattle.gql_ast.specs.declared.fault.FileSide.TheVariants.{Schema, Documents}
use Rattle.gql_ast.specs.declared.files.Files.{Files}
use Rattle.gql_facts.specs.ListMembers.{Contains-here, Contains-there, Contains-cases}
use Rattle.gql_parse_sdl.specs.Placed as parsed
use Rattle.gql_registry.specs.EditPlans.{IsEditPlanOf, IsEditPlanTo}
use Rattle.gql_verdict.specs.NameViews.{KeepsNamesSound}
use Rattle.gql_registry.specs.Checks.{IsPlacedOn}
use Rattle.gql_registry.specs.Keeping.{IsIndexOf, IsSideOf}
use Rattle.gql_registry.specs.Sides.{with_put, with_removed}
use Rattle.gql_registry.specs.declared.edit_plan.EditPlan.{EditPlan}
use Rattle.gql_verdict.specs.DocumentEdits.{ChangesOnly}
use Rattle.gql_verdict.specs.FileOrder.{ArePlaced, AreFilesPlaced}

abbrev FileList : Type 0
FileList = List (List ℕ × Document)

-- the parser's word for it
pub placed_as : (name : List ℕ) (definitions : List Definition) → parsed.ArePlaced name definitions → ArePlaced name definitions
placed_as name definitions p = record { named = p.named; rising = p.rising }

added : (file : List ℕ × Document) (files : FileList) → ArePlaced file.0 file.1.definitions → AreFilesPlaced files → AreFilesPlaced (file ∷ files)
added file files here all f h = elim (Contains-cases f file files h) [
  | inl e ↦ subst (λ (g : List ℕ × Document). ArePlaced g.0 g.1.definitions) (sym e) here
  | inr t ↦ all f t
]

others : (e : List ℕ × Document) (es : FileList) → AreFilesPlaced (e ∷ es) → AreFilesPlaced es
others e es all f h = all f (Contains-there f e es h)

-- names that compare as equal are one
same_name : (a b : List ℕ) → name_order a b ≡ Equal → a ≡ b
same_name a b is = told_text a b true (sym (texts_ties a b ∙ ap is_eq is))

pub put_placed : (files : FileList) (name : List ℕ) (d : Document) → AreFilesPlaced files → ArePlaced name d.definitions → AreFilesPlaced (with_file files name d)
put_placed [] name d all here = added (name, d) [] here all
put_placed (e ∷ es) name d all here = by (name_order name e.0) refl (put_placed es name d (others e es all) here)
  where
    by : (o : Ordering) → name_order name e.0 ≡ o → AreFilesPlaced (with_file es name d) → AreFilesPlaced (with_file (e ∷ es) name d)
    by Less is rest = rw is (added (name, d) (e ∷ es) here all)
    by Equal is rest = rw is (added (e.0, d) es (subst (λ n. ArePlaced n d.definitions) (same_name name e.0 is) here) (others e es all))
    by Greater is rest = rw is (added e (with_file es name d) (all e (Contains-here e es)) rest)

pub removal_placed : (files : FileList) (name : List ℕ) → AreFilesPlaced files → AreFilesPlaced (without_file files name)
removal_placed [] name all = all
removal_placed (e ∷ es) name all = by (is_eq (name_order name e.0)) refl (removal_placed es name (others e es all))
  where
    by : (b : Bool) → is_eq (name_order name e.0) ≡ b → AreFilesPlaced (without_file es name) → AreFilesPlaced (without_file (e ∷ es) name)
    by true is rest = rw is (others e es all)
    by false is rest = rw is (added e (without_file es name) (all e (Contains-here e es)) rest)

-- after an edit of a side
pub put_placed_on : (side : FileSide) (files : Files) (name : List ℕ) (d : Document) → AreFilesPlaced files.documents → IsPlacedOn side name d → AreFilesPlaced (with_put side files name d).documents
put_placed_on Schema files name d all here = all
put_placed_on Documents files name d all here = put_placed files.documents name d all here

pub removal_placed_on : (side : FileSide) (files : Files) (name : List ℕ) → AreFilesPlaced files.documents → AreFilesPlaced (with_removed side files name).documents
removal_placed_on Schema files name all = all
removal_placed_on Documents files name all = removal_placed files.documents name all

-- the change of an edit can be taken
plan_of : (before after : Files) (c : EditPlan) → AreFilesPlaced after.documents → IsEditPlanTo before after c → IsEditPlanOf before c
plan_of before after c placed to = record {
  placed = subst (λ (f : Files). AreFilesPlaced f.documents) (sym to.files) placed;
  touched = subst (λ (f : Files). ChangesOnly c.touched before f) (sym to.files) to.touched;
  schema = subst (λ (f : Files). IsSideOf f c.schema) (sym to.files) to.schema;
  index = subst (λ (f : Files). IsIndexOf f c.index) (sym to.files) to.index;
  names = λ keeps. subst (λ (f : Files). KeepsNamesSound before f) (sym to.files) (to.names keeps);
}

pub put_plan_of : (side : FileSide) (files : Files) (name : List ℕ) (d : Document) (c : EditPlan) → AreFilesPlaced files.documents → IsPlacedOn side name d → IsEditPlanTo files (with_put side files name d) c → IsEditPlanOf files c
put_plan_of side files name d c all here to = plan_of files _ c (put_placed_on side files name d all here) to

pub removal_plan_of : (side : FileSide) (files : Files) (name : List ℕ) (c : EditPlan) → AreFilesPlaced files.documents → IsEditPlanTo files (with_removed side files name) c → IsEditPlanOf files c
removal_plan_of side files name c all to = plan_of files _ c (removal_placed_on side files name all) to
