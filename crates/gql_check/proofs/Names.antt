-- The names of the files of a folder.
use Rattle.std.proofs.Common.{◌≡◌, ◌<◌, ◌+◌, ◌∙◌, ◌&&◌, ℕ, List, [], ◌∷◌, ◌++◌, Bool, true, false, cond, Option, Some, None, length, take, get_or, refl, sym, subst, ap}
use Rattle.std.specs.Prelude.{bytes_eq, find, option_map}
use Rattle.std.specs.List.{AllZip}
use Rattle.std.specs.Option.{option_or}
use Rattle.std.proofs.lemmas.List.Folds.{find-append}
use Rattle.gql_ast.specs.declared.fault.FileSide.{FileSide}
use Rattle.gql_ast.specs.declared.fault.FileSide.TheVariants.{Schema, Documents}
use Rattle.gql_check.proofs.Lists.{take_next}
use Rattle.gql_check.specs.GivenSources.{AreSources, IsSource, index_in, named_on}
use Rattle.gql_check.specs.Steps.{AreNamedAll, index_among}
use Rattle.gql_folder.specs.declared.folder.Folder.{Folder}
use Rattle.gql_folder.specs.declared.folder.GivenFile.{GivenFile}
use Rattle.gql_folder.specs.declared.folder.NamedFile.{NamedFile}
use Rattle.gql_found.specs.Spots.{HasNoNames, HaveSameNames, IsNamed, files_of, index_by, index_of, same_side}
use Rattle.gql_found.specs.declared.sources.Sources.{Sources}

-- with a file after these, its name has its index, if none of these has that name
in_more : (xs : List NamedFile) (f : NamedFile) (q : List ℕ) → index_in (xs ++ f ∷ []) q ≡ option_or (index_in xs q) (cond (bytes_eq f.name q) (Some f.at) None)
in_more xs f q = ap (option_map (λ (g : NamedFile). g.at)) (find-append has xs (f ∷ [])) ∙ by (bytes_eq f.name q) (find has xs) refl
  where
    has : NamedFile → Bool
    has g = bytes_eq g.name q

    by : (b : Bool) (r : Option NamedFile) → bytes_eq f.name q ≡ b
        → option_map (λ (g : NamedFile). g.at) (option_or r (find has (f ∷ []))) ≡ option_or (option_map (λ (g : NamedFile). g.at) r) (cond b (Some f.at) None)
    by true None e = ap (λ b. option_map (λ (g : NamedFile). g.at) (cond b (Some f) None)) e
    by false None e = ap (λ b. option_map (λ (g : NamedFile). g.at) (cond b (Some f) None)) e
    by true (Some g) e = refl
    by false (Some g) e = refl

none_after : (x : Option ℕ) → x ≡ option_or x None
none_after None = refl
none_after (Some v) = refl

-- a choice among the files so far, and then the file
chosen : (s b : Bool) (x y : Option ℕ) (v : ℕ) → option_or (option_or x (cond s y None)) (cond (s && b) (Some v) None) ≡ option_or x (cond s (option_or y (cond b (Some v) None)) None)
chosen true b None y v = refl
chosen true b (Some n) y v = refl
chosen false b None y v = refl
chosen false b (Some n) y v = refl

-- the names of one file more have their indices
pub names_more : (side : FileSide) (named : List NamedFile) (i : ℕ) (f : NamedFile) → i < length named → f ≡ get_or named i f → (name : List ℕ) → name ≡ f.name → (initial old new : Sources)
    → AreNamedAll side (take i named) initial old → IsNamed side name f.at old new → AreNamedAll side (take (i + 1) named) initial new
names_more side named i f within is name same initial old new before now other q =
    now other q
    ∙ ap (λ n. option_or (index_of old other q) (index_by side n f.at other q)) same
    ∙ ap (λ o. option_or o (index_by side f.name f.at other q)) (before other q)
    ∙ chosen (same_side side other) (bytes_eq f.name q) (index_of initial other q) (index_in (take i named) q) f.at
    ∙ ap (λ o. option_or (index_of initial other q) (cond (same_side side other) o None)) (sym (in_more (take i named) f q))
    ∙ ap (λ xs. option_or (index_of initial other q) (index_among side xs other q)) (sym (take_next named i f within is))

-- no file is named so far
pub none_named : (side : FileSide) (s : Sources) → AreNamedAll side [] s s
none_named side s other q = by (same_side side other) (index_of s other q)
  where
    by : (b : Bool) (x : Option ℕ) → x ≡ option_or x (cond b (option_map (λ (g : NamedFile). g.at) (find (λ (g : NamedFile). bytes_eq g.name q) [])) None)
    by true x = none_after x
    by false x = none_after x

-- the files given, under their names
pub gathered : (label : List ℕ) (given : List GivenFile) (f : Folder) (a b c d : Sources) → HasNoNames a → AllZip (IsSource label) given (files_of b) → HaveSameNames a b
    → files_of c ≡ files_of b → AreNamedAll Schema f.schema.items b c → files_of d ≡ files_of c → AreNamedAll Documents f.documents.items c d → AreSources label given f d
gathered label given f a b c d empty listed same as_b schema as_c documents = record {
  listed = subst (AllZip (IsSource label) given) (sym (as_c ∙ as_b)) listed;
  names = names;
}
  where
    none : (side : FileSide) (q : List ℕ) → index_of b side q ≡ None
    none side q = same side q ∙ empty side q

    names : (side : FileSide) (q : List ℕ) → index_of d side q ≡ index_in (named_on side f) q
    names Schema q = documents Schema q ∙ sym (none_after (index_of c Schema q)) ∙ schema Schema q ∙ ap (λ o. option_or o (index_in f.schema.items q)) (none Schema q)
    names Documents q =
        documents Documents q
        ∙ ap (λ o. option_or o (index_in f.documents.items q)) (schema Documents q ∙ sym (none_after (index_of b Documents q)) ∙ none Documents q)
