-- The names of the files of a folder, one after the other.
use Rattle.std.proofs.Common.{◌≡◌, ◌<◌, ◌≤◌, ◌+◌, ◌∙◌, ◌⊎◌, inl, inr, [], ◌∷◌, ℕ, List, Bool, true, false, true≢false, Option, Some, None, IsSome, MatchOption, Contains, refl, sym, ap, subst, cond, bytes_eq, arith, length, take, get_or, slice_get, string_bytes, Bor}
use Rattle.std.specs.BTreeMap.{BTreeMap, Updates, IsEmpty}
use Rattle.std.specs.Map.{lookup}
use Rattle.std.specs.Ordering.{nat_cmp, is_eq}
use Rattle.std.specs.Cmp.Lexicographic.{slice_cmp}
use Rattle.std.proofs.lemmas.Bool.{cases_lt}
use Rattle.std.proofs.lemmas.List.{take_all, take_more}
use Rattle.std.proofs.lemmas.List.Elements.{Contains-push_cases}
use Rattle.std.specs.Option.{option_copied}
use Rattle.std.proofs.lemmas.Map.Text.{is_eq-slice_cmp}
use Rattle.std.proofs.lemmas.Option.{slice_get-get_or, get_or_from_slice_get}
use Rattle.std.proofs.lemmas.Slice.Eq.{bytes_eq-Decides}
use Rattle.gql_ast.specs.declared.fault.FileSide.{FileSide}
use Rattle.gql_ast.specs.declared.fault.FileSide.TheVariants.{Schema, Documents}
use Rattle.gql_folder.specs.Roles.{role_at}
use Rattle.gql_folder.specs.declared.folder.GivenFile.{GivenFile}
use Rattle.gql_folder.specs.declared.role.Role.{Role}
use Rattle.gql_folder.specs.declared.role.Role.TheVariants as role
use Rattle.gql_manifest.specs.Joining.{AddsName, AreAllNames, AreApart, AreNames, IsFree, IsJoinFault, IsNamedAt, IsTaken, SaysClash, index_in, index_of}
use Rattle.gql_manifest.specs.declared.fault.ManifestFault.{ManifestFault}
use Rattle.gql_manifest.specs.declared.files.MadeFile.{MadeFile}
use Rattle.gql_manifest.specs.declared.joined.FolderNames.{FolderNames}

some_file : (f g : GivenFile) → Some f ≡ Some g → f ≡ g
some_file f g is = cc is

some_index : (i j : ℕ) → Some i ≡ Some j → i ≡ j
some_index i j is = cc is

none_some : {X : Type 0} (x : X) → None ≡ Some x → ⊥
none_some x is = cc is

one_name : (s t : FileSide) (m n : List ℕ) → role.File s m ≡ role.File t n → m ≡ n
one_name s t m n is = cc is

one_side : (s t : FileSide) (m n : List ℕ) → role.File s m ≡ role.File t n → s ≡ t
one_side s t m n is = cc is

-- below one more
below_or_here : (i at : ℕ) → i < at + 1 → (i < at) ⊎ (i ≡ at)
below_or_here i at h = elim (cases_lt i at) [
  | inl low ↦ inl low
  | inr high ↦ let e : i ≡ at = omega arith in inr e
]

is_some_none : {X : Type 0} (o : Option X) → IsSome o → o ≡ None → ⊥
is_some_none (Some x) some is = none_some x (sym is)
is_some_none None some is = true≢false (sym some)

data_no_file : (s : FileSide) (n : List ℕ) → role.Data ≡ role.File s n → ⊥
data_no_file s n is = cc is

misnamed_no_file : (s : FileSide) (n : List ℕ) → role.Misnamed ≡ role.File s n → ⊥
misnamed_no_file s n is = cc is

other_no_file : (s : FileSide) (n : List ℕ) → role.Other ≡ role.File s n → ⊥
other_no_file s n is = cc is

-- there is a file at an index below the length
none_at : (files : List GivenFile) (i : ℕ) → i < length files → slice_get files i ≡ None → ⊥
none_at [] i within none = omega (arith, within)
none_at (f ∷ files) i within none = none_some (get_or (f ∷ files) i f) (sym none ∙ slice_get-get_or (f ∷ files) i f within)

module _ (most : ℕ) where
  -- the file at an index has one role
  one_file : (files : List GivenFile) (at : ℕ) (f g : GivenFile) → slice_get files at ≡ Some f → slice_get files at ≡ Some g → role_at most (string_bytes f.path) ≡ role_at most (string_bytes g.path)
  one_file files at f g a b = ap (λ (h : GivenFile). role_at most (string_bytes h.path)) (some_file f g (sym a ∙ b))

  -- no file, and no name
  pub names_none : (side : FileSide) (files : List GivenFile) (m : BTreeMap (List ℕ) ℕ) → IsEmpty m → AreNames most side files 0 m
  names_none side files m empty = record {
    each = λ name at is. absurd (none_some at (sym (ap (lookup (λ q. is_eq (slice_cmp nat_cmp name q))) empty) ∙ is));
    all = λ name at low has. absurd (omega (arith, low));
  }

  -- what an update leaves under a name
  after : (old new : BTreeMap (List ℕ) ℕ) (name : List ℕ) (at : ℕ) → Updates (slice_cmp nat_cmp) old new name (Some at) → (q : List ℕ)
      → index_of new q ≡ cond (bytes_eq name q) (Some at) (index_of old q)
  after old new name at up q = up.0 q ∙ ap (λ b. cond b (Some at) (index_of old q)) (is_eq-slice_cmp name q)

  -- one more file of the side
  pub names_more : (side : FileSide) (files : List GivenFile) (count : ℕ) (old new : BTreeMap (List ℕ) ℕ) (name : List ℕ) (f : GivenFile) → AreNames most side files count old
      → slice_get files count ≡ Some f → role_at most (string_bytes f.path) ≡ role.File side name → Updates (slice_cmp nat_cmp) old new name (Some count) → AreNames most side files (count + 1) new
  names_more side files count old new name f names there is up = record { each = each; all = all }
    where
      each : (q : List ℕ) (at : ℕ) → index_of new q ≡ Some at → (at < count + 1) × IsNamedAt most side files q at
      each q at found = by (bytes_eq name q) refl
        where
          by : (b : Bool) → bytes_eq name q ≡ b → (at < count + 1) × IsNamedAt most side files q at
          by true same =
              let here : count ≡ at = some_index count at (sym (ap (λ b. cond b (Some count) (index_of old q)) same) ∙ sym (after old new name count up q) ∙ found) in
              let key : name ≡ q = (bytes_eq-Decides name q).0 same in
              (omega (arith, here), (f, subst (λ i. slice_get files i ≡ Some f) here there, is ∙ ap (role.File side) key))
          by false other =
              let before : (at < count) × IsNamedAt most side files q at = names.each q at (sym (ap (λ b. cond b (Some count) (index_of old q)) other) ∙ sym (after old new name count up q) ∙ found) in
              (omega (arith, before.0), before.1)

      all : (q : List ℕ) (at : ℕ) → at < count + 1 → IsNamedAt most side files q at → IsSome (index_of new q)
      all q at low has = by (bytes_eq name q) refl
        where
          by : (b : Bool) → bytes_eq name q ≡ b → IsSome (index_of new q)
          by true same = subst IsSome (sym (after old new name count up q ∙ ap (λ b. cond b (Some count) (index_of old q)) same)) refl
          by false other = elim (below_or_here at count low) [
            | inl below ↦ subst IsSome (sym (after old new name count up q ∙ ap (λ b. cond b (Some count) (index_of old q)) other)) (names.all q at below has)
            | inr here ↦
                let roles : role.File side name ≡ role.File side q =
                sym is ∙ one_file files count f has.0 there (subst (λ i. slice_get files i ≡ Some has.0) here has.1) ∙ has.2 in
                absurd (true≢false (sym ((bytes_eq-Decides name q).1 (one_name side side name q roles)) ∙ other))
          ]

  -- one more file that is none of the side
  pub names_same : (side : FileSide) (files : List GivenFile) (count : ℕ) (names : BTreeMap (List ℕ) ℕ) (f : GivenFile) → AreNames most side files count names → slice_get files count ≡ Some f
      → ((name : List ℕ) → role_at most (string_bytes f.path) ≡ role.File side name → ⊥) → AreNames most side files (count + 1) names
  names_same side files count names f old there other = record {
    each = λ name at is. let e : (at < count) × IsNamedAt most side files name at = old.each name at is in (omega (arith, e.0), e.1);
    all = λ name at low has. elim (below_or_here at count low) [
      | inl below ↦ old.all name at below has
      | inr here ↦ absurd (other name (one_file files count f has.0 there (subst (λ i. slice_get files i ≡ Some has.0) here has.1) ∙ has.2))
    ];
  }

  -- the names with that of one more file
  pub names_step : (side : FileSide) (files : List GivenFile) (count : ℕ) (old new : BTreeMap (List ℕ) ℕ) (f : GivenFile) (path : List ℕ) → AreNames most side files count old → count < length files
      → f ≡ get_or files count f → path ≡ string_bytes f.path → AddsName most side path count old new → AreNames most side files (count + 1) new
  names_step side files count old new f path names within is its_path adds =
      let there : slice_get files count ≡ Some f = slice_get-get_or files count f within ∙ ap Some (sym is) in
      elim adds [
        | inl none ↦ subst (AreNames most side files (count + 1)) (sym none.1) (names_same side files count old f names there (λ name has. none.0 name (ap (role_at most) its_path ∙ has)))
        | inr one ↦ names_more side files count old new one.0 f names there (sym (ap (role_at most) its_path) ∙ one.1) one.2
      ]

  -- where no file of a side has the name, none has it at all
  free_on : (side : FileSide) (files : List GivenFile) (names : BTreeMap (List ℕ) ℕ) (path name : List ℕ) → AreNames most side files (length files) names → role_at most path ≡ role.File side name
      → index_of names name ≡ None → IsFree most files path
  free_on side files names path name are is none f has one =
      let same : role.File one.0 one.1 ≡ role.File side name = sym one.3 ∙ is in
      let there : slice_get files has.0 ≡ Some f = slice_get-get_or files has.0 f has.1 ∙ ap Some has.2 in
      let named : role_at most (string_bytes f.path) ≡ role.File side name = one.2 ∙ same in
      is_some_none (index_of names name) (are.all name has.0 has.1 (f, there, named)) none

  -- where a file of a side has the name, it is taken
  taken_on : (side : FileSide) (files : List GivenFile) (names : BTreeMap (List ℕ) ℕ) (path name : List ℕ) (at : ℕ) (f : GivenFile) → AreNames most side files (length files) names
      → role_at most path ≡ role.File side name → index_of names name ≡ Some at → slice_get files at ≡ Some f → IsTaken most files path f
  taken_on side files names path name at f are is found there =
      let named : (at < length files) × IsNamedAt most side files name at = are.each name at found in
      let mine : role_at most (string_bytes f.path) ≡ role.File side name = one_file files at f named.1.0 there named.1.1 ∙ named.1.2 in
      ((at, named.0, get_or_from_slice_get files at f f there), (side, name, mine, is))

  -- where a file of the folder has the name of the file at a path, it is taken
  taken : (files : List GivenFile) (names : FolderNames) (path : List ℕ) (at : ℕ) (f : GivenFile) → AreAllNames most files names → index_in names (role_at most path) ≡ Some at → slice_get files at ≡ Some f
      → IsTaken most files path f
  taken files names path at f are found there = by (role_at most path) refl found
    where
      by : (r : Role) → role_at most path ≡ r → index_in names r ≡ Some at → IsTaken most files path f
      by (role.File Schema name) is has = taken_on Schema files names.schema path name at f are.schema is has there
      by (role.File Documents name) is has = taken_on Documents files names.documents path name at f are.documents is has there
      by role.Data is has = absurd (none_some at has)
      by role.Misnamed is has = absurd (none_some at has)
      by role.Other is has = absurd (none_some at has)

  -- the index of such a file is one of the folder
  index_within : (files : List GivenFile) (names : FolderNames) (path : List ℕ) (at : ℕ) → AreAllNames most files names → index_in names (role_at most path) ≡ Some at → at < length files
  index_within files names path at are found = by (role_at most path) found
    where
      by : (r : Role) → index_in names r ≡ Some at → at < length files
      by (role.File Schema name) has = (are.schema.each name at has).0
      by (role.File Documents name) has = (are.documents.each name at has).0
      by role.Data has = absurd (none_some at has)
      by role.Misnamed has = absurd (none_some at has)
      by role.Other has = absurd (none_some at has)

  -- a path of another role has no name
  no_name : (files : List GivenFile) (path : List ℕ) (r : Role) → role_at most path ≡ r → ((s : FileSide) (n : List ℕ) → r ≡ role.File s n → ⊥) → IsFree most files path
  no_name files path r is other = λ f has one. other one.0 one.1 (sym is ∙ one.3)

  -- where none is found, the name is free
  pub free : (files : List GivenFile) (names : FolderNames) (path : List ℕ) → AreAllNames most files names → index_in names (role_at most path) ≡ None → IsFree most files path
  free files names path are none = by (role_at most path) refl none
    where
      by : (r : Role) → role_at most path ≡ r → index_in names r ≡ None → IsFree most files path
      by (role.File Schema name) is has = free_on Schema files names.schema path name are.schema is has
      by (role.File Documents name) is has = free_on Documents files names.documents path name are.documents is has
      by role.Data is has = no_name files path role.Data is data_no_file
      by role.Misnamed is has = no_name files path role.Misnamed is misnamed_no_file
      by role.Other is has = no_name files path role.Other is other_no_file

  -- the file that is found has the name
  pub named : (files : List GivenFile) (names : FolderNames) (path : List ℕ) (at : ℕ) (r : Option (Bor GivenFile)) → AreAllNames most files names → index_in names (role_at most path) ≡ Some at
      → option_copied r ≡ slice_get files at → MatchOption r (IsFree most files path) (λ file. IsTaken most files path file.now)
  named files names path at (Some file) are found there = taken files names path at file.now are found (sym there)
  named files names path at None are found there = absurd (none_at files at (index_within files names path at are found) (sym there))

  -- the fault of a made file whose name is taken
  pub join_fault : (files : List GivenFile) (made : List MadeFile) (i : ℕ) (one : MadeFile) (f : GivenFile) (path : List ℕ) (fault : ManifestFault) → i < length made → one ≡ get_or made i one
      → path ≡ string_bytes one.file.path → IsTaken most files path f → SaysClash (string_bytes one.file.path) (string_bytes one.source) fault → IsJoinFault most files made files fault
  join_fault files made i one f path fault within is its has says = inr (refl, (f, one, (i, within, sym is), subst (λ p. IsTaken most files p f) its has, says))

  -- one more made file whose name is free
  pub apart_more : (files : List GivenFile) (made : List MadeFile) (i : ℕ) (one : MadeFile) (path : List ℕ) → AreApart most files (take i made) → i < length made → one ≡ get_or made i one
      → path ≡ string_bytes one.file.path → IsFree most files path → AreApart most files (take (i + 1) made)
  apart_more files made i one path old within is its is_free = λ m has.
      elim (Contains-push_cases (take i made) (get_or made i one) m (subst (λ ms. Contains ms m) (take_more made i one within) has)) [
        | inl before ↦ old m before
        | inr here ↦ subst (λ (n : MadeFile). IsFree most files (string_bytes n.file.path)) (is ∙ here) (subst (IsFree most files) its is_free)
      ]

  -- all made files
  pub apart_all : (files : List GivenFile) (made : List MadeFile) (i : ℕ) → AreApart most files (take i made) → length made ≤ i → AreApart most files made
  apart_all files made i old past = subst (AreApart most files) (take_all i made past) old

  -- the file that is found is taken
  pub found_taken : (files : List GivenFile) (path : List ℕ) (found : Option (Bor GivenFile)) (file : Bor GivenFile) → MatchOption found (IsFree most files path) (λ f. IsTaken most files path f.now) → found ≡ Some file
      → IsTaken most files path file.now
  found_taken files path found file has is = subst (λ (o : Option (Bor GivenFile)). MatchOption o (IsFree most files path) (λ f. IsTaken most files path f.now)) is has

  -- where none is found, the name is free
  pub found_free : (files : List GivenFile) (path : List ℕ) (found : Option (Bor GivenFile)) → MatchOption found (IsFree most files path) (λ f. IsTaken most files path f.now) → found ≡ None → IsFree most files path
  found_free files path found has is = subst (λ (o : Option (Bor GivenFile)). MatchOption o (IsFree most files path) (λ f. IsTaken most files path f.now)) is has
