-- A folder with the file at one more path.
use Rattle.std.specs.declared.alloc.Global.{Global}
use Rattle.std.proofs.Common.{Vec, Result, Ok, Err, OnOk, IfErr, length-append, ◌≡◌, ◌<◌, ◌≤◌, ◌+◌, ◌∙◌, ◌⊎◌, inl, inr, ℕ, List, [], ◌∷◌, ◌++◌, Option, Some, None, sym, ap, subst, length, arith, Contains, get_or, slice_get}
use Rattle.std.proofs.lemmas.Bool.{cases_lt}
use Rattle.std.proofs.lemmas.List.Elements.{Contains-append_left, Contains-get_or, Contains-push, Contains-push_cases}
use Rattle.std.specs.List.{AllPairs}
use Rattle.std.specs.Result.{IsErrAnd}
use Rattle.std.proofs.lemmas.List.Quantifiers.{all_pairs_push}
use Rattle.gql_ast.specs.declared.fault.FileSide.{FileSide}
use Rattle.gql_ast.specs.declared.fault.FileSide.TheVariants.{Schema, Documents}
use Rattle.gql_ast.specs.declared.profile.Limits.{Limits}
use Rattle.gql_folder.specs.Adding.{IsAddFault, IsFresh}
use Rattle.gql_folder.specs.Folders.{AreNamed, AreAllNamed, HasRole, IsDataAt, IsFolder, IsFolderFault}
use Rattle.gql_folder.specs.Roles.{role_at}
use Rattle.gql_folder.specs.declared.folder.Folder.{Folder}
use Rattle.gql_folder.specs.declared.folder.FolderFault.{FolderFault}
use Rattle.gql_folder.specs.declared.folder.FolderFault.TheVariants as fault
use Rattle.gql_folder.specs.declared.folder.NamedFile.{NamedFile}
use Rattle.gql_folder.specs.declared.role.Role.{Role}
use Rattle.gql_folder.specs.declared.role.Role.TheVariants as role

-- the indices below one more
below_or_here : (i at : ℕ) → i < at + 1 → (i < at) ⊎ (i ≡ at)
below_or_here i at h = elim (cases_lt i at) [
  | inl low ↦ inl low
  | inr high ↦ let e : i ≡ at = omega arith in inr e
]

same_path : (p q : List ℕ) → Some p ≡ Some q → p ≡ q
same_path p q is = cc is

one_name : (side : FileSide) (m n : List ℕ) → role.File side m ≡ role.File side n → m ≡ n
one_name side m n is = cc is

pub file_not_data : (side : FileSide) (n : List ℕ) → role.File side n ≡ role.Data → ⊥
file_not_data side n is = cc is

-- what holds of an accepted answer, from three facts of it
pub on_ok : {T E : Type 0} {A B C D : Type 0} (r : Result T E) → OnOk r A → OnOk r B → OnOk r C → (A → B → C → D) → OnOk r D
on_ok (Ok v) a b c f = f a b c
on_ok (Err e) a b c f = tt

-- what holds of a refusal, from another fact of it
pub if_err : {T E : Type 0} {P Q : E → Type 0} (r : Result T E) → IfErr r P → ((e : E) → P e → Q e) → IfErr r Q
if_err (Ok v) p f = tt
if_err (Err e) p f = f e p

longer : (most : ℕ) (named : List NamedFile) (f : NamedFile) → length named < most → length (named ++ f ∷ []) ≤ most
longer most named f short = let e = length-append named (f ∷ []) in omega arith

schema_not_documents : (m n : List ℕ) → role.File Schema m ≡ role.File Documents n → ⊥
schema_not_documents m n is = cc is

pub not_misnamed : (side : FileSide) (n : List ℕ) → role.File side n ≡ role.Misnamed → ⊥
not_misnamed side n is = cc is

data_not_file : (side : FileSide) (n : List ℕ) → role.Data ≡ role.File side n → ⊥
data_not_file side n is = cc is

data_not_misnamed : role.Data ≡ role.Misnamed → ⊥
data_not_misnamed is = cc is

other_not_file : (side : FileSide) (n : List ℕ) → role.Other ≡ role.File side n → ⊥
other_not_file side n is = cc is

other_not_data : role.Other ≡ role.Data → ⊥
other_not_data is = cc is

other_not_misnamed : role.Other ≡ role.Misnamed → ⊥
other_not_misnamed is = cc is

not_below_zero : {A : Type 0} (i : ℕ) → i < 0 → A
not_below_zero i h = absurd (omega arith)

-- what holds of an error holds of the answer that returns it
pub err_of : {T E : Type 0} (P : E → Type 0) (r : Result T E) (e : E) → IsErrAnd r (λ x. x ≡ e) → P e → IfErr r P
err_of P (Ok v) e is h = absurd is
err_of P (Err x) e is h = subst P (sym is) h

module _ (limits : Limits) where
  -- a path has one role
  pub one_role : (paths : List (List ℕ)) (at : ℕ) (path : List ℕ) (r : Role) → slice_get paths at ≡ Some path → HasRole limits paths at r → role_at limits.name path ≡ r
  one_role paths at path r is has = subst (λ p. role_at limits.name p ≡ r) (same_path has.0 path (sym has.1 ∙ is)) has.2

  two_roles : (paths : List (List ℕ)) (at : ℕ) (q r : Role) → HasRole limits paths at q → HasRole limits paths at r → q ≡ r
  two_roles paths at q r a b = sym (one_role paths at b.0 q b.1 a) ∙ b.2

  -- one more file of a side
  pub named_more : (side : FileSide) (paths : List (List ℕ)) (at : ℕ) (name : List ℕ) (named : List NamedFile) → AreNamed limits side paths at named → HasRole limits paths at (role.File side name) → IsFresh name named
      → AreNamed limits side paths (at + 1) (named ++ (record { name = name; at = at }) ∷ [])
  named_more side paths at name named old here fresh = record { each = each; all = all; distinct = distinct; rising = rising }
    where
      new : NamedFile
      new = record { name = name; at = at }

      each : (f : NamedFile) → Contains (named ++ new ∷ []) f → (f.at < at + 1) × HasRole limits paths f.at (role.File side f.name)
      each f h = elim (Contains-push_cases named new f h) [
        | inl old_one ↦ let e : (f.at < at) × HasRole limits paths f.at (role.File side f.name) = old.each f old_one in (omega arith, e.1)
        | inr is ↦ subst (λ (g : NamedFile). (g.at < at + 1) × HasRole limits paths g.at (role.File side g.name)) is (omega arith, here)
      ]

      all : (i : ℕ) (n : List ℕ) → i < at + 1 → HasRole limits paths i (role.File side n) → Contains (named ++ new ∷ []) (record { name = n; at = i })
      all i n within has = elim (below_or_here i at within) [
        | inl below ↦ Contains-append_left named (new ∷ []) _ (old.all i n below has)
        | inr is ↦
            let has_here : HasRole limits paths at (role.File side n) = subst (λ j. HasRole limits paths j (role.File side n)) is has in
            let names : name ≡ n = one_name side name n (two_roles paths at _ _ here has_here) in
            let both : new ≡ (record { name = n; at = i }) = λ k. record { name = names k; at = sym is k } in
            subst (Contains (named ++ new ∷ [])) both (Contains-push named new)
      ]

      distinct : (f g : NamedFile) → Contains (named ++ new ∷ []) f → Contains (named ++ new ∷ []) g → f.name ≡ g.name → f ≡ g
      distinct f g hf hg same = elim (Contains-push_cases named new f hf) [
        | inl in_f ↦ elim (Contains-push_cases named new g hg) [
          | inl in_g ↦ old.distinct f g in_f in_g same
          | inr is_g ↦ absurd (fresh f in_f (same ∙ sym (ap (λ (h : NamedFile). h.name) is_g)))
        ]
        | inr is_f ↦ elim (Contains-push_cases named new g hg) [
          | inl in_g ↦ absurd (fresh g in_g (sym same ∙ sym (ap (λ (h : NamedFile). h.name) is_f)))
          | inr is_g ↦ sym is_f ∙ is_g
        ]
      ]

      rising : AllPairs (λ (f g : NamedFile). f.at < g.at) (named ++ new ∷ [])
      rising = all_pairs_push (λ (f g : NamedFile). f.at < g.at) named new old.rising (λ k d within. (old.each (get_or named k d) (Contains-get_or named k d within)).0)

  -- the files of a side, if the next path is none of it
  pub named_same : (side : FileSide) (paths : List (List ℕ)) (at : ℕ) (named : List NamedFile) (r : Role) → AreNamed limits side paths at named → HasRole limits paths at r → ((n : List ℕ) → r ≡ role.File side n → ⊥)
      → AreNamed limits side paths (at + 1) named
  named_same side paths at named r old here other = record { each = each; all = all; distinct = old.distinct; rising = old.rising }
    where
      each : (f : NamedFile) → Contains named f → (f.at < at + 1) × HasRole limits paths f.at (role.File side f.name)
      each f h = let e : (f.at < at) × HasRole limits paths f.at (role.File side f.name) = old.each f h in (omega arith, e.1)

      all : (i : ℕ) (n : List ℕ) → i < at + 1 → HasRole limits paths i (role.File side n) → Contains named (record { name = n; at = i })
      all i n within has = elim (below_or_here i at within) [
        | inl below ↦ old.all i n below has
        | inr is ↦ absurd (other n (two_roles paths at r (role.File side n) here (subst (λ j. HasRole limits paths j (role.File side n)) is has)))
      ]

  -- the data, if the next path is not theirs
  pub data_same : (paths : List (List ℕ)) (at : ℕ) (d : Option ℕ) (r : Role) → IsDataAt limits paths at d → HasRole limits paths at r → (r ≡ role.Data → ⊥) → IsDataAt limits paths (at + 1) d
  data_same paths at None r old here other = λ i within has. elim (below_or_here i at within) [
    | inl below ↦ old i below has
    | inr is ↦ other (two_roles paths at r role.Data here (subst (λ j. HasRole limits paths j role.Data) is has))
  ]
  data_same paths at (Some i) r old here other = let low : i < at = old.0 in (omega arith, old.1)

  -- all paths have names, if the next one has
  pub all_same : (paths : List (List ℕ)) (at : ℕ) (r : Role) → AreAllNamed limits paths at → HasRole limits paths at r → (r ≡ role.Misnamed → ⊥) → AreAllNamed limits paths (at + 1)
  all_same paths at r old here other = λ i within has. elim (below_or_here i at within) [
    | inl below ↦ old i below has
    | inr is ↦ other (two_roles paths at r role.Misnamed here (subst (λ j. HasRole limits paths j role.Misnamed) is has))
  ]

  -- a folder with one more schema file
  pub with_schema : (paths : List (List ℕ)) (at : ℕ) (path name : List ℕ) (f g : Folder) → slice_get paths at ≡ Some path → role_at limits.name path ≡ role.File Schema name → IsFolder limits paths at f
      → g.documents ≡ f.documents → g.«data» ≡ f.«data» → g.schema.items ≡ f.schema.items ++ (record { name = name; at = at }) ∷ [] → IsFresh name f.schema.items → length f.schema.items < limits.files → IsFolder limits paths (at + 1) g
  with_schema paths at path name f g is role_is old documents the_data schema fresh few =
      let here : HasRole limits paths at (role.File Schema name) = (path, is, role_is) in
      record {
        schema = subst (AreNamed limits Schema paths (at + 1)) (sym schema) (named_more Schema paths at name f.schema.items old.schema here fresh);
        documents = subst (λ (d : Vec NamedFile Global). AreNamed limits Documents paths (at + 1) d.items) (sym documents) (named_same Documents paths at f.documents.items _ old.documents here (λ n. schema_not_documents name n));
        few_schema = subst (λ ns. length ns ≤ limits.files) (sym schema) (longer limits.files f.schema.items _ few);
        few_documents = subst (λ (d : Vec NamedFile Global). length d.items ≤ limits.files) (sym documents) old.few_documents;
        data_at = subst (IsDataAt limits paths (at + 1)) (sym the_data) (data_same paths at f.«data» _ old.data_at here (file_not_data Schema name));
        named = all_same paths at _ old.named here (not_misnamed Schema name);
      }

  -- a folder with one more document file
  pub with_document : (paths : List (List ℕ)) (at : ℕ) (path name : List ℕ) (f g : Folder) → slice_get paths at ≡ Some path → role_at limits.name path ≡ role.File Documents name → IsFolder limits paths at f
      → g.schema ≡ f.schema → g.«data» ≡ f.«data» → g.documents.items ≡ f.documents.items ++ (record { name = name; at = at }) ∷ [] → IsFresh name f.documents.items → length f.documents.items < limits.files
      → IsFolder limits paths (at + 1) g
  with_document paths at path name f g is role_is old schema the_data documents fresh few =
      let here : HasRole limits paths at (role.File Documents name) = (path, is, role_is) in
      record {
        documents = subst (AreNamed limits Documents paths (at + 1)) (sym documents) (named_more Documents paths at name f.documents.items old.documents here fresh);
        schema = subst (λ (d : Vec NamedFile Global). AreNamed limits Schema paths (at + 1) d.items) (sym schema) (named_same Schema paths at f.schema.items _ old.schema here (λ n e. schema_not_documents n name (sym e)));
        few_documents = subst (λ ns. length ns ≤ limits.files) (sym documents) (longer limits.files f.documents.items _ few);
        few_schema = subst (λ (d : Vec NamedFile Global). length d.items ≤ limits.files) (sym schema) old.few_schema;
        data_at = subst (IsDataAt limits paths (at + 1)) (sym the_data) (data_same paths at f.«data» _ old.data_at here (file_not_data Documents name));
        named = all_same paths at _ old.named here (not_misnamed Documents name);
      }

  -- a folder with data at the next path
  pub with_data : (paths : List (List ℕ)) (at : ℕ) (path : List ℕ) (f g : Folder) → slice_get paths at ≡ Some path → role_at limits.name path ≡ role.Data → IsFolder limits paths at f → g.schema ≡ f.schema
      → g.documents ≡ f.documents → g.«data» ≡ Some at → IsFolder limits paths (at + 1) g
  with_data paths at path f g is role_is old schema documents the_data =
      let here : HasRole limits paths at role.Data = (path, is, role_is) in
      record {
        schema = subst (λ (d : Vec NamedFile Global). AreNamed limits Schema paths (at + 1) d.items) (sym schema) (named_same Schema paths at f.schema.items _ old.schema here (data_not_file Schema));
        documents = subst (λ (d : Vec NamedFile Global). AreNamed limits Documents paths (at + 1) d.items) (sym documents) (named_same Documents paths at f.documents.items _ old.documents here (data_not_file Documents));
        few_schema = subst (λ (d : Vec NamedFile Global). length d.items ≤ limits.files) (sym schema) old.few_schema;
        few_documents = subst (λ (d : Vec NamedFile Global). length d.items ≤ limits.files) (sym documents) old.few_documents;
        data_at = subst (IsDataAt limits paths (at + 1)) (sym the_data) (omega arith, here);
        named = all_same paths at _ old.named here data_not_misnamed;
      }

  -- a folder where the next path is no file of it
  pub with_other : (paths : List (List ℕ)) (at : ℕ) (path : List ℕ) (f : Folder) → slice_get paths at ≡ Some path → role_at limits.name path ≡ role.Other → IsFolder limits paths at f → IsFolder limits paths (at + 1) f
  with_other paths at path f is role_is old =
      let here : HasRole limits paths at role.Other = (path, is, role_is) in
      record {
        schema = named_same Schema paths at f.schema.items _ old.schema here (other_not_file Schema);
        documents = named_same Documents paths at f.documents.items _ old.documents here (other_not_file Documents);
        few_schema = old.few_schema;
        few_documents = old.few_documents;
        data_at = data_same paths at f.«data» _ old.data_at here other_not_data;
        named = all_same paths at _ old.named here other_not_misnamed;
      }

  -- the fault of a file that is not added
  pub add_fault : (side : FileSide) (paths : List (List ℕ)) (at : ℕ) (name : List ℕ) (named : List NamedFile) → AreNamed limits side paths at named → HasRole limits paths at (role.File side name)
      → (fault : FolderFault) → IsAddFault limits.files side name at named fault → IsFolderFault limits paths fault
  add_fault side paths at name named old here (fault.Misnamed other) is = absurd is
  add_fault side paths at name named old here (fault.Twice first other) is =
      let e : (is.1.at < at) × HasRole limits paths is.1.at (role.File side is.1.name) = old.each is.1 is.2.0 in
      let below : first < other = subst (λ i. i < other) is.3 (subst (λ j. is.1.at < j) (sym is.0) e.0) in
      (below, side, name, subst (λ i. HasRole limits paths i (role.File side name)) is.3 (subst (λ n. HasRole limits paths is.1.at (role.File side n)) is.2.1 e.1), subst (λ j. HasRole limits paths j (role.File side name)) (sym is.0) here)
  add_fault side paths at name named old here (fault.TooMany other) is =
      subst (λ s. IsFolderFault limits paths (fault.TooMany s)) (sym is.0) (named, at, old, at, omega arith, is.1, name, here)
  add_fault side paths at name named old here fault.Memory is = tt

  -- no path, and no file
  pub nothing : (paths : List (List ℕ)) (f : Folder) → f.schema.items ≡ [] → f.documents.items ≡ [] → f.«data» ≡ None → IsFolder limits paths 0 f
  nothing paths f schema documents the_data = record {
    schema = subst (AreNamed limits Schema paths 0) (sym schema) (empty Schema);
    documents = subst (AreNamed limits Documents paths 0) (sym documents) (empty Documents);
    few_schema = subst (λ ns. length ns ≤ limits.files) (sym schema) (omega arith);
    few_documents = subst (λ ns. length ns ≤ limits.files) (sym documents) (omega arith);
    data_at = subst (IsDataAt limits paths 0) (sym the_data) (λ i low has. not_below_zero i low);
    named = λ i low has. not_below_zero i low;
  }
    where
      empty : (side : FileSide) → AreNamed limits side paths 0 []
      empty side = record {
        each = λ f h. not_below_zero h.0 h.1;
        all = λ i n low has. not_below_zero i low;
        distinct = λ f g h. not_below_zero h.0 h.1;
        rising = λ i j d low within. not_below_zero j within;
      }
