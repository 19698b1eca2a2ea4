-- A definition that is added to those that are gathered, and the texts and manifests that bring them.
use Rattle.std.proofs.Common.{◌≡◌, ◌∙◌, inl, inr, [], ◌∷◌, ◌++◌, ◌+◌, ◌<◌, ◌≤◌, ℕ, List, Option, Some, None, append_assoc, append-nil, drop, get_or, length, map, string_bytes, take, refl, sym, ap, subst, Ok, Err, IfErr, IsErrAnd, MatchOption, Result, Vec}
use Rattle.std.proofs.lemmas.List.{drop_more, get_or-map, length-map, take-append-drop, take_all, take_more}
use Rattle.std.proofs.lemmas.List.Concat.{flat_map-append}
use Rattle.gql_ast.specs.declared.definition.Tree.{Tree}
use Rattle.gql_ast.specs.declared.definition.Tree.TheVariants as tree
use Rattle.gql_ast.specs.declared.executable.Fragment as ast
use Rattle.gql_ast.specs.declared.executable.Operation.{Operation}
use Rattle.gql_ast.specs.declared.text.Name.{Name}
use Rattle.serde_json.specs.Data.{Data}
use Rattle.serde_json.specs.View.{view}
use Rattle.serde_json.specs.declared.value.Value.{Value}
use Rattle.std.specs.declared.alloc.Global.{Global}
use Rattle.gql_manifest.proofs.Firsts.{firsts_new, firsts_there}
use Rattle.gql_manifest.specs.Definitions.{Gathers, GathersMore, IsNewName, IsNewOrSame, IsPieceFault, IsRefusedBy, all_fragments_in, firsts, fragment_by, fragment_named, next_accepted, none_accepted, operation_by, operation_named as named, operations_in}
use Rattle.gql_manifest.specs.Entries.{IsJson, IsNoJson, Listing, listing_of, listings_found, listings_of}
use Rattle.gql_manifest.specs.Fragments as fragments
use Rattle.gql_manifest.specs.Fragments.{Fragment, IsDiffering}
use Rattle.gql_manifest.specs.Gathering as gathering
use Rattle.gql_manifest.specs.Gathering.{IsFresh, IsNameFault, operation_from, operations_of}
use Rattle.gql_manifest.specs.Origins.{Place}
use Rattle.gql_manifest.specs.Pieces.{Brings, Brought, IsTextFault, OrMemory}
use Rattle.gql_manifest.specs.Reading.{AllBring, GathersAll, GathersListing, GathersManifest, IsEntryFault, IsManifestFault, IsManifestsFault, Lists, SaysNoManifest, SaysNotJson, next_brings, next_manifest, no_manifests, none_bring}
use Rattle.gql_manifest.specs.declared.entries.Entry.{Entry}
use Rattle.gql_manifest.specs.declared.fault.ManifestFault.{ManifestFault}
use Rattle.gql_manifest.specs.declared.files.GivenManifest.{GivenManifest}
use Rattle.gql_manifest.specs.declared.gathered.Gathered.{Gathered}

-- ---- lists

-- the list, at an element of it
parted : {X : Type 0} (xs : List X) (i : ℕ) (x : X) → i < length xs → x ≡ get_or xs i x → xs ≡ take i xs ++ x ∷ drop (i + 1) xs
parted xs i x within is = sym (take-append-drop i xs) ∙ ap (λ r. take i xs ++ r) (drop_more xs i x within ∙ ap (λ y. y ∷ drop (i + 1) xs) (sym is))

-- ---- faults

-- a fault that is handed on
pub err_of : {T E : Type 0} (P : E → Type 0) (r : Result T E) (e : E) → IsErrAnd r (λ x. x ≡ e) → P e → IfErr r P
err_of P (Ok v) e is h = absurd is
err_of P (Err x) e is h = subst P (sym is) h

-- ---- one definition

-- the operations among these definitions and one more
operations_more : (bs : List Brought) (b : Brought) → operations_in (bs ++ b ∷ []) ≡ operations_in bs ++ operation_by b.tree b
operations_more bs b = flat_map-append (λ (c : Brought). operation_by c.tree c) bs (b ∷ []) ∙ ap (λ os. operations_in bs ++ os) (append-nil (operation_by b.tree b))

-- the fragments among these definitions and one more
fragments_more : (bs : List Brought) (b : Brought) → all_fragments_in (bs ++ b ∷ []) ≡ all_fragments_in bs ++ fragment_by b.tree b
fragments_more bs b = flat_map-append (λ (c : Brought). fragment_by c.tree c) bs (b ∷ []) ∙ ap (λ fs. all_fragments_in bs ++ fs) (append-nil (fragment_by b.tree b))

-- a definition that has a tree
abbrev pub with_tree : Place → Tree → List ℕ → List ℕ → Brought
with_tree place t text tokens = record { place = place; tree = t; text = text; tokens = tokens }

-- an operation with this name
operation_named : (o : Operation) (name : Option Name) (place : Place) (text tokens : List ℕ) (old new : Gathered) → o.name ≡ name → gathering.IsAdded name place text old new
    → GathersMore (with_tree place (tree.Operation o) text tokens ∷ []) old new
operation_named o None place text tokens old new is none bs gathers = absurd none
operation_named o (Some name) place text tokens old new is added bs gathers =
    let b : Brought = with_tree place (tree.Operation o) text tokens in
    let one : operation_by b.tree b ≡ operation_from name.text place text ∷ [] = ap (λ n. named n b) is in
    let fresh : IsFresh name.text (operations_in bs) = subst (IsFresh name.text) gathers.operations_are added.0 in
    record {
      operations_are = added.1 ∙ ap (λ os. os ++ operation_from name.text place text ∷ []) gathers.operations_are ∙ ap (λ os. operations_in bs ++ os) (sym one) ∙ sym (operations_more bs b);
      fragments_are = added.2 ∙ gathers.fragments_are ∙ ap firsts (sym (fragments_more bs b ∙ append-nil (all_fragments_in bs)));
      accepted = next_accepted b gathers.accepted (subst (λ n. IsNewName n (operations_in bs)) (sym is) fresh);
    }

-- an operation
pub operation_more : (o : Operation) (place : Place) (text tokens : List ℕ) (old new : Gathered) → gathering.IsAdded o.name place text old new → GathersMore (with_tree place (tree.Operation o) text tokens ∷ []) old new
operation_more o place text tokens old new added = operation_named o o.name place text tokens old new refl added

-- an operation that is refused
pub operation_refused : (o : Operation) (place : Place) (text tokens : List ℕ) (old : Gathered) (fault : ManifestFault) → gathering.IsAddFault o.name place (operations_of old) fault
    → IsPieceFault old (with_tree place (tree.Operation o) text tokens) fault
operation_refused o place text tokens old fault refused bs gathers = elim refused [
  | inl memory ↦ inl memory
  | inr name ↦ inr (gathers.accepted, subst (λ os. IsNameFault o.name place os fault) gathers.operations_are name)
]

-- a fragment
pub fragment_more : (f : ast.Fragment) (place : Place) (text tokens : List ℕ) (old new : Gathered) → new.operations ≡ old.operations
    → fragments.IsAdded old.fragments new.fragments (fragment_named f.name (with_tree place (tree.Fragment f) text tokens)) → GathersMore (with_tree place (tree.Fragment f) text tokens ∷ []) old new
fragment_more f place text tokens old new same added bs gathers = record {
  operations_are = ap (λ (os : _). operations_of (record old { operations = os })) same ∙ gathers.operations_are ∙ sym (operations_more bs b ∙ append-nil (operations_in bs));
  fragments_are = elim was [
    | inl anew ↦ anew.1 ∙ ap (λ fs. fs ++ g ∷ []) gathers.fragments_are ∙ sym (ap firsts (fragments_more bs b) ∙ firsts_new (all_fragments_in bs) g (subst (fragments.IsFresh g.name) gathers.fragments_are anew.0))
    | inr there ↦
        there.0 ∙ gathers.fragments_are ∙ sym (ap firsts (fragments_more bs b) ∙ firsts_there (all_fragments_in bs) g there.1 (subst (λ fs. fragments.IsKept g.name fs there.1) gathers.fragments_are there.2))
  ];
  accepted = next_accepted b gathers.accepted (subst (λ fs. IsNewOrSame fs g) gathers.fragments_are (elim was [
    | inl anew ↦ inl anew.0
    | inr there ↦ inr (there.1, there.2, there.3)
  ]));
}
  where
    b : Brought
    b = with_tree place (tree.Fragment f) text tokens

    g : Fragment
    g = fragment_named f.name b

    was : fragments.IsAdded old.fragments new.fragments g
    was = added

-- a fragment that is refused
pub fragment_refused : (f : ast.Fragment) (place : Place) (text tokens : List ℕ) (old : Gathered) (fault : ManifestFault)
    → fragments.IsAddFault old.fragments (fragment_named f.name (with_tree place (tree.Fragment f) text tokens)) fault → IsPieceFault old (with_tree place (tree.Fragment f) text tokens) fault
fragment_refused f place text tokens old fault refused bs gathers = elim refused [
  | inl memory ↦ inl memory
  | inr differs ↦ inr (gathers.accepted, subst (λ fs. IsDiffering fs (fragment_named f.name (with_tree place (tree.Fragment f) text tokens)) fault) gathers.fragments_are differs)
]

-- any other definition
pub other_refused : (old : Gathered) (b : Brought) (fault : ManifestFault) → ((bs : List Brought) → IsRefusedBy b.tree bs b fault) → IsPieceFault old b fault
other_refused old b fault refused bs gathers = inr (gathers.accepted, refused bs)

-- ---- the definitions of a text

-- some of these definitions are gathered, and these are left
pub record Gathering (all : List Brought) (old : Gathered) (rest : List Brought) (new : Gathered) : Type 0 where
  pub done : List Brought
  pub parts : done ++ rest ≡ all
  pub gathers : (bs : List Brought) → Gathers bs old → Gathers (bs ++ done) new

-- none is done
pub gathering_none : (all : List Brought) (old : Gathered) → Gathering all old all old
gathering_none all old = record { done = []; parts = refl; gathers = λ bs g. subst (λ xs. Gathers xs old) (sym (append-nil bs)) g }

-- one more
pub gathering_more : (all rest others : List Brought) (b : Brought) (old new newer : Gathered) → Gathering all old rest new → rest ≡ b ∷ others → GathersMore (b ∷ []) new newer → Gathering all old others newer
gathering_more all rest others b old new newer so_far is more = record {
  done = so_far.done ++ b ∷ [];
  parts = append_assoc so_far.done (b ∷ []) others ∙ ap (λ r. so_far.done ++ r) (sym is) ∙ so_far.parts;
  gathers = λ bs g. subst (λ xs. Gathers xs newer) (append_assoc bs so_far.done (b ∷ [])) (more (bs ++ so_far.done) (so_far.gathers bs g));
}

-- one is refused
pub gathering_refused : (path : List ℕ) (l : Listing) (all rest others : List Brought) (b : Brought) (old new : Gathered) (fault : ManifestFault) → Gathering all old rest new → rest ≡ b ∷ others
    → Brings (path, l.id) l.body all → IsPieceFault new b fault → IsEntryFault path l old fault
gathering_refused path l all rest others b old new fault so_far is brings refused bs g = elim (refused (bs ++ so_far.done) (so_far.gathers bs g)) [
  | inl memory ↦ inl memory
  | inr at ↦ inr (inr (record {
    earlier = so_far.done;
    refused = b;
    later = others;
    brings = subst (Brings (path, l.id) l.body) (sym so_far.parts ∙ ap (λ r. so_far.done ++ r) is) brings;
    is = at;
  }))
]

-- the text is refused
pub text_refused : (path : List ℕ) (l : Listing) (old : Gathered) (fault : ManifestFault) → OrMemory (IsTextFault (path, l.id) l.body) fault → IsEntryFault path l old fault
text_refused path l old fault refused bs g = elim refused [
  | inl memory ↦ inl memory
  | inr text ↦ inr (inl (g.accepted, text))
]

-- all are done
pub gathering_all : (path : List ℕ) (l : Listing) (all rest : List Brought) (old new : Gathered) → Gathering all old rest new → rest ≡ [] → Brings (path, l.id) l.body all → GathersListing path l old new
gathering_all path l all rest old new so_far none brings =
    let same : so_far.done ≡ all = sym (append-nil so_far.done) ∙ ap (λ r. so_far.done ++ r) (sym none) ∙ so_far.parts in
    (all, brings, λ bs g. subst (λ d. Gathers (bs ++ d) new) same (so_far.gathers bs g))

-- ---- the operations of a manifest

-- what these operations bring is gathered
pub record Listed (path : List ℕ) (ls : List Listing) (old new : Gathered) : Type 0 where
  pub brought : List Brought
  pub bring : AllBring path ls brought
  pub gathers : (bs : List Brought) → Gathers bs old → Gathers (bs ++ brought) new

-- none is done
pub listed_none : (path : List ℕ) (old : Gathered) → Listed path [] old old
listed_none path old = record { brought = []; bring = none_bring; gathers = λ bs g. subst (λ xs. Gathers xs old) (sym (append-nil bs)) g }

-- one more
pub listed_more : (path : List ℕ) (ls : List Listing) (l : Listing) (old new newer : Gathered) → Listed path ls old new → GathersListing path l new newer → Listed path (ls ++ l ∷ []) old newer
listed_more path ls l old new newer so_far more = record {
  brought = so_far.brought ++ more.0;
  bring = next_brings l so_far.bring more.1;
  gathers = λ bs g. subst (λ xs. Gathers xs newer) (append_assoc bs so_far.brought more.0) (more.2 (bs ++ so_far.brought) (so_far.gathers bs g));
}

-- one is refused
pub listed_refused : (m : GivenManifest) (ls : List Listing) (i : ℕ) (l : Listing) (old new : Gathered) (fault : ManifestFault) → Lists m ls → i < length ls → l ≡ get_or ls i l
    → Listed (string_bytes m.path) (take i ls) old new → IsEntryFault (string_bytes m.path) l new fault → IsManifestFault m old fault
listed_refused m ls i l old new fault lists within is so_far refused bs g = elim (refused (bs ++ so_far.brought) (so_far.gathers bs g)) [
  | inl memory ↦ inl memory
  | inr at ↦ inr (inr (record {
    earlier = take i ls;
    refused = l;
    later = drop (i + 1) ls;
    brought = so_far.brought;
    lists = subst (Lists m) (parted ls i l within is) lists;
    bring = so_far.bring;
    is = at;
  }))
]

-- all are done
pub listed_all : (m : GivenManifest) (ls : List Listing) (i : ℕ) (old new : Gathered) → Lists m ls → length ls ≤ i → Listed (string_bytes m.path) (take i ls) old new → GathersManifest m old new
listed_all m ls i old new lists past so_far =
    (so_far.brought, (ls, lists, subst (λ done. AllBring (string_bytes m.path) done so_far.brought) (take_all i ls past) so_far.bring), so_far.gathers)

-- the JSON that is found lists what is found in it
pub lists_found : (m : GivenManifest) (bytes : List ℕ) (found : Option Value) (value : Value) (listed : Option (Vec Entry Global)) (entries : Vec Entry Global) (items : List Entry) → bytes ≡ m.bytes.items
    → MatchOption found (IsNoJson bytes) (λ v. IsJson bytes (view v)) → found ≡ Some value → listings_found listed ≡ listings_of (view value) → listed ≡ Some entries → items ≡ entries.items
    → Lists m (map listing_of items)
lists_found m bytes found value listed entries items same is there lists has are = (
  view value,
  subst (λ b. IsJson b (view value)) same (subst (λ f. MatchOption f (IsNoJson bytes) (λ v. IsJson bytes (view v))) there is),
  sym lists ∙ ap listings_found has ∙ ap (λ es. Some (map listing_of es)) (sym are),
)

-- the listing of an entry
entry_at : (items : List Entry) (i : ℕ) (d : Entry) → i < length items → listing_of (get_or items i d) ≡ get_or (map listing_of items) i (listing_of (get_or items i d))
entry_at items i d within = sym (get_or-map listing_of items i d (listing_of (get_or items i d)) within)

-- as many listings as entries
within_map : (items : List Entry) (i : ℕ) → i < length items → i < length (map listing_of items)
within_map items i within = subst (λ n. i < n) (sym (length-map items listing_of)) within

-- one more entry
pub entry_more : (path : List ℕ) (items : List Entry) (i : ℕ) (d : Entry) (old new newer : Gathered) → i < length items → Listed path (take i (map listing_of items)) old new
    → GathersListing path (listing_of (get_or items i d)) new newer → Listed path (take (i + 1) (map listing_of items)) old newer
entry_more path items i d old new newer within so_far more =
    let l : Listing = listing_of (get_or items i d) in
    subst (λ ls. Listed path ls old newer) (ap (λ k. take i (map listing_of items) ++ k ∷ []) (entry_at items i d within) ∙ sym (take_more (map listing_of items) i l (within_map items i within)))
    (listed_more path (take i (map listing_of items)) l old new newer so_far more)

-- an entry is refused
pub entry_refused : (m : GivenManifest) (path : List ℕ) (items : List Entry) (i : ℕ) (d : Entry) (old new : Gathered) (fault : ManifestFault) → path ≡ string_bytes m.path → Lists m (map listing_of items) → i < length items
    → Listed path (take i (map listing_of items)) old new → IsEntryFault path (listing_of (get_or items i d)) new fault → IsManifestFault m old fault
entry_refused m path items i d old new fault its lists within so_far refused =
    let l : Listing = listing_of (get_or items i d) in
    listed_refused m (map listing_of items) i l old new fault lists (within_map items i within) (entry_at items i d within)
    (subst (λ p. Listed p (take i (map listing_of items)) old new) its so_far) (subst (λ p. IsEntryFault p l new fault) its refused)

-- the bytes are no JSON
pub no_json : (m : GivenManifest) (old : Gathered) (fault : ManifestFault) → IsNoJson m.bytes.items → SaysNotJson (string_bytes m.path) fault → IsManifestFault m old fault
no_json m old fault none says bs g = inr (inl (g.accepted, inl (none, says)))

-- the JSON is of neither form
pub no_manifest : (m : GivenManifest) (value : Data) (old : Gathered) (fault : ManifestFault) → IsJson m.bytes.items value → listings_of value ≡ None → SaysNoManifest (string_bytes m.path) fault → IsManifestFault m old fault
no_manifest m value old fault is none says bs g = inr (inl (g.accepted, inr (value, is, none, says)))

-- ---- all manifests

-- none is done
pub all_none : (g : Gathered) → operations_of g ≡ [] → g.fragments ≡ [] → GathersAll [] g
all_none g operations fragments = ([], no_manifests, record { operations_are = operations; fragments_are = fragments; accepted = none_accepted })

-- one more
pub all_more : (ms : List GivenManifest) (i : ℕ) (m : GivenManifest) (old new : Gathered) → i < length ms → m ≡ get_or ms i m → GathersAll (take i ms) old → GathersManifest m old new → GathersAll (take (i + 1) ms) new
all_more ms i m old new within is so_far more =
    subst (λ done. GathersAll done new) (ap (λ x. take i ms ++ x ∷ []) is ∙ sym (take_more ms i m within))
    (so_far.0 ++ more.0, next_manifest m so_far.1 more.1, more.2 so_far.0 so_far.2)

-- one is refused
pub all_refused : (ms : List GivenManifest) (i : ℕ) (m : GivenManifest) (old : Gathered) (fault : ManifestFault) → i < length ms → m ≡ get_or ms i m → GathersAll (take i ms) old → IsManifestFault m old fault
    → IsManifestsFault ms fault
all_refused ms i m old fault within is so_far refused = elim (refused so_far.0 so_far.2) [
  | inl memory ↦ inl memory
  | inr at ↦ inr (record {
    earlier = take i ms;
    refused = m;
    later = drop (i + 1) ms;
    brought = so_far.0;
    all = parted ms i m within is;
    bring = so_far.1;
    is = at;
  })
]

-- all are done
pub all_done : (ms : List GivenManifest) (i : ℕ) (g : Gathered) → length ms ≤ i → GathersAll (take i ms) g → GathersAll ms g
all_done ms i g past so_far = subst (λ done. GathersAll done g) (take_all i ms past) so_far
