-- The files that are made, one after the other.
use Rattle.std.proofs.Common.{◌≡◌, ◌∙◌, [], ◌∷◌, ◌++◌, ◌+◌, ◌<◌, ◌≤◌, ◌==◌, ℕ, List, Bor, true, false, Vec, append_assoc, append-nil, cond, filter, length, map, codes, string_bytes, refl, sym, ap, subst, arith}
use Rattle.std.proofs.lemmas.Bool.{ne_eqb}
use Rattle.std.proofs.lemmas.List.{length-map, map-append}
use Rattle.std.specs.Fmt.{decimal}
use Rattle.std.specs.declared.alloc.Global.{Global}
use Rattle.gql_manifest.specs.Files.{Adds, AreBucketTexts, AreBuckets, AreOperationFiles, TextFile, file_of, files_from, files_of, most_own_files, next_bucket, no_buckets, numbered_from, own_file, path_of, stem_of, texts_in, without_last}
use Rattle.gql_manifest.specs.Gathering.{Operation, operation_of}
use Rattle.gql_manifest.specs.Packing.{pieces_of, texts_of}
use Rattle.gql_manifest.specs.declared.files.MadeFile.{MadeFile}
use Rattle.gql_manifest.specs.declared.gathered.GatheredOperation.{GatheredOperation}

-- the path of another file of a stem
pub next_path : (stem : List ℕ) (n : ℕ) (text : List ℕ) → (n ≡ 0 → ⊥) → text ≡ codes "documents/" ++ (stem ++ (codes "-" ++ (decimal (n + 1) ++ codes ".graphql"))) → text ≡ path_of stem n
next_path stem n text more is =
    is ∙ ap (λ s. codes "documents/" ++ s) (sym (append_assoc stem (codes "-" ++ decimal (n + 1)) (codes ".graphql")))
    ∙ ap (λ b. codes "documents/" ++ stem ++ cond b [] (codes "-" ++ decimal (n + 1)) ++ codes ".graphql") (sym (ne_eqb n 0 more))

-- one more file, of those that are left
pub file_more : (old new : List MadeFile) (m : MadeFile) (f : TextFile) (rest all : List TextFile) → files_of old ++ f ∷ rest ≡ all → new ≡ old ++ m ∷ [] → file_of m ≡ f → files_of new ++ rest ≡ all
file_more old new m f rest all was added is =
    ap (λ fs. files_of fs ++ rest) added ∙ ap (λ fs. fs ++ rest) (map-append file_of old (m ∷ [])) ∙ append_assoc (files_of old) (file_of m ∷ []) rest
    ∙ ap (λ g. files_of old ++ g ∷ rest) is ∙ was

-- a file of these parts
abbrev text_file : List ℕ → List ℕ → List ℕ → TextFile
text_file path bytes source = record { path = path; bytes = bytes; source = source }

-- what the code has of a file, by its parts
pub same_file : (m : MadeFile) (path source : List ℕ) → string_bytes m.file.path ≡ path → string_bytes m.source ≡ source → file_of m ≡ text_file path m.file.bytes.items source
same_file m path source a b = ap (λ p. text_file p m.file.bytes.items (string_bytes m.source)) a ∙ ap (λ s. text_file path m.file.bytes.items s) b

-- one more of some that are counted
pub counted : {X : Type 0} (at count : ℕ) (left rest : List X) (x : X) → left ≡ x ∷ rest → at + length left ≡ count → at + 1 + length rest ≡ count
counted at count left rest x is was = let e : length left ≡ length (x ∷ rest) = ap length is in omega (arith, e, was)

-- one more text of a stem
pub text_more : (old new : List MadeFile) (m : MadeFile) (at : ℕ) (stem source : List ℕ) (left rest : List (Vec ℕ Global)) (bytes : Vec ℕ Global) (all : List TextFile)
    → files_of old ++ numbered_from at stem source (texts_of left) ≡ all → left ≡ bytes ∷ rest → new ≡ old ++ m ∷ [] → file_of m ≡ record { path = path_of stem at; bytes = bytes.items; source = source }
    → files_of new ++ numbered_from (at + 1) stem source (texts_of rest) ≡ all
text_more old new m at stem source left rest bytes all was is added file =
    file_more old new m _ (numbered_from (at + 1) stem source (texts_of rest)) all (ap (λ ts. files_of old ++ numbered_from at stem source (texts_of ts)) (sym is) ∙ was) added file

-- no texts are left
pub texts_done : (old : List MadeFile) (at : ℕ) (stem source : List ℕ) (left : List (Vec ℕ Global)) (all : List TextFile) → files_of old ++ numbered_from at stem source (texts_of left) ≡ all → left ≡ [] → files_of old ≡ all
texts_done old at stem source left all was none = sym (append-nil (files_of old)) ∙ ap (λ ts. files_of old ++ numbered_from at stem source (texts_of ts)) (sym none) ∙ was

-- one more text without its last byte
pub shorter_more : (old new left rest : List (Vec ℕ Global)) (text short : Vec ℕ Global) (all : List (List ℕ)) → texts_of old ++ map without_last (texts_of left) ≡ all → left ≡ text ∷ rest → new ≡ old ++ short ∷ []
    → short.items ≡ without_last text.items → texts_of new ++ map without_last (texts_of rest) ≡ all
shorter_more old new left rest text short all was is added cut =
    ap (λ ts. texts_of ts ++ map without_last (texts_of rest)) added
    ∙ ap (λ ts. ts ++ map without_last (texts_of rest)) (map-append (λ (v : Vec ℕ Global). v.items) old (short ∷ []))
    ∙ append_assoc (texts_of old) (short.items ∷ []) (map without_last (texts_of rest))
    ∙ ap (λ t. texts_of old ++ t ∷ map without_last (texts_of rest)) cut
    ∙ ap (λ ts. texts_of old ++ map without_last (texts_of ts)) (sym is) ∙ was

-- an operation of the bucket
pub piece_in : (old new : List (Bor (List ℕ))) (bucket : ℕ) (left rest : List (List ℕ × GatheredOperation)) (name : List ℕ) (o : GatheredOperation) (piece : Bor (List ℕ)) (all : List (List ℕ))
    → pieces_of old ++ texts_in bucket (map operation_of left) ≡ all → left ≡ (name, o) ∷ rest → (o.bucket == bucket) ≡ true → new ≡ old ++ piece ∷ [] → piece.now ≡ o.bytes.items
    → pieces_of new ++ texts_in bucket (map operation_of rest) ≡ all
piece_in old new bucket left rest name o piece all was is inside added bytes =
    ap (λ ps. pieces_of ps ++ texts_in bucket (map operation_of rest)) added
    ∙ ap (λ ps. ps ++ texts_in bucket (map operation_of rest)) (map-append (λ (p : Bor (List ℕ)). p.now) old (piece ∷ []))
    ∙ append_assoc (pieces_of old) (piece.now ∷ []) (texts_in bucket (map operation_of rest))
    ∙ ap (λ b. pieces_of old ++ b ∷ texts_in bucket (map operation_of rest)) bytes
    ∙ ap (λ b. pieces_of old ++ map (λ (p : Operation). p.bytes) (cond b (operation_of (name, o) ∷ filter (λ (p : Operation). p.bucket == bucket) (map operation_of rest)) (filter (λ (p : Operation). p.bucket == bucket) (map operation_of rest)))) (sym inside)
    ∙ ap (λ es. pieces_of old ++ texts_in bucket (map operation_of es)) (sym is) ∙ was

-- an operation of another bucket
pub piece_out : (old : List (Bor (List ℕ))) (bucket : ℕ) (left rest : List (List ℕ × GatheredOperation)) (name : List ℕ) (o : GatheredOperation) (all : List (List ℕ))
    → pieces_of old ++ texts_in bucket (map operation_of left) ≡ all → left ≡ (name, o) ∷ rest → (o.bucket == bucket) ≡ false → pieces_of old ++ texts_in bucket (map operation_of rest) ≡ all
piece_out old bucket left rest name o all was is out =
    ap (λ b. pieces_of old ++ map (λ (p : Operation). p.bytes) (cond b (operation_of (name, o) ∷ filter (λ (p : Operation). p.bucket == bucket) (map operation_of rest)) (filter (λ (p : Operation). p.bucket == bucket) (map operation_of rest)))) (sym out)
    ∙ ap (λ es. pieces_of old ++ texts_in bucket (map operation_of es)) (sym is) ∙ was

-- no bucket
pub buckets_none : (operations : List Operation) (files : List MadeFile) → Adds (AreBuckets operations 0) files files
buckets_none operations files = ([], no_buckets, sym (append-nil (files_of files)))

-- the files of one more bucket
pub bucket_more : (operations : List Operation) (n : ℕ) (first old new : List MadeFile) (texts : List (List ℕ)) (stem source : List ℕ) → Adds (AreBuckets operations n) first old → AreBucketTexts (texts_in n operations) texts
    → stem ≡ stem_of n → source ≡ codes "operations of manifests" → files_of new ≡ files_of old ++ files_from stem source texts → Adds (AreBuckets operations (n + 1)) first new
bucket_more operations n first old new texts stem source so_far are is_stem is_source added = (
  so_far.0 ++ files_from (stem_of n) (codes "operations of manifests") texts,
  next_bucket so_far.1 are,
  added ∙ ap (λ fs. fs ++ files_from stem source texts) so_far.2 ∙ append_assoc (files_of first) so_far.0 (files_from stem source texts)
      ∙ ap (λ s. files_of first ++ (so_far.0 ++ files_from s source texts)) is_stem ∙ ap (λ s. files_of first ++ (so_far.0 ++ files_from (stem_of n) s texts)) is_source,
)

-- files of many operations
pub many_files : (operations : List Operation) (old new : List MadeFile) → most_own_files < length operations → Adds (AreBuckets operations 96) old new → Adds (AreOperationFiles operations) old new
many_files operations old new many adds = (adds.0, record { few = λ few. absurd (omega (arith, few, many)); many = λ _. adds.1 }, adds.2)

-- the file of one more operation
pub own_more : (old new : List MadeFile) (left rest : List (List ℕ × GatheredOperation)) (name : List ℕ) (o : GatheredOperation) (all : List TextFile)
    → files_of old ++ map own_file (map operation_of left) ≡ all → left ≡ (name, o) ∷ rest → files_of new ≡ files_of old ++ own_file (operation_of (name, o)) ∷ []
    → files_of new ++ map own_file (map operation_of rest) ≡ all
own_more old new left rest name o all was is added =
    ap (λ fs. fs ++ map own_file (map operation_of rest)) added ∙ append_assoc (files_of old) (own_file (operation_of (name, o)) ∷ []) (map own_file (map operation_of rest))
    ∙ ap (λ es. files_of old ++ map own_file (map operation_of es)) (sym is) ∙ was

-- how many operations there are
pub few_operations : (entries : List (List ℕ × GatheredOperation)) (count : ℕ) → count ≡ length entries → count ≤ most_own_files → length (map operation_of entries) ≤ most_own_files
few_operations entries count is few = subst (λ n. n ≤ most_own_files) (is ∙ sym (length-map entries operation_of)) few

-- files of few operations
pub few_files : (operations : List Operation) (left : List (List ℕ × GatheredOperation)) (old new : List MadeFile) → length operations ≤ most_own_files
    → files_of new ++ map own_file (map operation_of left) ≡ files_of old ++ map own_file operations → left ≡ [] → Adds (AreOperationFiles operations) old new
few_files operations left old new few was none = (
  map own_file operations,
  record { few = λ _. refl; many = λ many. absurd (omega (arith, few, many)) },
  sym (append-nil (files_of new)) ∙ ap (λ es. files_of new ++ map own_file (map operation_of es)) (sym none) ∙ was,
)
