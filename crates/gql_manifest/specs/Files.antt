-- The files that manifests are made into.
use Rattle.std.specs.Prelude.{ℕ, ◌≡◌, ◌≤◌, ◌<◌, ◌+◌, ◌-◌, ◌/◌, ◌%◌, ◌++◌, ◌==◌, [], if◌then◌else◌, List, codes, filter, length, map, string_bytes, take}
use Rattle.std.specs.Fmt.{decimal}
use Rattle.std.specs.List.{enumerate_from}
use Rattle.gql_manifest.specs.Definitions.{AreAccepted, fragments_in, operations_in}
use Rattle.gql_manifest.specs.Fragments.{Fragment, bytes_of}
use Rattle.gql_manifest.specs.Gathering.{Operation}
use Rattle.gql_manifest.specs.Origins.{origin_text}
use Rattle.gql_manifest.specs.Packing.{IsPacked}
use Rattle.gql_manifest.specs.Pieces.{Brought}
use Rattle.gql_manifest.specs.Reading.{ManifestsBring}
use Rattle.gql_manifest.specs.declared.files.FromManifests.{FromManifests}
use Rattle.gql_manifest.specs.declared.files.GivenManifest.{GivenManifest}
use Rattle.gql_manifest.specs.declared.files.MadeFile.{MadeFile}

-- a file: its path, its bytes, and what it is made of, in words
pub record TextFile : Type 0 where
  pub path : List ℕ
  pub bytes : List ℕ
  pub source : List ℕ

-- what the code has of a file
abbrev pub file_of : MadeFile → TextFile
file_of m = record {
  path = string_bytes m.file.path;
  bytes = m.file.bytes.items;
  source = string_bytes m.source;
}

-- what the code has of files
abbrev pub files_of : List MadeFile → List TextFile
files_of = map file_of

-- the path of the first file of a stem, or of the second, the third .., which have their numbers
abbrev pub path_of : List ℕ → ℕ → List ℕ
path_of stem n = codes "documents/" ++ stem
    ++ (if n == 0 then [] else codes "-" ++ decimal (n + 1)) ++ codes ".graphql"

-- the files of these texts, which have one stem and are made of what `source` says; the first has
-- this number, from 0 on
abbrev pub numbered_from : ℕ → List ℕ → List ℕ → List (List ℕ) → List TextFile
numbered_from n stem source texts = map (λ (t : ℕ × List ℕ). record {
  path = path_of stem t.0;
  bytes = t.1;
  source = source;
}) (enumerate_from n texts)

-- all files of a stem
abbrev pub files_from : List ℕ → List ℕ → List (List ℕ) → List TextFile
files_from = numbered_from 0

-- ---- operations

-- how many operations are files of their own at most
abbrev pub most_own_files : ℕ
most_own_files = 128

-- how many bytes a file of several has at most
abbrev pub most_bytes : ℕ
most_bytes = 65536

-- the file of an operation
abbrev pub own_file : Operation → TextFile
own_file o = record {
  path = path_of o.name 0;
  bytes = o.bytes;
  source = origin_text o.place;
}

-- the texts of the operations in a bucket
abbrev pub texts_in : ℕ → List Operation → List (List ℕ)
texts_in bucket operations =
    map (λ (o : Operation). o.bytes) (filter (λ (o : Operation). o.bucket == bucket) operations)

-- a text without its last byte
abbrev pub without_last : List ℕ → List ℕ
without_last text = take (length text - 1) text

-- the texts of the files of a bucket: an empty line is between each two operations, and none after
-- the last
abbrev pub AreBucketTexts : List (List ℕ) → List (List ℕ) → Type 0
AreBucketTexts pieces texts = (full : List (List ℕ)) × IsPacked (most_bytes + 1) pieces full
    × (texts ≡ map without_last full)

-- the stem of the files of a bucket: its number from 01 on
abbrev pub stem_of : ℕ → List ℕ
stem_of bucket = codes "operations-" ++ decimal ((bucket + 1) / 10) ++ decimal ((bucket + 1) % 10)

-- the files of the first `n` buckets
pub data AreBuckets (operations : List Operation) : ℕ → List TextFile → Type 0 where
  no_buckets : AreBuckets operations 0 []
  next_bucket : {n : ℕ} {files : List TextFile} {texts : List (List ℕ)}
      → AreBuckets operations n files → AreBucketTexts (texts_in n operations) texts
      → AreBuckets operations (n + 1)
      (files ++ files_from (stem_of n) (codes "operations of manifests") texts)

-- the files of operations: each of its own, or if they are many those of the 96 buckets
pub record AreOperationFiles (operations : List Operation) (files : List TextFile) : Type 0 where
  pub few : length operations ≤ most_own_files → files ≡ map own_file operations
  pub many : most_own_files < length operations → AreBuckets operations 96 files

-- ---- fragments

-- the files of fragments
abbrev pub AreFragmentFiles : List Fragment → List TextFile → Type 0
AreFragmentFiles fragments files = (texts : List (List ℕ))
    × IsPacked most_bytes (bytes_of fragments) texts
    × (files ≡ files_from (codes "shared-fragments") (codes "the fragments of manifests") texts)

-- ---- all

-- the files of these operations and of these fragments
abbrev pub AreFilesOf : List Operation → List Fragment → List TextFile → Type 0
AreFilesOf operations fragments files = (own shared : List TextFile)
    × AreOperationFiles operations own × AreFragmentFiles fragments shared
    × (files ≡ own ++ shared)

-- files of these are added after those that are there
abbrev pub Adds : (List TextFile → Type 0) → List MadeFile → List MadeFile → Type 0
Adds AreFiles old new = (added : List TextFile) × AreFiles added
    × (files_of new ≡ files_of old ++ added)

-- what is made of manifests: the files of the operations and fragments among the definitions that
-- they bring, which are all accepted, and how many there are
pub record IsMadeOf (ms : List GivenManifest) (made : FromManifests) : Type 0 where
  pub brought : List Brought
  pub bring : ManifestsBring ms brought
  pub accepted : AreAccepted brought
  pub files : AreFilesOf (operations_in brought) (fragments_in brought) (files_of made.files.items)
  pub operations : made.operations ≡ length (operations_in brought)
  pub fragments : made.fragments ≡ length (fragments_in brought)
