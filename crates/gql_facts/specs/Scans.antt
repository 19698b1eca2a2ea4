-- Helper definitions for private contracts: what a scan adds to a list of keys and to the record of
-- the world.
use Rattle.std.specs.Prelude.{◌≡◌, List, fold, Contains}
use Rattle.indexmap.specs.IndexSet.{insert_key}
use Rattle.gql_facts.specs.declared.key.Key.{Key}
use Rattle.gql_facts.specs.Keys.{is_key}
use Rattle.gql_facts.specs.Reads.{AskedAmong}
use Rattle.gql_facts.specs.Worlds.{Facts, Record}

-- the keys after these were added, each once
abbrev pub add_keys : List Key → List Key → List Key
add_keys kept ks = fold (insert_key is_key) kept ks

-- a world was asked for some of these keys
abbrev pub Records : Facts → List Key → Record → Record → Type 0
Records facts ks before after = AskedAmong facts (λ k. Contains ks k) before after

-- a scan of a part that reads these keys
pub record Scans (facts : Facts) (ks : List Key)
    (old : List Key) (before : Record) (new : List Key) (after : Record) : Type 0 where
  pub keys : new ≡ add_keys old ks
  pub records : Records facts ks before after
