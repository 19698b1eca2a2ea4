-- Files, and the lines of their texts.
use Rattle.std.specs.Prelude.{ℕ, zero, suc, List, [], slice_get, unwrap_or}
pub use Rattle.gql_text.specs.Values.{lines_of}

-- a file: its path as it is shown, its path below its folder, and its text
pub record TextFile : Type 0 where
  pub label : List ℕ
  pub path : List ℕ
  pub text : List ℕ

-- the line of a number, counted from 1, without its end; empty where there is none
abbrev pub line_at : List ℕ → ℕ → List ℕ
line_at text zero = []
line_at text (suc n) = unwrap_or (slice_get (lines_of text) n) []
