-- What a framer holds: the bytes of an unfinished request, and the limit of bodies that it was given.
use Rattle.std.specs.Prelude.{ℕ, List, []}

-- the most bytes of a body, and the bytes of an unfinished request
pub record Framing : Type 0 where
  pub limit : ℕ
  pub bytes : List ℕ

-- this limit, and no bytes
abbrev pub begun : ℕ → Framing
begun limit = record { limit = limit; bytes = [] }
