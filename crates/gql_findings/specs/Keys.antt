-- Helper definitions for private contracts: what the code's keys say.
use Rattle.std.specs.Borrow.{Bor}
use Rattle.std.specs.Prelude.{ℕ, Bool, List, map}
use Rattle.gql_findings.specs.Marks.{Mark, same_mark}
use Rattle.gql_findings.specs.declared.marks.Key.{Key}

-- the mark that a key says
abbrev pub mark_of : Key → Mark
mark_of k = record {
  kind = k.kind;
  rule = k.rule.now;
  about = k.about.now;
  first = k.first.now;
  second = k.second.now;
  owner = k.owner.now;
}

-- the marks that keys say
abbrev pub marks_of : List Key → List Mark
marks_of keys = map mark_of keys

-- whether two keys say the same mark
abbrev pub same_key : Key → Key → Bool
same_key a b = same_mark (mark_of a) (mark_of b)

-- the two texts that a pair says
abbrev pub texts_in : Bor (List ℕ) × Bor (List ℕ) → List ℕ × List ℕ
texts_in pair = (pair.0.now, pair.1.now)
