-- Fingerprints: what a code scanner knows a fault by.
use Rattle.std.specs.Prelude.{ℕ, List, ◌++◌, length, codes, decimal}
use Rattle.hex.specs.Hex.{encode_lower}
use Rattle.sha2.specs.Sha256.{sha256}
use Rattle.gql_findings.specs.Marks.{Mark}

-- a text with its length before it, so that two lists of texts differ where they are joined
unfoldable pub part_text : List ℕ → List ℕ
part_text text = decimal (length text) ++ codes ":" ++ text

-- all parts of a mark, joined
unfoldable pub mark_text : Mark → List ℕ
mark_text m = decimal m.kind ++ part_text m.rule ++ part_text m.about ++ part_text m.first
    ++ part_text m.second ++ part_text m.owner

-- the fingerprint of what has this mark
abbrev pub fingerprint : Mark → List ℕ
fingerprint m = encode_lower (sha256 (mark_text m))
