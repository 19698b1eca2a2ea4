-- What is known before an edit, from the verdicts that are kept.
use Rattle.std.proofs.Common.{◌≡◌, List, [], refl, sym, subst, Contains}
use Rattle.gql_ast.specs.declared.definition.Definition.{Definition}
use Rattle.gql_ast.specs.declared.files.Files.{Files}
use Rattle.gql_ast.specs.declared.profile.Profile.{Profile}
use Rattle.gql_facts.specs.Facts.{fact_of}
use Rattle.gql_facts.specs.ListMembers.{Contains-nil}
use Rattle.gql_facts.specs.Worlds.{Facts}
use Rattle.gql_pairs.specs.Groups.{KeptGroup}
use Rattle.gql_pairs.specs.Tables.{AllHold}
use Rattle.gql_registry.specs.Keeping.{ArePairsBefore, ArePairsOf, IsKept, IsKnownBefore, IsKnownOf, IsShelfOf}
use Rattle.gql_registry.specs.declared.report.Known.{Known}
use Rattle.gql_verdict.specs.DocumentEdits.{ChangesOnly}
use Rattle.gql_verdict.specs.FileOrder.{AreFilesPlaced}
use Rattle.gql_verdict.specs.Shelves.{Shelved, nothing_shelved}
use Rattle.gql_verdict.specs.Verdicts.{Judgement}
use Rattle.gql_verdict.specs.declared.touched.Touched.{Touched}
use Rattle.gql_verdict.specs.declared.touched.Touched.TheVariants.{All, File, Schema}

-- the verdicts held in the files before the edit, which changes no other answers and no other
-- definitions
pub known : (before after : Files) (shelf : List Judgement) (t : Touched) → AreFilesPlaced after.documents → IsShelfOf before shelf → ChangesOnly t before after → IsKnownBefore after shelf t
known before after shelf All placed current only = tt
known before after shelf (File edit) placed current only = (
  λ d c other. subst (λ (ds : List Definition). Contains ds d) (sym current.each) (only.definitions placed d c other),
  fact_of before,
  record { held = current.holds; unchanged = only.answers },
)
known before after shelf (Schema edit) placed current only = (
  λ d c other. subst (λ (ds : List Definition). Contains ds d) (sym current.each) (only.definitions placed d c other),
  fact_of before,
  record { held = current.holds; unchanged = only.answers },
)

-- what is kept of pairs of fragments held in the files before the edit, which changes no other answers
pub pairs_known : (before after : Files) (pairs : List KeptGroup) (t : Touched) → ArePairsOf before pairs → ChangesOnly t before after → ArePairsBefore after pairs t
pairs_known before after pairs All hold only = tt
pairs_known before after pairs (File edit) hold only = (fact_of before, hold, only.answers)
pairs_known before after pairs (Schema edit) hold only = (fact_of before, hold, only.answers)

-- without entries all hold
pub no_pairs : (facts : Facts) → AllHold facts []
no_pairs facts n m k (group, there, is) = absurd (Contains-nil group there)

-- without files nothing is to be kept
pub none_current : (profile : Profile) (shelf : Shelved) → shelf ≡ nothing_shelved → IsShelfOf (record { profile = profile; schema = []; documents = [] }) shelf.verdicts
none_current profile shelf is = rw is (record { each = refl; holds = λ v h. absurd (Contains-nil v h); keys = λ v h. absurd (Contains-nil v h) })

pub none_kept : (profile : Profile) (known : Known) (shelf : Shelved) → shelf ≡ nothing_shelved → IsKnownOf (record { profile = profile; schema = []; documents = [] }) known
    → IsKept (record { profile = profile; schema = []; documents = [] }) known shelf
none_kept profile known shelf is known_of = record {
  placed = λ file h. absurd (Contains-nil file h);
  known_of = known_of;
  current = none_current profile shelf is;
  pairs = rw is (no_pairs (fact_of (record { profile = profile; schema = []; documents = [] })));
}
