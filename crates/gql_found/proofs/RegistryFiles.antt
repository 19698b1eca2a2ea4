-- One file of a registry more.
use Rattle.std.proofs.Common.{◌≡◌, ◌<◌, ◌+◌, ◌∙◌, ℕ, suc, List, [], ◌∷◌, ◌++◌, Bool, true, false, cond, Some, None, arith, length, take, get_or, map, refl, sym, ap}
use Rattle.std.specs.Option.{option_or}
use Rattle.std.proofs.lemmas.List.{length-map}
use Rattle.gql_ast.specs.declared.fault.FileSide.{FileSide}
use Rattle.gql_found.proofs.Lists.{mapped_next, take_next}
use Rattle.gql_found.specs.RegistryFiles.{index_from, is_under, source_of}
use Rattle.gql_found.specs.Spots.{IsNamed, files_of, index_of}
use Rattle.gql_found.specs.declared.registry_files.FileText.{FileText}
use Rattle.gql_found.specs.declared.sources.Sources.{Sources}

-- with a file after these, its name has its index, if none of these has that name
from_more : (i : ℕ) (side : FileSide) (name : List ℕ) (ts : List FileText) (t : FileText)
    → index_from i side name (ts ++ t ∷ []) ≡ option_or (index_from i side name ts) (cond (is_under side name t) (Some (i + length ts)) None)
from_more i side name [] t = let e : i ≡ i + 0 = omega arith in ap (λ n. cond (is_under side name t) (Some n) None) e
from_more i side name (u ∷ ts) t = by (is_under side name u) refl (from_more (suc i) side name ts t)
  where
    by : (b : Bool) → is_under side name u ≡ b
        → index_from (suc i) side name (ts ++ t ∷ []) ≡ option_or (index_from (suc i) side name ts) (cond (is_under side name t) (Some (suc i + length ts)) None)
        → index_from i side name ((u ∷ ts) ++ t ∷ []) ≡ option_or (index_from i side name (u ∷ ts)) (cond (is_under side name t) (Some (i + length (u ∷ ts))) None)
    by true is rest = rw is refl
    by false is rest =
        let e : suc i + length ts ≡ i + length (u ∷ ts) = omega arith in
        rw is (rest ∙ ap (λ n. option_or (index_from (suc i) side name ts) (cond (is_under side name t) (Some n) None)) e)

-- the index of each name, with one file more
pub indices_more : (ts : List FileText) (i : ℕ) (t : FileText) → i < length ts → t ≡ get_or ts i t → (old new : Sources) → files_of old ≡ map source_of (take i ts)
    → ((side : FileSide) (name : List ℕ) → index_of old side name ≡ index_from 0 side name (take i ts)) → IsNamed t.side t.name.now (length (files_of old)) old new
    → (side : FileSide) (name : List ℕ) → index_of new side name ≡ index_from 0 side name (take (i + 1) ts)
indices_more ts i t within is old new listed before named side name =
    let plus : length (take i ts) ≡ 0 + length (take i ts) = omega arith in
    let count : length (files_of old) ≡ 0 + length (take i ts) = ap length listed ∙ length-map (take i ts) source_of ∙ plus in
    named side name
    ∙ ap (λ n. option_or (index_of old side name) (cond (is_under side name t) (Some n) None)) count
    ∙ ap (λ o. option_or o (cond (is_under side name t) (Some (0 + length (take i ts))) None)) (before side name)
    ∙ sym (from_more 0 side name (take i ts) t)
    ∙ ap (index_from 0 side name) (sym (take_next ts i t within is))

-- the texts, with one file more
pub texts_more : (ts : List FileText) (i : ℕ) (t : FileText) → i < length ts → t ≡ get_or ts i t → (old new : Sources) → files_of old ≡ map source_of (take i ts)
    → files_of new ≡ files_of old ++ source_of t ∷ [] → files_of new ≡ map source_of (take (i + 1) ts)
texts_more ts i t within is old new before after =
    after ∙ ap (λ xs. xs ++ source_of t ∷ []) before ∙ sym (mapped_next source_of ts i t within is)
