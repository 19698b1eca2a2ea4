-- The numbers of fields, by the columns of their aspects.
use Rattle.std.specs.Prelude.{◌≡◌, ◌+◌, ◌<◌, ℕ, List, [], ◌∷◌, ◌++◌, length, take, Some, None}
use Rattle.std.proofs.Common.{ap, sym, ◌∙◌, subst, get_or, arith}
use Rattle.std.proofs.lemmas.List.{take_more, get_or-map, length-map}
use Rattle.std.proofs.lemmas.Option.{slice_get-get_or}
use Rattle.gql_facts.specs.ListMembers.{some_same}
use Rattle.gql_clashes.specs.declared.sets.NumberedField.{NumberedField}
use Rattle.gql_merge.specs.Known.{info_in}
use Rattle.gql_merge.specs.Numbers.{AreColumns, AreNumbersOf, HasPlaces, IsNumberAt, IsNumberOf, IsPlace, aspect_of, aspects_of, place_in}
use Rattle.gql_merge.specs.declared.columns.Aspect.{Aspect}
use Rattle.gql_merge.specs.declared.columns.Aspect.TheVariants as aspect
use Rattle.gql_merge.specs.declared.columns.Columns.{Columns}
use Rattle.gql_merge.specs.declared.flat.FlatField.{FlatField}

-- a column is as long as the fields
pub column_length : (a : Aspect) (all : List FlatField) (ns : List ℕ) → HasPlaces (aspects_of a all) ns → length ns ≡ length all
column_length a all ns places =
    let T = aspects_of a all in
    sym (length-map ns Some) ∙ ap length places ∙ length-map T (λ t. place_in t T) ∙ length-map all (λ (x : FlatField). aspect_of a (info_in x.known))

-- and has the place of each
pub place_at : (a : Aspect) (all : List FlatField) (ns : List ℕ) (i n : ℕ) (d : FlatField) → HasPlaces (aspects_of a all) ns → i < length all → get_or ns i n ≡ n
    → IsPlace a all (get_or all i d) n
place_at a all ns i n d places within item =
    let T = aspects_of a all in
    let inside : i < length ns = rw (column_length a all ns places) within in
    let inside' : i < length T = rw (length-map all (λ (x : FlatField). aspect_of a (info_in x.known))) within in
    sym (ap Some (sym item) ∙ sym (get_or-map Some ns i n None inside) ∙ ap (λ l. get_or l i None) places
    ∙ get_or-map (λ t. place_in t T) T i (aspect_of a (info_in d.known)) None inside'
    ∙ ap (λ t. place_in t T) (get_or-map (λ (x : FlatField). aspect_of a (info_in x.known)) all i d (aspect_of a (info_in d.known)) within))

-- one field more
numbers_end : (all xs : List FlatField) (ns : List NumberedField) (x : FlatField) (n : NumberedField)
    → AreNumbersOf all xs ns → IsNumberOf all x n → AreNumbersOf all (xs ++ x ∷ []) (ns ++ n ∷ [])
numbers_end all [] [] x n d i = (i, tt)
numbers_end all [] (m ∷ ns) x n d i = absurd d
numbers_end all (y ∷ xs) [] x n d i = absurd d
numbers_end all (y ∷ xs) (m ∷ ns) x n d i = (d.0, numbers_end all xs ns x n d.1 i)

pub numbers_more : (all rest : List FlatField) (i : ℕ) (ns new : List NumberedField) (n : NumberedField) → i < length rest → rest ≡ all
    → AreNumbersOf all (take i rest) ns → IsNumberAt all i n → new ≡ ns ++ n ∷ [] → AreNumbersOf all (take (i + 1) rest) new
numbers_more all [] i ns new n within same before at pushed = absurd (omega (arith, within))
numbers_more all (d ∷ rest) i ns new n within same before at pushed =
    subst (λ l. AreNumbersOf all (take (i + 1) (d ∷ rest)) l) (sym pushed)
    (subst (λ l. AreNumbersOf all l (ns ++ n ∷ [])) (sym (take_more (d ∷ rest) i d within))
    (numbers_end all (take i (d ∷ rest)) ns (get_or (d ∷ rest) i d) n before (subst (λ l. IsNumberOf all (get_or l i d) n) (sym same) (at d))))

-- all aspects of a field
pub number_at : (all : List FlatField) (c : Columns) (i : ℕ) (x d : FlatField) (n : NumberedField) → AreColumns all c → i < length all → get_or all i x ≡ x
    → get_or c.files.items i n.file ≡ n.file → n.start ≡ (info_in x.known).start.offset
    → get_or c.names.items i n.response_name ≡ n.response_name → get_or c.parents.items i n.parent ≡ n.parent
    → n.of_object ≡ x.known.of_object → get_or c.calls.items i n.call ≡ n.call → get_or c.shapes.items i n.shape ≡ n.shape
    → n.below ≡ x.below → IsNumberOf all (get_or all i d) n
number_at all c i x d n columns within item file start name parent object call shape below =
    subst (λ y. IsNumberOf all y n) (sym item ∙ get_or-within all i x d within) (record {
      file = subst (λ y. IsPlace aspect.File all y n.file) item (place_at aspect.File all c.files.items i n.file x columns.files within file);
      start = start;
      response_name = subst (λ y. IsPlace aspect.ResponseName all y n.response_name) item (place_at aspect.ResponseName all c.names.items i n.response_name x columns.names within name);
      parent = subst (λ y. IsPlace aspect.Parent all y n.parent) item (place_at aspect.Parent all c.parents.items i n.parent x columns.parents within parent);
      of_object = object;
      call = subst (λ y. IsPlace aspect.Call all y n.call) item (place_at aspect.Call all c.calls.items i n.call x columns.calls within call);
      shape = subst (λ y. IsPlace aspect.Shape all y n.shape) item (place_at aspect.Shape all c.shapes.items i n.shape x columns.shapes within shape);
      below = below;
    })
  where
    get_or-within : (xs : List FlatField) (i : ℕ) (x d : FlatField) → i < length xs → get_or xs i x ≡ get_or xs i d
    get_or-within xs i x d within = some_same (get_or xs i x) (get_or xs i d) (sym (slice_get-get_or xs i x within) ∙ slice_get-get_or xs i d within)
