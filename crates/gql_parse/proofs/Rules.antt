-- The recursive rules: each takes a token before it comes to itself.
use Rattle.std.proofs.Common.{◌≡◌, ◌∙◌, ℕ, suc, List, [], ◌∷◌, Bool, true, false, refl, arith}
use Rattle.gql_text.specs.Lexeme.{Lexeme}
use Rattle.gql_text.specs.declared.token.Kind.{Kind}
use Rattle.gql_text.specs.declared.token.Kind.TheVariants as k
use Rattle.gql_ast.specs.declared.literal.Literal.{Literal}
use Rattle.gql_ast.specs.declared.type_ref.TypeRef.{TypeRef}
use Rattle.gql_ast.specs.declared.executable.Selection.{Selection}
use Rattle.gql_ast.specs.declared.executable.Selection.TheVariants as s
use Rattle.gql_grammar.specs.Symbol.{Phrase, ◌>>=◌, pure, token, before, kind_of, relaxed, sees, sees_name}
use Rattle.gql_grammar.proofs.Unrolled.{Agree, after, later, first, chosen, agree_further, unrolled}
use Rattle.gql_parse.specs.Names.{name}
use Rattle.gql_parse.specs.Values.{list_of, object_field_of, object_of, value_by, value_of, value}
use Rattle.gql_parse.specs.Types.{list_type_of, nullable_by, type_ref_of, type_ref}
use Rattle.gql_parse.specs.Directives.{optional_arguments, directives}
use Rattle.gql_parse.specs.Selections.{names, field_of, is_fragment_name, optional_condition, spread, inline_fragment_of, spread_or_inline_of, selection_by, selection_of, selections_of, set_of, set}

-- ---- values

list_agrees : (n : ℕ) (p q : Phrase Literal) → Agree n p q → Agree (suc n) (list_of p) (list_of q)
unfolding list_of
list_agrees n p q h ts less = later n ts _ _ _ less ((token k.LeftBracket).takes ts) (λ mark us fewer. first _ _ _ (agree_further n (before k.RightBracket) p q [] h us fewer))

object_field_agrees : (n : ℕ) (p q : Phrase Literal) → Agree n p q → Agree n (object_field_of p) (object_field_of q)
unfolding object_field_of
object_field_agrees n p q h ts less =
    after true n ts _ _ _ less (name.takes ts) (λ found us fewer. after true n us _ _ _ fewer ((token k.Colon).takes us) (λ colon vs few. first _ _ _ (h vs few)))

object_agrees : (n : ℕ) (p q : Phrase Literal) → Agree n p q → Agree (suc n) (object_of p) (object_of q)
unfolding object_of
object_agrees n p q h ts less =
    later n ts _ _ _ less ((token k.LeftBrace).takes ts)
    (λ mark us fewer. first _ _ _ (agree_further n (before k.RightBrace) (object_field_of p) (object_field_of q) [] (object_field_agrees n p q h) us fewer))

value_by_agrees : (constant : Bool) (n : ℕ) (p q : Phrase Literal) → Agree n p q → (kind : Kind) → Agree (suc n) (value_by constant p kind) (value_by constant q kind)
value_by_agrees constant n p q h k.LeftBracket = list_agrees n p q h
value_by_agrees constant n p q h k.LeftBrace = object_agrees n p q h
value_by_agrees constant n p q h _ = λ ts less. refl

pub value_is : (constant : Bool) (ts : List Lexeme) → (value constant).read ts ≡ (value_by constant (value constant) (kind_of ts)).read ts
unfolding value
value_is constant ts = unrolled (value_of constant) (λ n p q h us less. value_by_agrees constant n p q h (kind_of us) us less) ts

-- ---- type references

list_type_agrees : (n : ℕ) (p q : Phrase TypeRef) → Agree n p q → Agree (suc n) (list_type_of p) (list_type_of q)
unfolding list_type_of
list_type_agrees n p q h ts less = later n ts _ _ _ less ((token k.LeftBracket).takes ts) (λ mark us fewer. first _ _ _ (h us fewer))

nullable_agrees : (n : ℕ) (p q : Phrase TypeRef) → Agree n p q → (kind : Kind) → Agree (suc n) (nullable_by p kind) (nullable_by q kind)
nullable_agrees n p q h k.LeftBracket = list_type_agrees n p q h
nullable_agrees n p q h _ = λ ts less. refl

pub type_ref_is : (ts : List Lexeme) → type_ref.read ts ≡ (type_ref_of type_ref).read ts
unfolding type_ref
type_ref_is ts = unrolled type_ref_of (λ n p q h us less. first _ _ _ (nullable_agrees n p q h (kind_of us) us less)) ts

-- ---- selection sets

field_agrees : (n : ℕ) (p q : Phrase (List Selection)) → Agree n p q → Agree (suc n) (field_of p) (field_of q)
unfolding field_of
field_agrees n p q h ts less =
    later n ts _ _ _ less (names.takes ts) (λ named us fewer.
    after false n us _ _ _ fewer ((optional_arguments false).takes us) (λ given vs few.
    after false n vs _ _ _ few ((directives false).takes vs) (λ applied ws small.
    first _ _ _ (chosen (sees k.LeftBrace ws) (relaxed p) (relaxed q) (pure []) (pure []) ws (h ws small) refl))))

inline_agrees : (mark : Lexeme) (n : ℕ) (p q : Phrase (List Selection)) → Agree n p q → Agree n (inline_fragment_of mark p) (inline_fragment_of mark q)
unfolding inline_fragment_of
inline_agrees mark n p q h ts less =
    after false n ts _ _ _ less (optional_condition.takes ts) (λ on us fewer.
    after false n us _ _ _ fewer ((directives false).takes us) (λ applied vs few. first _ _ _ (h vs few)))

spread_or_inline_agrees : (n : ℕ) (p q : Phrase (List Selection)) → Agree n p q → Agree (suc n) (spread_or_inline_of p) (spread_or_inline_of q)
unfolding spread_or_inline_of
spread_or_inline_agrees n p q h ts less =
    later n ts _ _ _ less ((token k.Ellipsis).takes ts) (λ mark us fewer.
    let spreads = spread mark >>= (λ found. pure (s.Spread found)) in
    let inlines = λ (v : Phrase (List Selection)). inline_fragment_of mark v >>= (λ found. pure (s.InlineFragment found)) in
    chosen (sees_name is_fragment_name us) spreads spreads (inlines p) (inlines q) us refl (first _ _ _ (inline_agrees mark n p q h us fewer)))

selection_by_agrees : (n : ℕ) (p q : Phrase (List Selection)) → Agree n p q → (kind : Kind) → Agree (suc n) (selection_by p kind) (selection_by q kind)
selection_by_agrees n p q h k.Name = λ ts less. first _ _ _ (field_agrees n p q h ts less)
selection_by_agrees n p q h k.Ellipsis = spread_or_inline_agrees n p q h
selection_by_agrees n p q h _ = λ ts less. refl

selection_agrees : (n : ℕ) (p q : Phrase (List Selection)) → Agree n p q → Agree n (selection_of p) (selection_of q)
unfolding selection_of
selection_agrees n p q h ts less = selection_by_agrees n p q h (kind_of ts) ts (omega arith)

selections_agree : (n : ℕ) (p q : Phrase (List Selection)) → Agree n p q → Agree n (selections_of p) (selections_of q)
selections_agree n p q h ts less =
    first _ _ _ (selection_agrees n p q h ts less)
    ∙ after true n ts _ _ _ less ((selection_of q).takes ts) (λ x us fewer. agree_further n (before k.RightBrace) (selection_of p) (selection_of q) (x ∷ []) (selection_agrees n p q h) us fewer)

set_agrees : (n : ℕ) (p q : Phrase (List Selection)) → Agree n p q → Agree (suc n) (set_of p) (set_of q)
unfolding set_of
set_agrees n p q h ts less = later n ts _ _ _ less ((token k.LeftBrace).takes ts) (λ mark us fewer. first _ _ _ (selections_agree n p q h us fewer))

pub set_is : (ts : List Lexeme) → set.read ts ≡ (set_of set).read ts
unfolding set
set_is ts = unrolled set_of (λ n p q h us less. set_agrees n p q h us less) ts
