-- A definition starts at the first of its tokens.
use Rattle.std.proofs.Common.{◌≡◌, ◌⊎◌, inl, inr, ℕ, List, [], ◌∷◌, Bool, true, false, Option, Some, None, Ok, Err, sym, ap, ◌∙◌, subst}
use Rattle.std.specs.Prelude.{codes}
use Rattle.gql_text.specs.Lexeme.{Lexeme}
use Rattle.gql_text.specs.declared.place.Place.{Place}
use Rattle.gql_text.specs.declared.token.Kind.{Kind}
use Rattle.gql_text.specs.declared.token.Kind.TheVariants as k
use Rattle.gql_ast.specs.Trees as trees
use Rattle.gql_ast.specs.declared.definition.Tree.{Tree}
use Rattle.gql_ast.specs.declared.definition.Tree.TheVariants as t
use Rattle.gql_ast.specs.declared.executable.Fragment.{Fragment}
use Rattle.gql_ast.specs.declared.executable.Operation.{Operation}
use Rattle.gql_ast.specs.declared.type_system.DirectiveDefinition.{DirectiveDefinition}
use Rattle.gql_ast.specs.declared.type_system.SchemaDefinition.{SchemaDefinition}
use Rattle.gql_ast.specs.declared.type_system.SchemaExtension.{SchemaExtension}
use Rattle.gql_ast.specs.declared.type_system.TypeDefinition.{TypeDefinition}
use Rattle.gql_ast.specs.declared.type_system.TypeExtension.{TypeExtension}
use Rattle.gql_grammar.specs.Symbol.{Symbol, Outcome, IsToken, Phrase, kind_of, place_of, text_of, pure, sees, sees_name, sees_word, token, name_where, by_test, choose, ◌>>=◌}
use Rattle.gql_parse.specs.Documents as executable
use Rattle.gql_parse.specs.Operations.{operation_word, named_operation, shorthand, operation, fragment}
use Rattle.gql_parse_sdl.specs.declared.description.Description.{Description}
use Rattle.gql_parse_sdl.specs.declared.type_keyword.TypeKeyword.{TypeKeyword}
use Rattle.gql_parse_sdl.specs.Descriptions.{string, block_string, description_by, start}
use Rattle.gql_parse_sdl.specs.DirectiveDefinitions.{directive_definition}
use Rattle.gql_parse_sdl.specs.DocumentFiles.{begins_executable, any_definition}
use Rattle.gql_parse_sdl.specs.Extensions as extensions
use Rattle.gql_parse_sdl.specs.Schemas.{schema}
use Rattle.gql_parse_sdl.specs.TypeSystem as system
use Rattle.gql_parse_sdl.specs.Types.{type_definition, type_keyword}
use Rattle.gql_parse_sdl.specs.Words.{by_text}

-- ---- the choices of a definition

abbrev fragment_tree : Phrase Tree
fragment_tree = do found ← fragment; pure (t.Fragment found)

abbrev operation_tree : Phrase Tree
operation_tree = do found ← operation; pure (t.Operation found)

abbrev schema_tree : Option Description → Phrase Tree
schema_tree described = do found ← schema described; pure (t.Schema found)

abbrev directive_tree : Option Description → Phrase Tree
directive_tree described = do found ← directive_definition described; pure (t.Directive found)

abbrev type_tree : Option Description → Phrase Tree
type_tree described = by_text (λ text. system.typed described (type_keyword text))

abbrev schema_extension_tree : Place → Phrase Tree
schema_extension_tree from = do found ← extensions.schema_extension from; pure (t.SchemaExtension found)

abbrev type_extension_tree : Place → Phrase Tree
type_extension_tree from = by_text (λ text. extensions.typed from (type_keyword text))

-- ---- parts of a derivation

-- the value that a symbol derives, and the tokens after it
abbrev Read : {A : Type 0} → A → List Lexeme → Outcome A
Read a rest = Ok (a, rest)

clash : {A : Type 0} {X : Type 0} {at : List Lexeme} {r : A × List Lexeme} → (let o : Outcome A = Err at in o) ≡ Ok r → X
clash h = absurd (let no : ⊥ = cc in no)

abbrev value_or : {A : Type 0} → A → Outcome A → A
value_or a (Ok r) = r.0
value_or a (Err at) = a

abbrev rest_or : {A : Type 0} → List Lexeme → Outcome A → List Lexeme
rest_or ts (Ok r) = r.1
rest_or ts (Err at) = ts

value_is : {A : Type 0} {a b : A} {ts rest : List Lexeme} → Read a ts ≡ Read b rest → a ≡ b
value_is {a = a} h = ap (value_or a) h

rest_is : {A : Type 0} {a b : A} {ts rest : List Lexeme} → Read a ts ≡ Read b rest → ts ≡ rest
rest_is {ts = ts} h = ap (rest_or ts) h

allowed : {A : Type 0} {d : ℕ → ℕ} {s : Bool} (p : Symbol d s A) (ts : List Lexeme) (o : Outcome A) → p.read ts ≡ o → p.Allows ts o
allowed p ts o h = subst (λ r. p.Allows ts r) h (p.holds ts)

-- what is derived by a choice is derived by one of the two
chosen : {A : Type 0} {d : ℕ → ℕ} {s : Bool} (b : Bool) (p q : Symbol d s A) (ts : List Lexeme) (o : Outcome A) → (choose b p q).Allows ts o → p.Allows ts o ⊎ q.Allows ts o
chosen true p q ts o h = inl h
chosen false p q ts o h = inr h

-- a token that is taken is the first
token_first : (test : List Lexeme → Bool) (ts : List Lexeme) (t : Lexeme) (rest : List Lexeme) → IsToken test ts (Ok (t, rest)) → place_of ts ≡ Some t.place
token_first test [] t rest h = clash h
token_first test (x ∷ ts) t rest h = ap (λ (l : Lexeme). Some l.place) h.1

kind_first : (kind : Kind) (ts : List Lexeme) (t : Lexeme) (rest : List Lexeme) → (token kind).Allows ts (Ok (t, rest)) → place_of ts ≡ Some t.place
unfolding token
kind_first kind ts t rest h = token_first (sees kind) ts t rest h

name_first : (test : List ℕ → Bool) (ts : List Lexeme) (t : Lexeme) (rest : List Lexeme) → (name_where test).Allows ts (Ok (t, rest)) → place_of ts ≡ Some t.place
unfolding name_where
name_first test ts t rest h = token_first (sees_name test) ts t rest h

-- ---- operations and fragments

shorthand_first : (ts : List Lexeme) (x : Operation) (rest : List Lexeme) → shorthand.Allows ts (Ok (x, rest)) → place_of ts ≡ Some x.place
unfolding shorthand
shorthand_first ts x rest h = elim h [
  | inl e ↦ clash e.2
  | inr mark ↦ elim mark.3 [
    | inl e ↦ clash e.2
    | inr set ↦ elim set.3 [
      | inl e ↦ clash e.2
      | inr close ↦ kind_first k.LeftBrace ts mark.0 mark.1 mark.2 ∙ ap (λ (o : Operation). Some o.place) (value_is close.3)
    ]
  ]
]

named_first : (ts : List Lexeme) (x : Operation) (rest : List Lexeme) → named_operation.Allows ts (Ok (x, rest)) → place_of ts ≡ Some x.place
unfolding named_operation operation_word
named_first ts x rest h = elim h [
  | inl e ↦ clash e.2
  | inr mark ↦ elim mark.3 [
    | inl e ↦ clash e.2
    | inr named ↦ elim named.3 [
      | inl e ↦ clash e.2
      | inr variables ↦ elim variables.3 [
        | inl e ↦ clash e.2
        | inr applied ↦ elim applied.3 [
          | inl e ↦ clash e.2
          | inr set ↦ name_first _ ts mark.0 mark.1 mark.2 ∙ ap (λ (o : Operation). Some o.place) (value_is set.3)
        ]
      ]
    ]
  ]
]

fragment_first : (ts : List Lexeme) (x : Fragment) (rest : List Lexeme) → fragment.Allows ts (Ok (x, rest)) → place_of ts ≡ Some x.place
unfolding fragment
fragment_first ts x rest h = elim h [
  | inl e ↦ clash e.2
  | inr mark ↦ elim mark.3 [
    | inl e ↦ clash e.2
    | inr named ↦ elim named.3 [
      | inl e ↦ clash e.2
      | inr on ↦ elim on.3 [
        | inl e ↦ clash e.2
        | inr applied ↦ elim applied.3 [
          | inl e ↦ clash e.2
          | inr set ↦ name_first _ ts mark.0 mark.1 mark.2 ∙ ap (λ (f : Fragment). Some f.place) (value_is set.3)
        ]
      ]
    ]
  ]
]

executable_first : (ts : List Lexeme) (x : Tree) (rest : List Lexeme) → executable.definition.Allows ts (Ok (x, rest)) → place_of ts ≡ Some (trees.place_of x)
unfolding executable.definition
executable_first ts x rest h = elim (chosen (sees_word (codes "fragment") ts) fragment_tree operation_tree ts (Ok (x, rest)) h) [
  | inl by ↦ elim by [
    | inl e ↦ clash e.2
    | inr found ↦ fragment_first ts found.0 found.1 found.2 ∙ ap (λ t. Some (trees.place_of t)) (value_is found.3)
  ]
  | inr by ↦ elim by [
    | inl e ↦ clash e.2
    | inr found ↦
        elim (chosen (sees k.LeftBrace ts) shorthand named_operation ts (Ok (found.0, found.1)) found.2) [
          | inl short ↦ shorthand_first ts found.0 found.1 short
          | inr named ↦ named_first ts found.0 found.1 named
        ]
        ∙ ap (λ t. Some (trees.place_of t)) (value_is found.3)
  ]
]

-- ---- definitions of the type system

-- a definition behind this description, if there is one, starts at it, or else at its first token
abbrev StartsBehind : Option Description → List Lexeme → Place → Type 0
StartsBehind described ts place = (first : Place) × (place_of ts ≡ Some first) × (place ≡ start described first)

schema_first : (described : Option Description) (ts : List Lexeme) (x : SchemaDefinition) (rest : List Lexeme) → (schema described).Allows ts (Ok (x, rest)) → StartsBehind described ts x.place
unfolding schema
schema_first described ts x rest h = elim h [
  | inl e ↦ clash e.2
  | inr mark ↦ elim mark.3 [
    | inl e ↦ clash e.2
    | inr applied ↦ elim applied.3 [
      | inl e ↦ clash e.2
      | inr found ↦ (mark.0.place, name_first _ ts mark.0 mark.1 mark.2, sym (ap (λ (d : SchemaDefinition). d.place) (value_is found.3)))
    ]
  ]
]

directive_first : (described : Option Description) (ts : List Lexeme) (x : DirectiveDefinition) (rest : List Lexeme) → (directive_definition described).Allows ts (Ok (x, rest)) → StartsBehind described ts x.place
unfolding directive_definition
directive_first described ts x rest h = elim h [
  | inl e ↦ clash e.2
  | inr mark ↦ elim mark.3 [
    | inl e ↦ clash e.2
    | inr at ↦ elim at.3 [
      | inl e ↦ clash e.2
      | inr found ↦ elim found.3 [
        | inl e ↦ clash e.2
        | inr taken ↦ elim taken.3 [
          | inl e ↦ clash e.2
          | inr again ↦ elim again.3 [
            | inl e ↦ clash e.2
            | inr places ↦ (mark.0.place, name_first _ ts mark.0 mark.1 mark.2, sym (ap (λ (d : DirectiveDefinition). d.place) (value_is places.3)))
          ]
        ]
      ]
    ]
  ]
]

type_first : (described : Option Description) (keyword : TypeKeyword) (ts : List Lexeme) (x : TypeDefinition) (rest : List Lexeme) → (type_definition described keyword).Allows ts (Ok (x, rest))
    → StartsBehind described ts x.place
unfolding type_definition
type_first described keyword ts x rest h = elim h [
  | inl e ↦ clash e.2
  | inr mark ↦ elim mark.3 [
    | inl e ↦ clash e.2
    | inr found ↦ elim found.3 [
      | inl e ↦ clash e.2
      | inr parts ↦ (mark.0.place, name_first _ ts mark.0 mark.1 mark.2, sym (ap (λ (d : TypeDefinition). d.place) (value_is parts.3)))
    ]
  ]
]

-- a tree starts where what it holds does
behind_tree : (described : Option Description) (ts : List Lexeme) (p : Place) (x : Tree) → StartsBehind described ts p → p ≡ trees.place_of x → StartsBehind described ts (trees.place_of x)
behind_tree described ts p x h same = (h.0, h.1, sym same ∙ h.2)

keyword_first : (described : Option Description) (o : Option TypeKeyword) (ts : List Lexeme) (x : Tree) (rest : List Lexeme) → (system.typed described o).Allows ts (Ok (x, rest))
    → StartsBehind described ts (trees.place_of x)
keyword_first described None ts x rest h = clash h
keyword_first described (Some keyword) ts x rest h = elim h [
  | inl e ↦ clash e.2
  | inr found ↦ behind_tree described ts found.0.place x (type_first described keyword ts found.0 found.1 found.2) (ap trees.place_of (value_is found.3))
]

defined_first : (described : Option Description) (ts : List Lexeme) (x : Tree) (rest : List Lexeme) → (system.defined described).Allows ts (Ok (x, rest)) → StartsBehind described ts (trees.place_of x)
defined_first described ts x rest h = elim (chosen (sees_word (codes "schema") ts) (schema_tree described) (by_test (sees_word (codes "directive")) (directive_tree described) (type_tree described)) ts (Ok (x, rest)) h) [
  | inl by ↦ elim by [
    | inl e ↦ clash e.2
    | inr found ↦ behind_tree described ts found.0.place x (schema_first described ts found.0 found.1 found.2) (ap trees.place_of (value_is found.3))
  ]
  | inr other ↦ elim (chosen (sees_word (codes "directive") ts) (directive_tree described) (type_tree described) ts (Ok (x, rest)) other) [
    | inl by ↦ elim by [
      | inl e ↦ clash e.2
      | inr found ↦ behind_tree described ts found.0.place x (directive_first described ts found.0 found.1 found.2) (ap trees.place_of (value_is found.3))
    ]
    | inr by ↦ keyword_first described (type_keyword (text_of ts)) ts x rest by
  ]
]

-- a description is the first token, or no token is taken
abbrev Described : List Lexeme → Option Description → List Lexeme → Type 0
Described ts described middle = ((described ≡ None) × (ts ≡ middle)) ⊎ ((d : Description) × (described ≡ Some d) × (place_of ts ≡ Some d.place))

string_first : (ts : List Lexeme) (x : Option Description) (rest : List Lexeme) → string.Allows ts (Ok (x, rest)) → Described ts x rest
unfolding string
string_first ts x rest h = elim h [
  | inl e ↦ clash e.2
  | inr t ↦ inr (_, sym (value_is t.3), kind_first k.StringValue ts t.0 t.1 t.2)
]

block_first : (ts : List Lexeme) (x : Option Description) (rest : List Lexeme) → block_string.Allows ts (Ok (x, rest)) → Described ts x rest
unfolding block_string
block_first ts x rest h = elim h [
  | inl e ↦ clash e.2
  | inr t ↦ inr (_, sym (value_is t.3), kind_first k.BlockString ts t.0 t.1 t.2)
]

none_first : (ts : List Lexeme) (x : Option Description) (rest : List Lexeme) → Read None ts ≡ Read x rest → Described ts x rest
none_first ts x rest h = inl (sym (value_is h), rest_is h)

by_kind_first : (kind : Kind) (ts : List Lexeme) (x : Option Description) (rest : List Lexeme) → (description_by kind).Allows ts (Ok (x, rest)) → Described ts x rest
by_kind_first k.StringValue ts x rest h = string_first ts x rest h
by_kind_first k.BlockString ts x rest h = block_first ts x rest h
by_kind_first k.EndOfText ts x rest h = none_first ts x rest h
by_kind_first k.Bang ts x rest h = none_first ts x rest h
by_kind_first k.Dollar ts x rest h = none_first ts x rest h
by_kind_first k.Ampersand ts x rest h = none_first ts x rest h
by_kind_first k.LeftParenthesis ts x rest h = none_first ts x rest h
by_kind_first k.RightParenthesis ts x rest h = none_first ts x rest h
by_kind_first k.Ellipsis ts x rest h = none_first ts x rest h
by_kind_first k.Colon ts x rest h = none_first ts x rest h
by_kind_first k.Equals ts x rest h = none_first ts x rest h
by_kind_first k.At ts x rest h = none_first ts x rest h
by_kind_first k.LeftBracket ts x rest h = none_first ts x rest h
by_kind_first k.RightBracket ts x rest h = none_first ts x rest h
by_kind_first k.LeftBrace ts x rest h = none_first ts x rest h
by_kind_first k.Pipe ts x rest h = none_first ts x rest h
by_kind_first k.RightBrace ts x rest h = none_first ts x rest h
by_kind_first k.Name ts x rest h = none_first ts x rest h
by_kind_first k.IntValue ts x rest h = none_first ts x rest h
by_kind_first k.FloatValue ts x rest h = none_first ts x rest h

-- a definition behind what is read as its description starts at the first token of both
behind_first : (ts middle : List Lexeme) (described : Option Description) (p : Place) → Described ts described middle → StartsBehind described middle p → place_of ts ≡ Some p
behind_first ts middle described p (inl none) s = ap place_of none.1 ∙ s.1 ∙ ap Some (sym (s.2 ∙ ap (λ o. start o s.0) none.0))
behind_first ts middle described p (inr d) s = d.2 ∙ ap Some (sym (s.2 ∙ ap (λ o. start o s.0) d.1))

system_first : (ts : List Lexeme) (x : Tree) (rest : List Lexeme) → system.definition.Allows ts (Ok (x, rest)) → place_of ts ≡ Some (trees.place_of x)
unfolding system.definition
system_first ts x rest h = elim h [
  | inl e ↦ clash e.2
  | inr part ↦ behind_first ts part.1 part.0 (trees.place_of x) (by_kind_first (kind_of ts) ts part.0 part.1 part.2) (defined_first part.0 part.1 x rest part.3)
]

-- ---- extensions

type_extension_first : (from : Place) (keyword : TypeKeyword) (ts : List Lexeme) (x : TypeExtension) (rest : List Lexeme) → (extensions.type_extension from keyword).Allows ts (Ok (x, rest)) → from ≡ x.place
unfolding extensions.type_extension
type_extension_first from keyword ts x rest h = elim h [
  | inl e ↦ clash e.2
  | inr mark ↦ elim mark.3 [
    | inl e ↦ clash e.2
    | inr found ↦ elim found.3 [
      | inl e ↦ clash e.2
      | inr some ↦ elim some.3 [
        | inl e ↦ clash e.2
        | inr parts ↦ ap (λ (e : TypeExtension). e.place) (value_is parts.3)
      ]
    ]
  ]
]

schema_extension_first : (from : Place) (ts : List Lexeme) (x : SchemaExtension) (rest : List Lexeme) → (extensions.schema_extension from).Allows ts (Ok (x, rest)) → from ≡ x.place
unfolding extensions.schema_extension
schema_extension_first from ts x rest h = elim h [
  | inl e ↦ clash e.2
  | inr mark ↦ elim mark.3 [
    | inl e ↦ clash e.2
    | inr some ↦ elim some.3 [
      | inl e ↦ clash e.2
      | inr applied ↦ elim applied.3 [
        | inl e ↦ clash e.2
        | inr found ↦ ap (λ (e : SchemaExtension). e.place) (value_is found.3)
      ]
    ]
  ]
]

extension_keyword_first : (from : Place) (o : Option TypeKeyword) (ts : List Lexeme) (x : Tree) (rest : List Lexeme) → (extensions.typed from o).Allows ts (Ok (x, rest)) → from ≡ trees.place_of x
extension_keyword_first from None ts x rest h = clash h
extension_keyword_first from (Some keyword) ts x rest h = elim h [
  | inl e ↦ clash e.2
  | inr found ↦ type_extension_first from keyword ts found.0 found.1 found.2 ∙ ap trees.place_of (value_is found.3)
]

extended_first : (from : Place) (ts : List Lexeme) (x : Tree) (rest : List Lexeme) → (extensions.extended from).Allows ts (Ok (x, rest)) → from ≡ trees.place_of x
extended_first from ts x rest h = elim (chosen (sees_word (codes "schema") ts) (schema_extension_tree from) (type_extension_tree from) ts (Ok (x, rest)) h) [
  | inl by ↦ elim by [
    | inl e ↦ clash e.2
    | inr found ↦ schema_extension_first from ts found.0 found.1 found.2 ∙ ap trees.place_of (value_is found.3)
  ]
  | inr by ↦ extension_keyword_first from (type_keyword (text_of ts)) ts x rest by
]

extension_first : (ts : List Lexeme) (x : Tree) (rest : List Lexeme) → extensions.extension.Allows ts (Ok (x, rest)) → place_of ts ≡ Some (trees.place_of x)
unfolding extensions.extension
extension_first ts x rest h = elim h [
  | inl e ↦ clash e.2
  | inr mark ↦ name_first _ ts mark.0 mark.1 mark.2 ∙ ap Some (extended_first mark.0.place mark.1 x rest mark.3)
]

-- ---- definitions of any kind

pub any_first : (ts : List Lexeme) (x : Tree) (rest : List Lexeme) → any_definition.read ts ≡ Ok (x, rest) → place_of ts ≡ Some (trees.place_of x)
any_first ts x rest h = elim (chosen (begins_executable ts) executable.definition system.type_system ts (Ok (x, rest)) (allowed any_definition ts (Ok (x, rest)) h)) [
  | inl by ↦ executable_first ts x rest by
  | inr by ↦ elim (chosen (sees_word (codes "extend") ts) extensions.extension system.definition ts (Ok (x, rest)) by) [
    | inl extends ↦ extension_first ts x rest extends
    | inr defines ↦ system_first ts x rest defines
  ]
]
