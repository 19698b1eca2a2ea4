-- The head of a request (RFC 9112, sections 2 to 7): whether it is accepted, and how long its body
-- is. Which bytes are a head is the grammar of httparse.
use Rattle.std.specs.Prelude.{ℕ, ◌≤◌, List, [], ◌∷◌, length, take, drop, map, Bool, false, not, ◌&&◌, ◌||◌, nat_le, ◌==◌, if◌then◌else◌, codes, Option, Some, None}
use Rattle.std.specs.List.{list_all, list_any}
use Rattle.std.specs.Str.{str_eq_ignore_ascii_case, bytes_eq}
use Rattle.httparse.specs.Grammar.{RequestHead, ReadsRequest, is_ows, skip_ows}
use Rattle.httparse.specs.Spans.{name_and_value}
use Rattle.gql_wire.specs.Number.{is_number, number_from}
use Rattle.gql_wire.specs.declared.head.HeadRefusal.{HeadRefusal}
use Rattle.gql_wire.specs.declared.head.HeadRefusal.TheVariants.{BadHead, LongHead, LongBody, TransferCoding, BadLength}

-- the error code of a refused head
abbrev pub number_of : HeadRefusal → ℕ
number_of BadHead = 301
number_of LongHead = 302
number_of LongBody = 303
number_of TransferCoding = 304
number_of BadLength = 307

-- a field's name, and its value without the spaces and tabs around it
abbrev pub NameAndValue : Type 0
NameAndValue = List ℕ × List ℕ

-- the parts of a head: method, target, minor version (0 for 1.0, 1 for 1.1), and fields in order
pub record Parts : Type 0 where
  pub method : List ℕ
  pub target : List ℕ
  pub minor : ℕ
  pub fields : List NameAndValue

-- the parts of a head, as the grammar reads them
abbrev pub parts_of : RequestHead → Parts
parts_of h = record {
  method = h.method;
  target = h.target;
  minor = h.minor;
  fields = map name_and_value h.fields;
}

-- The outcome of a head. `refuse`: the refusal, and whether the method is HEAD, so that the answer
-- has no body. `expects`: method, target, the length of the body, and whether the connection
-- closes.
pub data Outcome : Type 0 where
  refuse : HeadRefusal → Bool → Outcome
  expects : List ℕ → List ℕ → ℕ → Bool → Outcome

-- whether the field has this name, whatever the case of its letters
abbrev pub is_named : List ℕ → NameAndValue → Bool
is_named name field = str_eq_ignore_ascii_case field.0 name

-- the values of the fields with this name, in order
abbrev pub values_of : List ℕ → List NameAndValue → List (List ℕ)
values_of name [] = []
values_of name (f ∷ fs) = if is_named name f then f.1 ∷ values_of name fs else values_of name fs

-- whether each of the values is this number
abbrev pub all_are : ℕ → List (List ℕ) → Bool
all_are n values = list_all (λ v. is_number v && number_from 0 v == n) values

-- the body length by the values of the fields Content-Length: 0 without a value, and `None` if a
-- value is not 1 to 18 digits, or two are different numbers
abbrev pub content_length : List (List ℕ) → Option ℕ
content_length [] = Some 0
content_length (v ∷ vs) =
    if is_number v && all_are (number_from 0 v) vs then Some (number_from 0 v) else None

-- whether the byte is not a comma
abbrev pub is_item_byte : ℕ → Bool
is_item_byte b = not (b == 44)

-- the items, with this byte at the front of the first
abbrev pub put_first : ℕ → List (List ℕ) → List (List ℕ)
put_first b [] = (b ∷ []) ∷ []
put_first b (item ∷ items) = (b ∷ item) ∷ items

-- the items of a list, which commas separate
abbrev pub items_of : List ℕ → List (List ℕ)
items_of [] = [] ∷ []
items_of (b ∷ bs) = if is_item_byte b then put_first b (items_of bs) else [] ∷ items_of bs

-- whether the item is `close`, whatever the case of its letters, with spaces and tabs around it
abbrev pub is_close : List ℕ → Bool
is_close item =
    let word = skip_ows item in
    str_eq_ignore_ascii_case (take 5 word) (codes "close") && list_all is_ows (drop 5 word)

-- whether `close` is an item of the value
abbrev pub names_close : List ℕ → Bool
names_close value = list_any is_close (items_of value)

-- whether the connection closes after the request: it is of HTTP/1.0, or asks for that
abbrev pub closes_after : Parts → Bool
closes_after p = p.minor == 0 || list_any names_close (values_of (codes "connection") p.fields)

-- whether the method is HEAD
abbrev pub is_head : List ℕ → Bool
is_head method = bytes_eq method (codes "HEAD")

-- the most bytes of a body, unless another limit is given
abbrev pub body_limit : ℕ
body_limit = 262144

-- the greatest limit of bodies that may be given
abbrev pub greatest_body_limit : ℕ
greatest_body_limit = 67108864

-- the outcome of a head without Transfer-Encoding, by its body length and the limit of bodies
abbrev pub with_length : ℕ → Parts → Option ℕ → Outcome
with_length limit p None = refuse BadLength (is_head p.method)
with_length limit p (Some n) =
    if nat_le n limit then expects p.method p.target n (closes_after p)
    else refuse LongBody (is_head p.method)

-- the outcome of a head with these parts, by the limit of bodies
abbrev pub outcome_of : ℕ → Parts → Outcome
outcome_of limit p =
    if list_any (is_named (codes "transfer-encoding")) p.fields
    then refuse TransferCoding (is_head p.method)
    else with_length limit p (content_length (values_of (codes "content-length") p.fields))

-- the bytes are this head and nothing more, and it has at most 32 fields
pub record IsRead (head : List ℕ) (h : RequestHead) : Type 0 where
  pub reads : ReadsRequest head h []
  pub few : length h.fields ≤ 32

-- no head with at most `room` fields is these bytes and nothing more
abbrev pub IsNoHead : ℕ → List ℕ → Type 0
IsNoHead room head = (h : RequestHead) → ReadsRequest head h [] → length h.fields ≤ room → ⊥

-- these bytes, as a head, have this outcome, by the limit of bodies
pub data HasOutcome (limit : ℕ) : List ℕ → Outcome → Type 0 where
  unread : {head : List ℕ} → IsNoHead 32 head → HasOutcome limit head (refuse BadHead false)
  read : {head : List ℕ} {h : RequestHead} → IsRead head h
      → HasOutcome limit head (outcome_of limit (parts_of h))
