-- What the definitions say of small cases, worked out by hand.
use Rattle.std.proofs.Common.{◌≡◌, ◌+◌, ◌++◌, ℕ, pos, negsuc, Bool, true, false, List, [], ◌∷◌, codes, Some, None, refl}
use Rattle.std.specs.Str.{chars}
use Rattle.apex_num.specs.declared.cell.Cell.{Cell}
use Rattle.apex_num.specs.declared.cell.Cell.TheVariants.{Null, Bool as Truth, Whole, Num, Text, Id}
use Rattle.apex_rows.specs.declared.query.CondOp.TheVariants.{Equal, Differs, Less, AtMost, More, AtLeast, Like}
use Rattle.apex_rows.specs.declared.query.SortKey.{SortKey}
use Rattle.apex_schema.specs.declared.rule.RuleOp.TheVariants as Op
use Rattle.apex_schema.specs.declared.schema.Access.TheVariants.{Edit}
use Rattle.apex_schema.specs.declared.schema.RollupBy.TheVariants.{Count, Sum, Min, Max}
use Rattle.apex_schema.specs.declared.schema.Schema.{Schema}
use Rattle.apex_schema.specs.declared.schema.Role.{Role}
use Rattle.apex_rows.specs.declared.row.Row.{Row}
use Rattle.row_meaning.specs.Cells.{compares, text_like}
use Rattle.row_meaning.specs.Stores.{put}
use Rattle.row_meaning.specs.Overlays.{Now, Gone, merged}
use Rattle.row_meaning.specs.Users.{user_id}
use Rattle.row_meaning.specs.Accesses.{has_role_above}
use Rattle.row_meaning.specs.Rollups.{rolled}
use Rattle.row_meaning.specs.Rules.{equals, rule_compares, is_blank}
use Rattle.row_meaning.specs.Queries.{key_cmp, row_cmp, sorted, path_value, plain}
use Rattle.std.specs.declared.cmp.Ordering.TheVariants.{Less as First, Greater as Last}
use Rattle.apex_schema.specs.declared.schema.FieldKind.{FieldKind}
use Rattle.apex_schema.specs.declared.schema.FieldKind.TheVariants as Kind
use Rattle.apex_schema.specs.declared.schema.Field.{Field}
use Rattle.apex_schema.specs.declared.schema.Mode.TheVariants.{Without}
use Rattle.apex_rows.specs.declared.query.Term.TheVariants.{Given}
use Rattle.apex_rows.specs.declared.query.Cond.{Cond}
use Rattle.apex_rows.specs.declared.query.Cond.TheOpen.{Cond-F}
use Rattle.apex_rows.specs.declared.query.Cond.TheViews.{roll-Cond}
use Rattle.apex_rows.specs.declared.query.Cond.TheFolds.{fold-roll-Cond}
use Rattle.apex_rows.specs.declared.query.Query.{Query}
use Rattle.apex_rows.specs.declared.query.Query.TheViews.{roll-Query, roll-SubQuery, out-roll-Query, out-roll-SubQuery}
use Rattle.apex_rows.specs.declared.query.SubQuery.{SubQuery}

-- ---- a null under each operator

equal_nulls : compares Equal Null Null ≡ true
equal_nulls = refl

equal_null : compares Equal (Truth true) Null ≡ false
equal_null = refl

differs_nulls : compares Differs Null Null ≡ false
differs_nulls = refl

differs_null : compares Differs Null (Num (pos 1)) ≡ true
differs_null = refl

less_null : compares Less Null (Num (pos 1)) ≡ false
less_null = refl

at_most_null : compares AtMost Null Null ≡ false
at_most_null = refl

more_null : compares More (Num (pos 1)) Null ≡ false
more_null = refl

at_least_null : compares AtLeast Null Null ≡ false
at_least_null = refl

like_null : compares Like Null (Text (codes "%")) ≡ false
like_null = refl

like_no_pattern : compares Like (Text (codes "a")) Null ≡ false
like_no_pattern = refl

-- ---- texts are compared without case

same_text : compares Equal (Text (codes "Acme")) (Text (codes "ACME")) ≡ true
same_text = refl

less_text : compares Less (Text (codes "B")) (Text (codes "a")) ≡ false
less_text = refl

false_first : compares Less (Truth false) (Truth true) ≡ true
false_first = refl

-- ---- LIKE

like_run : text_like (codes "Acme Corp") (codes "a%CORP") ≡ true
unfolding chars
like_run = refl

like_empty_run : text_like (codes "ab") (codes "a%b%") ≡ true
unfolding chars
like_empty_run = refl

like_one : text_like (codes "ab") (codes "a_") ≡ true
unfolding chars
like_one = refl

like_one_more : text_like (codes "a") (codes "a_") ≡ false
unfolding chars
like_one_more = refl

-- an underscore is one character, though it has two bytes
like_wide : text_like (195 ∷ 169 ∷ []) (codes "_") ≡ true
unfolding chars
like_wide = refl

like_taken : text_like (codes "50%") (codes "50\\%") ≡ true
unfolding chars
like_taken = refl

like_taken_not : text_like (codes "500") (codes "50\\%") ≡ false
unfolding chars
like_taken_not = refl

-- a backslash at the end is itself
like_last : text_like (codes "a\\") (codes "a\\") ≡ true
unfolding chars
like_last = refl

like_nothing : text_like [] (codes "%") ≡ true
unfolding chars
like_nothing = refl

-- the 18 characters of the Id 001A00000000001, whose check characters are IAA
like_id : compares Like (Id (codes "001A00000000001")) (Text (codes "001a%1iaa")) ≡ true
unfolding chars
like_id = refl

like_id_15 : compares Like (Id (codes "001A00000000001")) (Text (codes "001A00000000001")) ≡ false
unfolding chars
like_id_15 = refl

like_number : compares Like (Num (pos 1)) (Text (codes "%")) ≡ false
like_number = refl

-- ---- rows

one : List ℕ
one = codes "001000000000001"

two : List ℕ
two = codes "001000000000002"

row : List ℕ → ℕ → Row
row id object = record { object = object; id = id; cells = Id id ∷ [] }

put_between : put (row two 3) (row one 3 ∷ []) ≡ row one 3 ∷ row two 3 ∷ []
unfolding row one two
put_between = refl

put_again : put (row two 4) (row one 3 ∷ row two 3 ∷ []) ≡ row one 3 ∷ row two 4 ∷ []
unfolding row one two
put_again = refl

-- an overlay that hides a row, and one that adds one
hidden : merged ((one, Gone) ∷ []) 3 (row one 3 ∷ row two 3 ∷ []) ≡ row two 3 ∷ []
unfolding row one two
hidden = refl

added : merged ((one, Now (row one 3)) ∷ []) 3 (row two 3 ∷ []) ≡ row one 3 ∷ row two 3 ∷ []
unfolding row one two
added = refl

-- a row of another object isn't added, but what it replaced is gone
moved : merged ((one, Now (row one 4)) ∷ []) 3 (row one 3 ∷ []) ≡ []
unfolding row one two
moved = refl

-- ---- sharing

ids : user_id 0 ≡ codes "005000000000001"
ids = refl

far_ids : user_id 61 ≡ codes "005000000000010"
far_ids = refl

roles : List Role
roles = record { name = codes "head"; parent = None } ∷ record { name = codes "sales"; parent = Some 0 } ∷ record { name = codes "team"; parent = Some 1 } ∷ []

-- two steps above, not beside, not below, and not itself
above : has_role_above roles (Some 2) (Some 0) ≡ true
unfolding roles
above = refl

below : has_role_above roles (Some 0) (Some 2) ≡ false
unfolding roles
below = refl

itself : has_role_above roles (Some 1) (Some 1) ≡ false
unfolding roles
itself = refl

no_role : has_role_above roles None (Some 0) ≡ false
no_role = refl

-- ---- roll-ups

count_of_none : rolled (record { detail = 3; by = Count; field = None }) [] ≡ Some (pos 0)
count_of_none = refl

sum_of_none : rolled (record { detail = 3; by = Sum; field = Some 2 }) [] ≡ Some (pos 0)
sum_of_none = refl

least_of_none : rolled (record { detail = 3; by = Min; field = Some 2 }) [] ≡ None
least_of_none = refl

line : Cell → Row
line amount = record { object = 3; id = one; cells = Id one ∷ Null ∷ amount ∷ [] }

sum_of_three : rolled (record { detail = 3; by = Sum; field = Some 2 }) (line (Num (pos 2500000)) ∷ line Null ∷ line (Num (pos 4000000)) ∷ []) ≡ Some (pos 6500000)
unfolding line
sum_of_three = refl

least_of_three : rolled (record { detail = 3; by = Min; field = Some 2 }) (line (Num (pos 2)) ∷ line Null ∷ line (Num (negsuc 0)) ∷ []) ≡ Some (negsuc 0)
unfolding line
least_of_three = refl

greatest_of_three : rolled (record { detail = 3; by = Max; field = Some 2 }) (line (Num (pos 2)) ∷ line Null ∷ line (Num (negsuc 0)) ∷ []) ≡ Some (pos 2)
unfolding line
greatest_of_three = refl

-- ---- rules

rule_exact : rule_compares Op.Equal (Text (codes "a")) (Text (codes "A")) ≡ false
rule_exact = refl

rule_nulls : rule_compares Op.Equal Null Null ≡ false
rule_nulls = refl

rule_one_null : rule_compares Op.Differs Null (Num (pos 1)) ≡ true
rule_one_null = refl

rule_no_null : rule_compares Op.Differs Null Null ≡ false
rule_no_null = refl

-- an Id is the text with its check characters
rule_id : equals (Id (codes "001D000000IqhSL")) (Text (codes "001D000000IqhSLIAZ")) ≡ true
rule_id = refl

rule_other_id : equals (Id (codes "001D000000IqhSL")) (Text (codes "001D000000IqhSLIAA")) ≡ false
rule_other_id = refl

empty_is_blank : is_blank (Text []) ≡ true
empty_is_blank = refl

-- ---- order

key : Bool → Bool → SortKey
key descending nulls_last = record { path = record { parents = []; field = 2 }; descending = descending; nulls_last = nulls_last }

-- nulls stand first in both directions, but where the text says otherwise
null_up : key_cmp (key false false) Null (Truth false) ≡ First
unfolding key
null_up = refl

null_down : key_cmp (key true false) Null (Truth false) ≡ First
unfolding key
null_down = refl

null_last : key_cmp (key true true) Null (Truth false) ≡ Last
unfolding key
null_last = refl

truth_down : key_cmp (key true false) (Truth false) (Truth true) ≡ Last
unfolding key
truth_down = refl

-- equal keys go by Id
by_id : sorted (row_cmp (λ r p. Null) (key false false ∷ [])) (row two 3 ∷ row one 3 ∷ []) ≡ row one 3 ∷ row two 3 ∷ []
unfolding key row one two
by_id = refl

-- ---- a query with the rows under its row, from the second on and one at the most

field : FieldKind → Field
field kind = record { name = []; kind = kind; required = false }

schema : Schema
schema = record {
  roles = [];
  users = [];
  objects =
      record { name = codes "Account"; prefix = codes "001"; default = Edit; fields = field Kind.Id ∷ field Kind.Id ∷ field (Kind.Text 80) ∷ []; heads = []; rules = [] }
      ∷ record { name = codes "Contact"; prefix = codes "003"; default = Edit; fields = field Kind.Id ∷ field Kind.Id ∷ field (Kind.Lookup (record { to = 0; relation = []; children = [] })) ∷ []; heads = []; rules = [] }
      ∷ [];
}

three : ℕ → List ℕ
three n = codes "00300000000000" ++ (48 + n) ∷ []

account : Row
account = record { object = 0; id = one; cells = Id one ∷ Null ∷ Text (codes "Acme") ∷ [] }

contact : ℕ → Row
contact n = record { object = 1; id = three n; cells = Id (three n) ∷ Null ∷ Id one ∷ [] }

all : Cond
all = roll-Cond (Cond-F.All [])

under : SubQuery
under = roll-SubQuery (record {
  lookup = 2;
  query = roll-Query (record { object = 1; counted = false; paths = []; children = []; cond = all; keys = []; limit = Some (Given (Whole (pos 1))); offset = Some (Given (Whole (pos 1))); locked = false });
})

query : Query
query = roll-Query (record { object = 0; counted = false; paths = []; children = under ∷ []; cond = all; keys = []; limit = None; offset = None; locked = false })

second_contact : plain schema 9 (account ∷ contact 1 ∷ contact 2 ∷ contact 3 ∷ []) [] Without 0 query
    ≡ record { row = account; paths = []; children = (record { row = contact 2; paths = [] } ∷ []) ∷ [] } ∷ []
unfolding schema account contact three one all under query field
second_contact = simp (fold-roll-Cond, out-roll-Query, out-roll-SubQuery) refl

-- the parent's cell at the end of a path, and null where the Id names no such row
parent_name : path_value schema (account ∷ contact 1 ∷ []) (contact 1) (record { parents = 2 ∷ []; field = 2 }) ≡ Text (codes "Acme")
unfolding schema account contact three one field
parent_name = refl

no_parent : path_value schema (contact 1 ∷ []) (contact 1) (record { parents = 2 ∷ []; field = 2 }) ≡ Null
unfolding schema account contact three one field
no_parent = refl
