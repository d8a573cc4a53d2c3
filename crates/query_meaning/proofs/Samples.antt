-- Queries by hand.
use Rattle.std.proofs.Common.{◌≡◌, refl, ℕ, Bool, true, false, List, [], ◌∷◌, codes, pos, Option, None, Some}
use Rattle.apex_num.specs.declared.kind.LimitKind.TheVariants.{Queries, Rows, Alloc}
use Rattle.apex_num.specs.declared.cell.Cell.{Cell}
use Rattle.apex_num.specs.declared.cell.Cell.TheVariants.{Null, Whole, Num, Text, Id}
use Rattle.limit_meter.specs.Charges.{counter}
use Rattle.platform_errors.specs.declared.thrown.Thrown.{Thrown}
use Rattle.platform_errors.specs.declared.thrown.Thrown.TheVariants.{InvalidLimit}
use Rattle.apex_schema.specs.declared.schema.Access.TheVariants.{Nothing, Edit}
use Rattle.apex_schema.specs.declared.schema.Mode.{Mode}
use Rattle.apex_schema.specs.declared.schema.Mode.TheVariants.{Sharing, Without}
use Rattle.apex_schema.specs.declared.schema.FieldKind.TheVariants as Kind
use Rattle.apex_schema.specs.declared.schema.Object.{Object}
use Rattle.apex_rows.specs.declared.query.Bind.TheVariants.{One}
use Rattle.apex_rows.specs.declared.query.Path.{Path}
use Rattle.apex_rows.specs.declared.query.Term.{Term}
use Rattle.apex_rows.specs.declared.query.Term.TheVariants.{Given, Bound}
use Rattle.apex_rows.specs.declared.query.CondOp.TheVariants.{Differs}
use Rattle.apex_rows.specs.declared.query.Cond.{Cond}
use Rattle.apex_rows.specs.declared.query.Cond.TheOpen.{Cond-F}
use Rattle.apex_rows.specs.declared.query.Cond.TheViews.{roll-Cond}
use Rattle.apex_rows.specs.declared.query.Cond.TheFolds.{fold-roll-Cond}
use Rattle.apex_rows.specs.declared.query.Question.{Question}
use Rattle.apex_rows.specs.declared.query.Question.TheVariants.{Read, Grab}
use Rattle.apex_rows.specs.declared.query.Answer.{Answer}
use Rattle.apex_rows.specs.declared.query.Answer.TheVariants.{Rows as RowsOf}
use Rattle.apex_rows.specs.declared.query.Query.{Query}
use Rattle.apex_rows.specs.declared.query.Query.TheViews.{roll-Query, out-roll-Query, roll-SubQuery, out-roll-SubQuery}
use Rattle.apex_rows.specs.declared.query.SubQuery.{SubQuery}
use Rattle.apex_rows.specs.declared.row.Row.{Row}
use Rattle.row_meaning.specs.Overlays.{Overlay, Now}
use Rattle.row_meaning.specs.Users.{user_id}
use Rattle.save_meaning.specs.Laws.{alone}
use Rattle.save_meaning.specs.Results.{Needs, Stop, Leaves, Closes, Res, Gives, Stops}
use Rattle.save_meaning.specs.Sites.{Site}
use Rattle.save_meaning.specs.Transactions.{Txn}
use Rattle.query_meaning.specs.Queries.{Answered, Counted, query}

-- Account, which everybody sees; Line, which leads to it and is hidden from others; RowShare behind them
abbrev account : Object
account = record {
  name = codes "Account";
  prefix = codes "001";
  default = Edit;
  heads = [];
  rules = [];
  fields = record { name = codes "Id"; kind = Kind.Id; required = false } ∷ record { name = codes "OwnerId"; kind = Kind.Id; required = false } ∷ record { name = codes "Size"; kind = Kind.Number; required = true } ∷ [];
}

abbrev line : Object
line = record {
  name = codes "Line";
  prefix = codes "a01";
  default = Nothing;
  heads = [];
  rules = [];
  fields =
      record { name = codes "Id"; kind = Kind.Id; required = false } ∷ record { name = codes "OwnerId"; kind = Kind.Id; required = false }
      ∷ record { name = codes "Payer"; kind = Kind.Lookup (record { to = 0; relation = codes "Payer__r"; children = codes "Lines__r" }); required = false } ∷ [];
}

abbrev share : Object
share = record { name = codes "RowShare"; prefix = codes "00r"; default = Edit; heads = []; rules = []; fields = [] }

abbrev here : Site
here = record {
  schema = record { roles = []; users = record { name = codes "ann"; role = None } ∷ record { name = codes "bob"; role = None } ∷ []; objects = account ∷ line ∷ share ∷ [] };
  ticket = record { session = 0; index = 0; user = 0; now = pos 0 };
}

abbrev fresh : Overlay → List Answer → Txn
fresh overlay tape = record { overlay = overlay; minted = 0; charges = []; tape = tape }

abbrev an_account : List ℕ → Cell → Row
an_account id size = record { object = 0; id = id; cells = Id id ∷ Id (user_id 1) ∷ size ∷ [] }

-- a line of user 1, who isn't the one that asks
abbrev a_line : List ℕ → List ℕ → Row
a_line id payer = record { object = 1; id = id; cells = Id id ∷ Id (user_id 1) ∷ Id payer ∷ [] }

abbrev size_of_payer : Path
size_of_payer = record { parents = 2 ∷ []; field = 2 }

-- the lines of payers whose size is known, with these, and what may stand behind
abbrev lines : Option Term → Query
lines limit = roll-Query (record {
  object = 1;
  counted = false;
  paths = size_of_payer ∷ [];
  children = [];
  cond = roll-Cond (Cond-F.Compare size_of_payer Differs (Given Null));
  keys = [];
  limit = limit;
  offset = None;
  locked = true;
})

-- what a run needs next: the object of a Read, or the Ids of a Grab
abbrev next_in : Question → Option ℕ × List (List ℕ)
next_in (Read object c) = (Some object, [])
next_in (Grab ids) = (None, ids)

abbrev needed : Stop Thrown → List (Option ℕ × List (List ℕ))
needed (Closes (Needs q)) = next_in q ∷ []
needed _ = []

abbrev next_of : Res Txn Thrown Answered → List (Option ℕ × List (List ℕ))
next_of (Gives a t) = []
next_of (Stops why t) = needed why

abbrev counts_in : Txn → List ℕ
counts_in t = counter Queries t.charges ∷ counter Rows t.charges ∷ counter Alloc t.charges ∷ []

abbrev counts : Res Txn Thrown Answered → List ℕ
counts (Gives a t) = counts_in t
counts (Stops why t) = counts_in t

abbrev run : Mode → Option Term → Overlay → List Answer → Res Txn Thrown Answered
run mode limit overlay tape = query alone here mode (One Null ∷ One (Whole (pos 1)) ∷ []) (lines limit) (fresh overlay tape)

abbrev two_lines : Answer
two_lines = RowsOf (a_line (codes "a01000000000001") (codes "001000000000001") ∷ a_line (codes "a01000100000001") (codes "001000000000002") ∷ [])

abbrev payers : Answer
payers = RowsOf (an_account (codes "001000000000001") (Num (pos 5)) ∷ an_account (codes "001000000000002") (Num (pos 6)) ∷ [])

-- first its own object, then the parents, and for hidden rows what is shared
asks_lines : next_of (run Sharing None [] []) ≡ (Some 1, []) ∷ []
asks_lines = simp (out-roll-Query) refl

asks_payers : next_of (run Sharing None [] (two_lines ∷ [])) ≡ (Some 0, []) ∷ []
asks_payers = simp (out-roll-Query) refl

asks_shares : next_of (run Sharing None [] (two_lines ∷ payers ∷ [])) ≡ (Some 2, []) ∷ []
asks_shares = simp (out-roll-Query, fold-roll-Cond) refl

-- without sharing they are charged, and those held that the request didn't make
asks_grab : next_of (run Without None [] (two_lines ∷ payers ∷ [])) ≡ (None, codes "a01000000000001" ∷ []) ∷ []
asks_grab = simp (out-roll-Query, fold-roll-Cond) refl

charges : counts (run Without None [] (two_lines ∷ payers ∷ [])) ≡ 1 ∷ 2 ∷ 320 ∷ []
charges = simp (out-roll-Query, fold-roll-Cond) refl

-- LIMIT 1 leaves the first line, for which nothing more is asked than for both
one_line : counts (run Without (Some (Bound 1)) [] (two_lines ∷ payers ∷ [])) ≡ 1 ∷ 1 ∷ 160 ∷ []
one_line = simp (out-roll-Query, fold-roll-Cond) refl

-- a LIMIT that is null throws, and nothing is charged
null_limit : run Without (Some (Bound 0)) [] [] ≡ Stops (Leaves InvalidLimit) (fresh [] [])
null_limit = simp (out-roll-Query) refl

-- a payer that the transaction changed isn't asked for: with both changed, the questions for parents fall away
abbrev changed : Overlay
changed = (codes "001000000000001", Now (an_account (codes "001000000000001") Null)) ∷ (codes "001000000000002", Now (an_account (codes "001000000000002") (Num (pos 7)))) ∷ []

no_parents : next_of (run Without None changed (two_lines ∷ [])) ≡ []
no_parents = simp (out-roll-Query, fold-roll-Cond) refl

left_line : counts (run Without None changed (two_lines ∷ [])) ≡ 1 ∷ 1 ∷ 160 ∷ []
left_line = simp (out-roll-Query, fold-roll-Cond) refl

-- with one line shared with the user, that one is left
abbrev shared : Answer
shared =
    RowsOf (record { object = 2; id = codes "00r000000000001"; cells = Id (codes "00r000000000001") ∷ Id (user_id 1) ∷ Id (codes "a01000000000001") ∷ Id (user_id 0) ∷ Text (codes "Read") ∷ [] } ∷ [])

shared_line : next_of (run Sharing None [] (two_lines ∷ payers ∷ shared ∷ [])) ≡ (None, codes "a01000000000001" ∷ []) ∷ []
shared_line = simp (out-roll-Query, fold-roll-Cond) refl

shared_counts : counts (run Sharing None [] (two_lines ∷ payers ∷ shared ∷ [])) ≡ 1 ∷ 1 ∷ 160 ∷ []
shared_counts = simp (out-roll-Query, fold-roll-Cond) refl

-- ---- lines under accounts, one for each, and how many accounts there are

abbrev has_id : Cond
has_id = roll-Cond (Cond-F.Compare (record { parents = []; field = 0 }) Differs (Given Null))

abbrev one_under : SubQuery
one_under = roll-SubQuery (record {
  lookup = 2;
  query = roll-Query (record { object = 1; counted = false; paths = []; children = []; cond = has_id; keys = []; limit = Some (Given (Whole (pos 1))); offset = None; locked = false });
})

abbrev accounts : Bool → List SubQuery → Query
accounts counted children = roll-Query (record { object = 0; counted = counted; paths = []; children = children; cond = has_id; keys = []; limit = None; offset = None; locked = false })

abbrev three_lines : Answer
three_lines =
    RowsOf (a_line (codes "a01000000000001") (codes "001000000000001") ∷ a_line (codes "a01000000000002") (codes "001000000000001") ∷ a_line (codes "a01000000000003") (codes "001000000000002") ∷ [])

-- two accounts, and one line under each: four rows
under_each : counts (query alone here Without [] (accounts false (one_under ∷ [])) (fresh [] (payers ∷ three_lines ∷ []))) ≡ 1 ∷ 4 ∷ 640 ∷ []
under_each = simp (out-roll-Query, out-roll-SubQuery, fold-roll-Cond) refl

-- no account, and nothing is asked under it
under_none : counts (query alone here Without [] (accounts false (one_under ∷ [])) (fresh [] (RowsOf [] ∷ []))) ≡ 1 ∷ 0 ∷ 0 ∷ []
under_none = simp (out-roll-Query, out-roll-SubQuery, fold-roll-Cond) refl

abbrev counted_in : Res Txn Thrown Answered → List ℕ
counted_in (Gives (Counted n) t) = n ∷ counts_in t
counted_in _ = []

-- a number costs one row and no units
how_many : counted_in (query alone here Without [] (accounts true []) (fresh [] (payers ∷ []))) ≡ 2 ∷ 1 ∷ 1 ∷ 0 ∷ []
how_many = simp (out-roll-Query, fold-roll-Cond) refl
