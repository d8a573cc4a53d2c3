-- Saves of every operation by hand.
use Rattle.std.proofs.Common.{◌≡◌, refl, ℕ, Bool, true, false, List, [], ◌∷◌, map, codes, pos, Option, None, Some}
use Rattle.std.specs.Str.{chars}
use Rattle.apex_num.specs.declared.kind.LimitKind.TheVariants.{Dml, Saved, Steps, Alloc}
use Rattle.apex_num.specs.declared.cell.Cell.{Cell}
use Rattle.apex_num.specs.declared.cell.Cell.TheVariants.{Null, Num, Text, Id}
use Rattle.limit_meter.specs.Charges.{counter}
use Rattle.platform_errors.specs.declared.record.RecordError.TheVariants as Error
use Rattle.platform_errors.specs.declared.thrown.Thrown.{Thrown}
use Rattle.platform_errors.specs.declared.thrown.Thrown.TheVariants as Throw
use Rattle.apex_schema.specs.declared.schema.Access.{Access}
use Rattle.apex_schema.specs.declared.schema.Access.TheVariants.{Read as Reads, Edit}
use Rattle.apex_schema.specs.declared.schema.FieldKind.{FieldKind}
use Rattle.apex_schema.specs.declared.schema.FieldKind.TheVariants as Kind
use Rattle.apex_schema.specs.declared.schema.Field.{Field}
use Rattle.apex_schema.specs.declared.schema.Mode.TheVariants.{Sharing}
use Rattle.apex_schema.specs.declared.schema.Object.{Object}
use Rattle.apex_schema.specs.declared.schema.Schema.{Schema}
use Rattle.apex_rows.specs.declared.query.Question.TheVariants.{Read, Grab}
use Rattle.apex_rows.specs.declared.query.Answer.{Answer}
use Rattle.apex_rows.specs.declared.query.Answer.TheVariants.{Rows, Granted}
use Rattle.apex_rows.specs.declared.row.Row.{Row}
use Rattle.apex_requests.specs.declared.request.Op.{Op}
use Rattle.apex_requests.specs.declared.request.Op.TheVariants as Op'
use Rattle.apex_requests.specs.declared.request.SaveRow.{SaveRow}
use Rattle.row_meaning.specs.Overlays.{Now, Gone}
use Rattle.row_meaning.specs.Users.{user_id}
use Rattle.save_meaning.specs.Sites.{Site}
use Rattle.save_meaning.specs.Results.{Needs, Stop, Leaves, Closes, Res, Gives, Stops, bind}
use Rattle.save_meaning.specs.Transactions.{Txn}
use Rattle.save_meaning.specs.Laws.{alone}
use Rattle.store_inquiries.specs.Questions.{within}
use Rattle.save_statements.specs.declared.pending.Act.{Act}
use Rattle.save_statements.specs.declared.pending.Act.TheVariants.{Inserting}
use Rattle.save_statements.specs.declared.pending.Manner.TheVariants.{ByCode}
use Rattle.save_statements.specs.declared.firing.Trigger.{Trigger}
use Rattle.save_statements.specs.declared.firing.Left.{Left}
use Rattle.save_statements.specs.declared.firing.Fired.TheVariants.{Ran}
use Rattle.save_statements.specs.declared.statement.RecordOutcome.{RecordOutcome}
use Rattle.save_statements.specs.declared.statement.RecordOutcome.TheVariants.{Done, Failed}
use Rattle.save_statements.specs.Phases.{Code}
use Rattle.save_statements.specs.Statements.{save}

-- ---- Account; Invoice and its Lines, which name an Account too

abbrev field : List ℕ → FieldKind → Field
field name kind = record { name = name; kind = kind; required = false }

abbrev object : List ℕ → List ℕ → Access → List Field → Object
object name prefix default fields = record {
  name = name;
  prefix = prefix;
  default = default;
  heads = [];
  rules = [];
  fields = field (codes "Id") Kind.Id ∷ field (codes "OwnerId") Kind.Id ∷ fields;
}

abbrev name : Field
name = record { name = codes "Name"; kind = Kind.Text 80; required = true }

abbrev account : Object
account = object (codes "Account") (codes "001") Edit (name ∷ [])

abbrev invoice : Access → Object
invoice default = object (codes "Invoice__c") (codes "a01") default (field (codes "Name") (Kind.Text 80) ∷ [])

abbrev line : Object
line = object (codes "Line__c") (codes "a02") Edit
    (field (codes "Amount__c") Kind.Number
    ∷ field (codes "Invoice__c") (Kind.MasterDetail (record { to = 1; relation = codes "Invoice__r"; children = codes "Lines__r" }))
    ∷ field (codes "Payer__c") (Kind.Lookup (record { to = 0; relation = codes "Payer__r"; children = codes "Lines__r" })) ∷ [])

abbrev share : Object
share = object (codes "RowShare") (codes "00r") Edit (field (codes "RowId") Kind.Id ∷ field (codes "UserId") Kind.Id ∷ field (codes "Level") (Kind.Text 4) ∷ [])

abbrev schema_of : Access → Schema
schema_of default = record {
  roles = [];
  users = record { name = codes "ann"; role = None } ∷ record { name = codes "bob"; role = None } ∷ [];
  objects = account ∷ invoice default ∷ line ∷ share ∷ [];
}

-- ann's request of this number
abbrev here : ℕ → Site
here index = record { schema = schema_of Edit; ticket = record { session = 0; index = index; user = 0; now = pos 0 } }

abbrev none_here : Code Txn
none_here = record { triggers = λ o act before. []; fire = λ n c s. Gives (Ran []) s; roll_up = λ o rs s. Gives rs s }

abbrev fresh : List Answer → Txn
fresh tape = record { overlay = []; minted = 0; charges = []; tape = tape }

abbrev txn_of : {A : Type 0} → Res Txn Thrown A → Txn
txn_of (Gives a t) = t
txn_of (Stops why t) = t

-- the counters: statements, rows of statements, steps, units
abbrev counts : {A : Type 0} → Res Txn Thrown A → List ℕ
counts r = map (λ k. counter k (txn_of r).charges) (Dml ∷ Saved ∷ Steps ∷ Alloc ∷ [])

abbrev stop : {A : Type 0} → Res Txn Thrown A → Option (Stop Thrown)
stop (Gives a t) = None
stop (Stops why t) = Some why

abbrev outcomes : Res Txn Thrown (List RecordOutcome) → List RecordOutcome
outcomes (Gives os t) = os
outcomes (Stops why t) = []

abbrev saved : ℕ → Op → ℕ → List SaveRow → Txn → Res Txn Thrown (List RecordOutcome)
saved index op o rows t = save alone (here index) none_here op (ByCode Sharing) o true rows t

abbrev record_of : ℕ → Option (List ℕ) → List (Option Cell) → SaveRow
record_of key id cells = record { key = key; id = id; cells = cells }

-- ---- what a delete took isn't there to update

abbrev v1 : List ℕ
v1 = codes "a01000100000001"

abbrev l2 : List ℕ
l2 = codes "a02000100000002"

abbrev delete_then_update : Res Txn Thrown (List RecordOutcome)
delete_then_update =
    bind (saved 0 Op'.Insert 1 (record_of 0 None (None ∷ None ∷ Some (Text (codes "v")) ∷ []) ∷ []) (fresh (Rows [] ∷ []))) (λ o1 t1.
    bind (saved 0 Op'.Insert 2 (record_of 1 None (None ∷ None ∷ Some (Num (pos 1000000)) ∷ Some (Id v1) ∷ None ∷ []) ∷ []) t1) (λ o2 t2.
    bind (saved 0 Op'.Delete 1 (record_of 0 (Some v1) (Some (Id v1) ∷ None ∷ None ∷ []) ∷ []) t2) (λ o3 t3.
    saved 0 Op'.Update 2 (record_of 1 (Some l2) (Some (Id l2) ∷ None ∷ Some (Num (pos 1000000)) ∷ Some (Id v1) ∷ None ∷ []) ∷ []) t3)))

-- three saves of seven phases and one of one; a row of three fields and one of five
deleted_counts : counts delete_then_update ≡ 4 ∷ 4 ∷ 22 ∷ 384 ∷ []
unfolding chars
deleted_counts = refl

deleted_stop : stop delete_then_update ≡ Some (Leaves (Throw.Dml Op'.Update (pos 0) Error.NoSuchRow))
unfolding chars
deleted_stop = refl

-- the line went with its invoice
deleted_rows : (txn_of delete_then_update).overlay ≡ (v1, Gone) ∷ (l2, Gone) ∷ []
unfolding chars
deleted_rows = refl

-- ---- an update of a row that an earlier request made

abbrev a1 : List ℕ
a1 = codes "001000100000001"

abbrev account_row : List ℕ → List ℕ → Row
account_row id text = record { object = 0; id = id; cells = Id id ∷ Id (user_id 0) ∷ Text text ∷ [] }

abbrev renamed : SaveRow
renamed = record_of 0 (Some a1) (Some (Id a1) ∷ None ∷ Some (Text (codes "b")) ∷ [])

abbrev update_on : List Answer → Res Txn Thrown (List RecordOutcome)
update_on tape = saved 1 Op'.Update 0 (renamed ∷ []) (fresh tape)

update_asks : stop (update_on []) ≡ Some (Closes (Needs (Read 0 (within 0 (a1 ∷ [])))))
update_asks = refl

update_grabs : stop (update_on (Rows (account_row a1 (codes "a") ∷ []) ∷ [])) ≡ Some (Closes (Needs (Grab (a1 ∷ []))))
update_grabs = refl

update_counts : counts (update_on (Rows (account_row a1 (codes "a") ∷ []) ∷ Granted ∷ [])) ≡ 1 ∷ 1 ∷ 7 ∷ 160 ∷ []
unfolding chars
update_counts = refl

update_rows : (txn_of (update_on (Rows (account_row a1 (codes "a") ∷ []) ∷ Granted ∷ []))).overlay ≡ (a1, Now (account_row a1 (codes "b"))) ∷ []
unfolding chars
update_rows = refl

-- ---- a cascade over rows that stand in the store: they are held, too, and what they name may stay

abbrev v0 : List ℕ
v0 = codes "a01000000000001"

abbrev a0 : List ℕ
a0 = codes "001000000000001"

abbrev l0 : List ℕ → Row
l0 id = record { object = 2; id = id; cells = Id id ∷ Id (user_id 0) ∷ Num (pos 0) ∷ Id v0 ∷ Id a0 ∷ [] }

abbrev invoice_row : Row
invoice_row = record { object = 1; id = v0; cells = Id v0 ∷ Id (user_id 0) ∷ Null ∷ [] }

abbrev lines : List Row
lines = l0 (codes "a02000000000001") ∷ l0 (codes "a02000000000002") ∷ []

abbrev cascade_on : List Answer → Res Txn Thrown (List RecordOutcome)
cascade_on tape = saved 0 Op'.Delete 1 (record_of 0 (Some v0) (Some (Id v0) ∷ None ∷ None ∷ []) ∷ []) (fresh tape)

cascade_asks : stop (cascade_on (Rows (invoice_row ∷ []) ∷ Granted ∷ [])) ≡ Some (Closes (Needs (Read 2 (within 3 (v0 ∷ [])))))
cascade_asks = refl

cascade_grabs : stop (cascade_on (Rows (invoice_row ∷ []) ∷ Granted ∷ Rows lines ∷ [])) ≡ Some (Closes (Needs (Grab (codes "a02000000000001" ∷ codes "a02000000000002" ∷ []))))
cascade_grabs = refl

cascade_rows : (txn_of (cascade_on (Rows (invoice_row ∷ []) ∷ Granted ∷ Rows lines ∷ Granted ∷ []))).overlay
    ≡ (v0, Gone) ∷ (codes "a02000000000001", Gone) ∷ (codes "a02000000000002", Gone) ∷ []
cascade_rows = refl

-- ---- a row that another names by a lookup stays

restricted : stop (saved 0 Op'.Delete 0 (record_of 0 (Some a0) (Some (Id a0) ∷ None ∷ None ∷ []) ∷ []) (fresh (Rows (account_row a0 (codes "a") ∷ []) ∷ Granted ∷ Rows lines ∷ [])))
    ≡ Some (Leaves (Throw.Dml Op'.Delete (pos 0) Error.Referenced))
restricted = refl

-- ---- errors of loading, and their order

no_id_first : stop (saved 0 Op'.Update 0 (record_of 0 None (None ∷ None ∷ None ∷ []) ∷ record_of 1 (Some a0) (None ∷ None ∷ None ∷ []) ∷ []) (fresh (Rows [] ∷ [])))
    ≡ Some (Leaves (Throw.Dml Op'.Update (pos 0) Error.NoId))
no_id_first = refl

-- a row of ann's invoices in sharing mode, where everybody may read them
abbrev bob : Site
bob = record { schema = schema_of Reads; ticket = record { session = 0; index = 0; user = 1; now = pos 0 } }

no_access : stop (save alone bob none_here Op'.Update (ByCode Sharing) 1 true (record_of 0 (Some v0) (Some (Id v0) ∷ None ∷ None ∷ []) ∷ []) (fresh (Rows (invoice_row ∷ []) ∷ Rows [] ∷ [])))
    ≡ Some (Leaves (Throw.Dml Op'.Update (pos 0) Error.NoAccess))
no_access = refl

-- a master can't be changed
other_invoice : stop (saved 0 Op'.Update 2
    (record_of 0 (Some (codes "a02000000000001")) (None ∷ None ∷ None ∷ Some (Id (codes "a01000000000002")) ∷ None ∷ []) ∷ [])
    (fresh (Rows (l0 (codes "a02000000000001") ∷ []) ∷ Granted ∷ Rows (record invoice_row { id = codes "a01000000000002" } ∷ []) ∷ [])))
    ≡ Some (Leaves (Throw.Dml Op'.Update (pos 0) (Error.CannotChange (codes "Invoice__c"))))
other_invoice = refl

-- ---- an upsert: inserts before updates, and what came of each in the order of the list

abbrev upserted : Res Txn Thrown (List RecordOutcome)
upserted = saved 1 Op'.Upsert 0 (renamed ∷ record_of 1 None (None ∷ None ∷ Some (Text (codes "c")) ∷ []) ∷ []) (fresh (Rows (account_row a1 (codes "a") ∷ []) ∷ Granted ∷ []))

upsert_outcomes : outcomes upserted ≡ Done a1 ∷ Done (codes "001000100010001") ∷ []
unfolding chars
upsert_outcomes = refl

upsert_counts : counts upserted ≡ 1 ∷ 2 ∷ 14 ∷ 320 ∷ []
unfolding chars
upsert_counts = refl

-- the first failing chunk is that of the inserts, told by its place in the list
upsert_fails : stop (saved 1 Op'.Upsert 0 (record_of 0 (Some a1) (None ∷ None ∷ Some Null ∷ []) ∷ record_of 1 None (None ∷ None ∷ None ∷ []) ∷ []) (fresh []))
    ≡ Some (Leaves (Throw.Dml Op'.Upsert (pos 1) (Error.Required (codes "Name"))))
upsert_fails = refl

-- ---- in part

abbrev named : ℕ → SaveRow
named key = record_of key None (None ∷ None ∷ Some (Text (codes "n")) ∷ [])

abbrev in_part : Code Txn → List SaveRow → Res Txn Thrown (List RecordOutcome)
in_part code rows = save alone (here 0) code Op'.Insert (ByCode Sharing) 0 false rows (fresh [])

-- what fails is set aside, and the other record is tried again; the first attempt made an Id
abbrev one_of_two : Res Txn Thrown (List RecordOutcome)
one_of_two = in_part none_here (record_of 0 None (None ∷ None ∷ None ∷ []) ∷ named 1 ∷ [])

part_outcomes : outcomes one_of_two ≡ Failed (Error.Required (codes "Name")) ∷ Done (codes "001000100000002") ∷ []
unfolding chars
part_outcomes = refl

part_counts : counts one_of_two ≡ 1 ∷ 2 ∷ 18 ∷ 320 ∷ []
unfolding chars
part_counts = refl

part_rows : (txn_of one_of_two).overlay ≡ (codes "001000100000002", Now (account_row (codes "001000100000002") (codes "n"))) ∷ []
unfolding chars
part_rows = refl

-- a trigger before inserts that adds an error to its first record
abbrev first_fails : List Row → List Left
first_fails [] = []
first_fails (r ∷ rs) = record { row = r; message = Some (codes "no") } ∷ map (λ (s : Row). record { row = s; message = None }) rs

abbrev before_inserts : Act → Bool → List Trigger
before_inserts Inserting true = record { name = codes "T"; number = 0 } ∷ []
before_inserts _ _ = []

abbrev with_trigger : Code Txn
with_trigger = record { triggers = λ o act before. before_inserts act before; fire = λ n c s. Gives (Ran (first_fails c.news)) s; roll_up = λ o rs s. Gives rs s }

abbrev five : Res Txn Thrown (List RecordOutcome)
five = in_part with_trigger (named 0 ∷ named 1 ∷ named 2 ∷ named 3 ∷ named 4 ∷ [])

five_outcomes : outcomes five ≡ Failed (Error.Custom (codes "no")) ∷ Failed (Error.Custom (codes "no")) ∷ Failed (Error.Custom (codes "no")) ∷ Failed Error.TooManyRetries ∷ Failed Error.TooManyRetries ∷ []
unfolding chars
five_outcomes = refl

-- attempts of 5, 4 and 3 records, of which 4, 3 and 2 go on behind the trigger
five_counts : counts five ≡ 1 ∷ 5 ∷ 72 ∷ 1440 ∷ []
unfolding chars
five_counts = refl

five_rows : (txn_of five).overlay ≡ []
unfolding chars
five_rows = refl
