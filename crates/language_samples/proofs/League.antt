-- A schema with rows of it, and runs of blocks on what a store answers.
use Rattle.std.proofs.Common.{◌≡◌, ℕ, false, List, [], ◌∷◌, map, codes, pos, Option, None, Some, ◌∙◌}
use Rattle.apex_num.specs.declared.cell.Cell.{Cell}
use Rattle.apex_num.specs.declared.cell.Cell.TheVariants.{Null, Num, Text, Id}
use Rattle.apex_num.specs.declared.kind.LimitKind.TheVariants.{Steps}
use Rattle.apex_requests.specs.declared.reply.Outcome.{Outcome}
use Rattle.apex_rows.specs.declared.query.Answer.{Answer}
use Rattle.apex_rows.specs.declared.query.Answer.TheVariants as Answers
use Rattle.apex_rows.specs.declared.query.Path.{Path}
use Rattle.apex_rows.specs.declared.query.Query.{Query}
use Rattle.apex_rows.specs.declared.row.Row.{Row}
use Rattle.apex_schema.specs.declared.schema.Access.TheVariants.{Edit}
use Rattle.apex_schema.specs.declared.schema.Field.{Field}
use Rattle.apex_schema.specs.declared.schema.FieldKind.{FieldKind}
use Rattle.apex_schema.specs.declared.schema.FieldKind.TheVariants as Kind
use Rattle.apex_schema.specs.declared.schema.Mode.TheVariants.{Sharing}
use Rattle.apex_schema.specs.declared.schema.Object.{Object as TheObject}
use Rattle.apex_schema.specs.declared.schema.Schema.{Schema}
use Rattle.limit_meter.specs.Charges.{Entry, Charged}
use Rattle.query_records.specs.Records.{Leads, over_made, over_step}
use Rattle.query_records.specs.Shapes.{queried}
use Rattle.query_records.specs.declared.shape.Over.{Over}
use Rattle.query_records.specs.declared.shape.Over.TheFolds.{fold-roll-Over, map-Over}
use Rattle.query_records.specs.declared.shape.Over.TheOpen.{Over-F}
use Rattle.query_records.specs.declared.shape.Over.TheViews.{roll-Over}
use Rattle.query_records.specs.declared.shape.Queried.{Queried}
use Rattle.row_meaning.specs.Users.{user_id}
use Rattle.save_meaning.specs.Results.{Gives, bind}
use Rattle.tenant_trails.specs.Runs.{Run as Trail, Ends}
use Rattle.txn_heap.specs.declared.thing.Relation.{Relation}
use Rattle.txn_heap.specs.declared.thing.Thing.{Thing}
use Rattle.txn_heap.specs.declared.thing.Thing.TheVariants as T
use Rattle.txn_heap.specs.declared.thing.Under.{Under}
use Rattle.txn_heap.specs.declared.thing.Value.{Value}
use Rattle.txn_heap.specs.declared.thing.Value.TheVariants.{Object}
use Rattle.request_states.specs.Runs.{Setting, first_state, site_of}
use Rattle.request_states.specs.States.{State, Res, set_local}
use Rattle.request_states.specs.Values.{null}
use Rattle.apex_meaning.specs.Bodies.{rounds, enough}
use Rattle.apex_meaning.specs.Expressions.{Given}
use Rattle.apex_meaning.specs.Meanings.{Again, all_do, all_of, calc}
use Rattle.apex_meaning.specs.Queries.{all_bound, on_bound}
use Rattle.apex_meaning.specs.Records as Records
use Rattle.apex_meaning.specs.Runs.{block_run, run_of}
use Rattle.language_samples.proofs.Known.{ExprOf, BindOf, bind_all, query, only}
use Rattle.language_samples.proofs.Stmts.{StmtOf, stmt_trees, stmt_all, stmt_each, has}

-- ---- a schema: teams, each with a captain, or none; players, each of a team, or of none; RowShare behind them

abbrev field : List ℕ → FieldKind → Field
field name kind = record { name = name; kind = kind; required = false }

abbrev team : TheObject
team = record {
  name = codes "Team__c";
  prefix = codes "a01";
  default = Edit;
  heads = [];
  rules = [];
  fields =
      field (codes "Id") Kind.Id ∷ field (codes "OwnerId") Kind.Id ∷ field (codes "Name__c") (Kind.Text 40)
      ∷ field (codes "Captain__c") (Kind.Lookup (record { to = 1; relation = codes "Captain__r"; children = codes "Teams__r" })) ∷ [];
}

abbrev player : TheObject
player = record {
  name = codes "Player__c";
  prefix = codes "a02";
  default = Edit;
  heads = [];
  rules = [];
  fields =
      field (codes "Id") Kind.Id ∷ field (codes "OwnerId") Kind.Id ∷ field (codes "Name__c") (Kind.Text 40)
      ∷ field (codes "Team__c") (Kind.Lookup (record { to = 0; relation = codes "Team__r"; children = codes "Players__r" }))
      ∷ field (codes "Goals__c") Kind.Number ∷ [];
}

abbrev share : TheObject
share = record { name = codes "RowShare"; prefix = codes "00r"; default = Edit; heads = []; rules = []; fields = [] }

abbrev pub league : Setting
league = record {
  schema = record { roles = []; users = record { name = codes "ann"; role = None } ∷ []; objects = team ∷ player ∷ share ∷ [] };
  program = record { classes = []; triggers = []; blocks = [] };
  ticket = record { session = 0; index = 0; user = 0; now = pos 0 };
}

-- ---- rows

abbrev pub reds_id : List ℕ
reds_id = codes "a01000000000001"

abbrev pub kim_id : List ℕ
kim_id = codes "a02000000000001"

abbrev pub lee_id : List ℕ
lee_id = codes "a02000000000002"

abbrev pub sam_id : List ℕ
sam_id = codes "a02000000000003"

-- the Reds, with Sam for captain
abbrev pub reds : Row
reds = record { object = 0; id = reds_id; cells = Id reds_id ∷ Id (user_id 0) ∷ Text (codes "Reds") ∷ Id sam_id ∷ [] }

abbrev a_player : List ℕ → List ℕ → Cell → ℕ → Row
a_player id name team goals = record { object = 1; id = id; cells = Id id ∷ Id (user_id 0) ∷ Text name ∷ team ∷ Num (pos goals) ∷ [] }

-- of the Reds, with 5 goals
abbrev pub kim : Row
kim = a_player kim_id (codes "Kim") (Id reds_id) 5000000

-- of no team, with 6
abbrev pub lee : Row
lee = a_player lee_id (codes "Lee") Null 6000000

-- of the Reds, with 7
abbrev pub sam : Row
sam = a_player sam_id (codes "Sam") (Id reds_id) 7000000

abbrev pub rows : List Row → Answer
rows rs = Answers.Rows rs

-- ---- things that queries make

abbrev pub at : ℕ → Value
at place = Object (record { place = place })

-- a record that a query gave, with what it leads to
abbrev pub given : ℕ → List (Option Cell) → List Relation → List Under → Thing
given object cells parents children = T.Record (record { object = object; cells = cells; selected = Some (record { parents = parents; children = children }) })

-- one that knows its Id and its name
abbrev pub given_player : List ℕ → List ℕ → List Relation → Thing
given_player id name parents = given 1 (Some (Id id) ∷ None ∷ Some (Text name) ∷ None ∷ None ∷ []) parents []

-- what stands in field 3 leads to this
abbrev pub leads_to : Value → Relation
leads_to v = record { field = 3; value = v }

-- ---- queries

abbrev pub own : ℕ → Path
own field = record { parents = []; field = field }

-- a query, and what the records of it know
abbrev pub asking : (q : Query) (known : Queried) → queried q ≡ known → List BindOf → ExprOf
asking q known e bs = record {
  tree = (query q bs).tree;
  does = λ s a n st. bind (all_of (map (λ (b : Given). b.1) (bind_all s a n bs)) st) (λ vs s1. on_bound (site_of s) known (all_bound (map (λ (b : Given). b.0) (bind_all s a n bs)) vs s1.world.heap) s1);
  is = λ s a n. (query q bs).is s a n
      ∙ (λ i st. bind (all_of (map (λ (b : Given). b.1) (bind_all s a n bs)) st) (λ vs s1. on_bound (site_of s) (e i) (all_bound (map (λ (b : Given). b.0) (bind_all s a n bs)) vs s1.world.heap) s1));
}

-- what a record leads to, by the form of what it knows
pub leads : (schema : Schema) (paths : List Cell) (z : Over-F Over) (object : ℕ) (things : List Thing) →
    over_made schema paths (roll-Over z) object things ≡ over_step schema paths (map-Over Over (Leads schema paths) (over_made schema paths) z) object things
leads schema paths z object things = λ i. fold-roll-Over (Leads schema paths) (over_step schema paths) z i object things

-- ---- runs on answers

pub on_tape : List Answer → List StmtOf → Trail
on_tape tape block = block_run league (stmt_trees block) tape

pub comes : (tape : List Answer) (block : List StmtOf) (t : Trail) → ((again : Again) → run_of league (all_do (stmt_all league again [] block) (first_state tape)) ≡ t) → on_tape tape block ≡ t
unfolding on_tape
comes tape block t h =
    (λ i. run_of league (all_do (stmt_each league (rounds league [] (enough league.program)) [] block i) (first_state tape))) ∙ h (rounds league [] (enough league.program))

-- so many queries, rows and steps; nothing is written
abbrev pub came : Outcome → ℕ → ℕ → ℕ → List (List ℕ) → Trail
came outcome queries rows steps lines =
    Ends (record { outcome = outcome; debug = lines; counts = record { queries = queries; rows = rows; dml = 0; saved = 0; steps = steps }; ops = 0 }) (record { puts = []; drops = [] })

-- the state of a block with these locals, charges, things and answers
abbrev pub state : List Value → List Entry → List Thing → List Answer → State
state locals charges heap tape = record {
  here = record { locals = locals; this = null; mode = Sharing; firing = 0 };
  world = record { txn = record { overlay = []; minted = 0; charges = charges; tape = tape }; heap = heap; statics = []; debug = [] };
}

-- that of its first statement
abbrev pub begun : List Answer → State
begun tape = state [] (Charged Steps 1 ∷ []) [] tape

-- what an expression comes to in a state
abbrev pub Comes : ExprOf → State → Res Value → Type 0
Comes e st r = (again : Again) → e.does league again [] st ≡ r

-- the only record of what it gives
pub only_comes : (e : ExprOf) (st st1 : State) (v : Value) → Comes e st (Gives v st1) → Comes (only e) st (calc (Records.only v st1.world.heap) st1)
only_comes e st st1 v h = λ again i. bind (h again i) (λ w s. calc (Records.only w s.world.heap) s)

abbrev kept : ℕ → Value → State → Res (Unit {0})
kept x v s = Gives tt (set_local x v s)

-- what it gives is put into a local, and statements follow
abbrev pub then : ℕ → List StmtOf → Again → Res Value → Res (Unit {0})
then x rest again r = bind (bind r (kept x)) (λ u s. all_do (stmt_all league again [] rest) s)

pub then_comes : (x : ℕ) (e : ExprOf) (st : State) (r : Res Value) (rest : List StmtOf) (t : Trail) → Comes e st r → ((again : Again) → run_of league (then x rest again r) ≡ t) → (again : Again) → run_of league (then x rest again (e.does league again [] st)) ≡ t
then_comes x e st r rest t h k again = (λ i. run_of league (then x rest again (h again i))) ∙ k again

-- where a block begins so
pub first : (tape : List Answer) (x : ℕ) (e : ExprOf) (r : Res Value) (rest : List StmtOf) (t : Trail) → Comes e (begun tape) r → ((again : Again) → run_of league (then x rest again r) ≡ t) → on_tape tape (has x e ∷ rest) ≡ t
first tape x e r rest t h k = comes tape (has x e ∷ rest) t (then_comes x e (begun tape) r rest t h k)

-- where one record is wanted of what it gives
pub first_only : (tape : List Answer) (x : ℕ) (e : ExprOf) (v : Value) (st : State) (rest : List StmtOf) (t : Trail) → Comes e (begun tape) (Gives v st) → ((again : Again) → run_of league (then x rest again (calc (Records.only v st.world.heap) st)) ≡ t) → on_tape tape (has x (only e) ∷ rest) ≡ t
first_only tape x e v st rest t h k = first tape x (only e) (calc (Records.only v st.world.heap) st) rest t (only_comes e (begun tape) st v h) k
