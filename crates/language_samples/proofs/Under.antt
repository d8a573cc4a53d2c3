-- Records under records that a query gave.
use Rattle.std.proofs.Common.{◌≡◌, refl, ℕ, true, false, List, [], ◌∷◌, ◌++◌, codes, None, Some}
use Rattle.apex_num.specs.declared.cell.Cell.TheVariants.{Text, Id}
use Rattle.apex_num.specs.declared.kind.LimitKind.TheVariants.{Alloc, Rows, Queries, Steps}
use Rattle.apex_requests.specs.declared.reply.Outcome.{Outcome}
use Rattle.apex_requests.specs.declared.reply.Outcome.TheVariants.{Ok, Thrown}
use Rattle.apex_rows.specs.declared.query.Cond.{Cond}
use Rattle.apex_rows.specs.declared.query.Cond.TheOpen.{Cond-F}
use Rattle.apex_rows.specs.declared.query.Cond.TheViews.{roll-Cond}
use Rattle.apex_rows.specs.declared.query.Cond.TheFolds.{fold-roll-Cond}
use Rattle.apex_rows.specs.declared.query.Query.{Query}
use Rattle.apex_rows.specs.declared.query.Query.TheViews.{roll-Query, out-roll-Query, roll-SubQuery, out-roll-SubQuery}
use Rattle.apex_rows.specs.declared.query.SubQuery.{SubQuery}
use Rattle.builtin_table.specs.declared.method.Builtin.TheVariants as B
use Rattle.builtin_table.specs.declared.method.ListMethod.TheVariants as L
use Rattle.limit_meter.specs.Charges.{Charged}
use Rattle.query_records.specs.Shapes.{queried}
use Rattle.query_records.specs.declared.shape.Queried.{Queried}
use Rattle.query_records.specs.declared.shape.RowShape.{RowShape}
use Rattle.save_meaning.specs.Results.{Gives}
use Rattle.txn_heap.specs.declared.thing.Thing.TheVariants as T
use Rattle.request_states.specs.States.{State}
use Rattle.language_samples.proofs.Known.{ExprOf, PartOf, number, nothing, local, equal, path, cell_part, children_part, parent_part, item_part, builtin_part, new_record, only}
use Rattle.language_samples.proofs.League.{reds_id, kim_id, sam_id, reds, kim, sam, rows, at, given, given_player, own, asking, on_tape, comes, came, state, begun, Comes, first_only}
use Rattle.language_samples.proofs.Stmts.{declare, has, say}

abbrev all : Cond
all = roll-Cond (Cond-F.All [])

-- SELECT Name__c, and these, FROM Team__c
abbrev teams : List SubQuery → Query
teams children = roll-Query (record { object = 0; counted = false; paths = own 2 ∷ []; children = children; cond = all; keys = []; limit = None; offset = None; locked = false })

-- (SELECT Name__c FROM Players__r)
abbrev under : SubQuery
under = roll-SubQuery (record {
  lookup = 3;
  query = roll-Query (record { object = 1; counted = false; paths = own 2 ∷ []; children = []; cond = all; keys = []; limit = None; offset = None; locked = false });
})

abbrev own_name : RowShape
own_name = record { own = 0 ∷ 2 ∷ []; over = [] }

abbrev full_known : Queried
full_known = record { query = teams (under ∷ []); shape = record { row = own_name; children = record { object = 1; lookup = 3; row = own_name } ∷ [] } }

full_is : queried (teams (under ∷ [])) ≡ full_known
full_is = simp (out-roll-Query, out-roll-SubQuery) refl

-- [SELECT Name__c, (SELECT Name__c FROM Players__r) FROM Team__c]
abbrev full : ExprOf
full = asking (teams (under ∷ [])) full_known full_is []

-- Kim, Sam, the list of both, the team over it, and the list of that
abbrev full_seen : State
full_seen = state [] (Charged Alloc 640 ∷ Charged Rows 3 ∷ Charged Queries 1 ∷ Charged Steps 1 ∷ [])
    (given_player kim_id (codes "Kim") [] ∷ given_player sam_id (codes "Sam") [] ∷ T.List (at 0 ∷ at 1 ∷ [])
    ∷ given 0 (Some (Id reds_id) ∷ None ∷ Some (Text (codes "Reds")) ∷ None ∷ []) [] (record { object = 1; field = 3; list = at 2 } ∷ []) ∷ T.List (at 3 ∷ []) ∷ []) []

full_gives : Comes full (begun (rows (reds ∷ []) ∷ rows (kim ∷ sam ∷ []) ∷ [])) (Gives (at 4) full_seen)
full_gives again = simp (out-roll-Query, out-roll-SubQuery, fold-roll-Cond) refl

-- t.Players__r, and what stands behind it
abbrev of_team : List PartOf → ExprOf
of_team ps = path (local 0) (children_part 1 3 false ∷ ps)

-- Team__c t = [SELECT Name__c, (SELECT Name__c FROM Players__r) FROM Team__c]; System.debug(t.Players__r.size() == 2); System.debug(t.Players__r[1].Name__c);
players_of : on_tape (rows (reds ∷ []) ∷ rows (kim ∷ sam ∷ []) ∷ [])
    (has 0 (only full) ∷ say (equal (of_team (builtin_part (B.List L.Size) [] ∷ [])) (number 2)) ∷ say (of_team (item_part (number 1) ∷ cell_part 1 2 false ∷ [])) ∷ [])
    ≡ came Ok 1 3 3 (codes "true" ∷ codes "Sam" ∷ [])
players_of = first_only _ 0 full (at 4) full_seen _ _ full_gives (λ again. refl)

abbrev unasked : List ℕ → Outcome
unasked word = Thrown (codes "SObjectException") (codes "SObject row was retrieved via SOQL without querying the requested field: " ++ word)

-- System.debug(t.Players__r[0].Team__r); the subquery doesn't follow it
unfollowed : on_tape (rows (reds ∷ []) ∷ rows (kim ∷ sam ∷ []) ∷ []) (has 0 (only full) ∷ say (of_team (item_part (number 0) ∷ parent_part 1 3 false ∷ [])) ∷ []) ≡ came (unasked (codes "Player__c.Team__r")) 1 3 2 []
unfollowed = first_only _ 0 full (at 4) full_seen _ _ full_gives (λ again. refl)

-- ---- without the subquery

abbrev bare_known : Queried
bare_known = record { query = teams []; shape = record { row = own_name; children = [] } }

bare_is : queried (teams []) ≡ bare_known
bare_is = simp (out-roll-Query) refl

-- [SELECT Name__c FROM Team__c]
abbrev bare : ExprOf
bare = asking (teams []) bare_known bare_is []

abbrev bare_seen : State
bare_seen = state [] (Charged Alloc 192 ∷ Charged Rows 1 ∷ Charged Queries 1 ∷ Charged Steps 1 ∷ []) (given 0 (Some (Id reds_id) ∷ None ∷ Some (Text (codes "Reds")) ∷ None ∷ []) [] [] ∷ T.List (at 0 ∷ []) ∷ []) []

bare_gives : Comes bare (begun (rows (reds ∷ []) ∷ [])) (Gives (at 1) bare_seen)
bare_gives again = simp (out-roll-Query, fold-roll-Cond) refl

-- Team__c t = [SELECT Name__c FROM Team__c]; System.debug(t.Players__r);
no_subquery : on_tape (rows (reds ∷ []) ∷ []) (has 0 (only bare) ∷ say (of_team []) ∷ []) ≡ came (unasked (codes "Team__c.Players__r")) 1 1 2 []
no_subquery = first_only _ 0 bare (at 1) bare_seen _ _ bare_gives (λ again. refl)

-- ---- no query

-- Team__c t = new Team__c(); System.debug(t.Players__r == null); System.debug(t.Captain__r == null);
made_by_code : on_tape [] (has 0 (new_record 0 []) ∷ say (equal (of_team []) nothing) ∷ say (equal (path (local 0) (parent_part 0 3 false ∷ [])) nothing) ∷ []) ≡ came Ok 0 0 3 (codes "true" ∷ codes "true" ∷ [])
made_by_code = comes _ _ _ (λ again. refl)

abbrev null_thrown : Outcome
null_thrown = Thrown (codes "NullPointerException") (codes "Attempt to de-reference a null object")

-- Team__c t; System.debug(t.Players__r);
null_children : on_tape [] (declare 0 ∷ say (of_team []) ∷ []) ≡ came null_thrown 0 0 2 []
null_children = comes _ _ _ (λ again. refl)

-- Player__c p; System.debug(p.Team__r);
null_parent : on_tape [] (declare 0 ∷ say (path (local 0) (parent_part 1 3 false ∷ [])) ∷ []) ≡ came null_thrown 0 0 2 []
null_parent = comes _ _ _ (λ again. refl)

-- Player__c p = new Player__c(); System.debug(p.Team__r.Players__r == null); System.debug(p.Team__r.Captain__r.Name__c == null); where the relation leads to nothing, nor does what follows
goes_on : on_tape []
    (has 0 (new_record 1 []) ∷ say (equal (path (local 0) (parent_part 1 3 false ∷ children_part 1 3 true ∷ [])) nothing)
    ∷ say (equal (path (local 0) (parent_part 1 3 false ∷ parent_part 0 3 true ∷ cell_part 1 2 true ∷ [])) nothing) ∷ [])
    ≡ came Ok 0 0 3 (codes "true" ∷ codes "true" ∷ [])
goes_on = comes _ _ _ (λ again. refl)
