-- Queries in blocks, each with all that the request comes to on the answers of a store.
use Rattle.std.proofs.Common.{◌≡◌, refl, ℕ, true, false, List, [], ◌∷◌, ◌++◌, codes, pos, None, Some}
use Rattle.apex_num.specs.declared.cell.Cell.TheVariants.{Text, Id}
use Rattle.apex_num.specs.declared.cell.Cell.TheVariants as C
use Rattle.apex_num.specs.declared.kind.LimitKind.TheVariants.{Alloc, Rows, Queries, Steps}
use Rattle.apex_requests.specs.declared.reply.Outcome.{Outcome}
use Rattle.apex_requests.specs.declared.reply.Outcome.TheVariants.{Ok, Thrown}
use Rattle.apex_rows.specs.declared.query.Cond.{Cond}
use Rattle.apex_rows.specs.declared.query.Cond.TheOpen.{Cond-F}
use Rattle.apex_rows.specs.declared.query.Cond.TheViews.{roll-Cond}
use Rattle.apex_rows.specs.declared.query.Cond.TheFolds.{fold-roll-Cond}
use Rattle.apex_rows.specs.declared.query.Path.{Path}
use Rattle.apex_rows.specs.declared.query.Query.{Query}
use Rattle.apex_rows.specs.declared.query.Query.TheViews.{roll-Query, out-roll-Query}
use Rattle.builtin_table.specs.declared.method.Builtin.TheVariants as B
use Rattle.builtin_table.specs.declared.method.MapMethod.TheVariants as M
use Rattle.limit_meter.specs.Charges.{Charged}
use Rattle.query_records.specs.Shapes.{queried}
use Rattle.query_records.specs.declared.shape.Over.TheViews.{roll-Over}
use Rattle.query_records.specs.declared.shape.Queried.{Queried}
use Rattle.save_meaning.specs.Results.{Gives}
use Rattle.txn_heap.specs.declared.thing.Thing.TheVariants as T
use Rattle.txn_heap.specs.declared.thing.Value.TheVariants.{Plain}
use Rattle.request_states.specs.States.{State}
use Rattle.request_states.specs.Values.{null}
use Rattle.typed_program.specs.declared.expr.Constant.TheVariants as Is
use Rattle.language_samples.proofs.Known.{ExprOf, PartOf, constant, number, nothing, local, equal, assign, at_cell, item, cell, path, cell_part, parent_part, builtin_part, builtin_on, only, map_of}
use Rattle.language_samples.proofs.League.{kim_id, lee_id, kim, lee, sam, reds, rows, at, given, given_player, leads_to, own, asking, leads, on_tape, came, state, begun, Comes, first, first_only}
use Rattle.language_samples.proofs.Stmts.{StmtOf, does, has, say}

abbrev all : Cond
all = roll-Cond (Cond-F.All [])

-- SELECT these FROM Player__c
abbrev players : List Path → Query
players paths = roll-Query (record { object = 1; counted = false; paths = paths; children = []; cond = all; keys = []; limit = None; offset = None; locked = false })

abbrev unasked : List ℕ → Outcome
unasked word = Thrown (codes "SObjectException") (codes "SObject row was retrieved via SOQL without querying the requested field: " ++ word)

-- ---- paths over parents

abbrev team_name : Path
team_name = record { parents = 3 ∷ []; field = 2 }

-- the Ids of the teams stand in front
abbrev with_teams : Queried
with_teams = record {
  query = players (record { parents = 3 ∷ []; field = 0 } ∷ own 2 ∷ team_name ∷ []);
  shape = record { row = record { own = 0 ∷ 2 ∷ []; over = roll-Over (record { field = 3; id = 0; cells = record { field = 2; place = 1 } ∷ []; over = [] }) ∷ [] }; children = [] };
}

with_teams_is : queried (players (own 2 ∷ team_name ∷ [])) ≡ with_teams
with_teams_is = simp (out-roll-Query) refl

-- [SELECT Name__c, Team__r.Name__c FROM Player__c]
abbrev named : ExprOf
named = asking (players (own 2 ∷ team_name ∷ [])) with_teams with_teams_is []

-- the team of Kim, Kim, Lee, and the list of both
abbrev seen : State
seen = state [] (Charged Alloc 448 ∷ Charged Rows 2 ∷ Charged Queries 1 ∷ Charged Steps 1 ∷ [])
    (given 0 (None ∷ None ∷ Some (Text (codes "Reds")) ∷ None ∷ []) [] []
    ∷ given_player kim_id (codes "Kim") (leads_to (at 0) ∷ []) ∷ given_player lee_id (codes "Lee") (leads_to null ∷ []) ∷ T.List (at 1 ∷ at 2 ∷ []) ∷ []) []

named_gives : Comes named (begun (rows (kim ∷ lee ∷ []) ∷ rows (reds ∷ []) ∷ [])) (Gives (at 3) seen)
named_gives again = simp (out-roll-Query, fold-roll-Cond, leads) refl

-- what stands behind ps[n]
abbrev of_player : ℕ → List PartOf → ExprOf
of_player n ps = path (item (local 0) (number n)) ps

-- List<Player__c> ps = [SELECT Name__c, Team__r.Name__c FROM Player__c]; System.debug(ps[0].Name__c); System.debug(ps[0].Team__r.Name__c);
names : on_tape (rows (kim ∷ lee ∷ []) ∷ rows (reds ∷ []) ∷ []) (has 0 named ∷ say (of_player 0 (cell_part 1 2 false ∷ [])) ∷ say (of_player 0 (parent_part 1 3 false ∷ cell_part 0 2 true ∷ [])) ∷ [])
    ≡ came Ok 1 2 3 (codes "Kim" ∷ codes "Reds" ∷ [])
names = first _ 0 named _ _ _ named_gives (λ again. refl)

-- what is read behind it
abbrev reads : List StmtOf → Outcome → ℕ → List (List ℕ) → Type 0
reads rest outcome steps lines = on_tape (rows (kim ∷ lee ∷ []) ∷ rows (reds ∷ []) ∷ []) (has 0 named ∷ rest) ≡ came outcome 1 2 steps lines

-- System.debug(ps[1].Team__r == null); System.debug(ps[1].Team__r.Name__c == null); Lee is of no team
no_team : reads (say (equal (of_player 1 (parent_part 1 3 false ∷ [])) nothing) ∷ say (equal (of_player 1 (parent_part 1 3 false ∷ cell_part 0 2 true ∷ [])) nothing) ∷ []) Ok 3 (codes "true" ∷ codes "true" ∷ [])
no_team = first _ 0 named _ _ _ named_gives (λ again. refl)

-- System.debug(ps[0].Goals__c); it wasn't selected
unselected : reads (say (of_player 0 (cell_part 1 4 false ∷ [])) ∷ []) (unasked (codes "Player__c.Goals__c")) 2 []
unselected = first _ 0 named _ _ _ named_gives (λ again. refl)

-- System.debug(ps[0].Team__r.OwnerId); nor was this
unselected_over : reads (say (of_player 0 (parent_part 1 3 false ∷ cell_part 0 1 true ∷ [])) ∷ []) (unasked (codes "Team__c.OwnerId")) 2 []
unselected_over = first _ 0 named _ _ _ named_gives (λ again. refl)

-- System.debug(ps[0].Team__r.Captain__r); nor is this relation followed
unfollowed : reads (say (of_player 0 (parent_part 1 3 false ∷ parent_part 0 3 true ∷ [])) ∷ []) (unasked (codes "Team__c.Captain__r")) 2 []
unfollowed = first _ 0 named _ _ _ named_gives (λ again. refl)

-- System.debug(ps[0].Id == null); the Id is known, whether or not it is selected
id_known : reads (say (equal (of_player 0 (cell_part 1 0 false ∷ [])) nothing) ∷ []) Ok 2 (codes "false" ∷ [])
id_known = first _ 0 named _ _ _ named_gives (λ again. refl)

-- ps[0].Goals__c = 5.0; System.debug(ps[0].Goals__c == 5.0); what is assigned to is known from then on
assigned_known : reads (does (assign (at_cell (item (local 0) (number 0)) 1 4) (constant (Is.Decimal 5000000))) ∷ say (equal (of_player 0 (cell_part 1 4 false ∷ [])) (constant (Is.Decimal 5000000))) ∷ []) Ok 3 (codes "true" ∷ [])
assigned_known = first _ 0 named _ _ _ named_gives (λ again. refl)

-- ---- over two rows

abbrev captain_name : Path
captain_name = record { parents = 3 ∷ 3 ∷ []; field = 2 }

abbrev with_captains : Queried
with_captains = record {
  query = players (record { parents = 3 ∷ []; field = 0 } ∷ record { parents = 3 ∷ 3 ∷ []; field = 0 } ∷ captain_name ∷ []);
  shape = record {
    row = record { own = 0 ∷ []; over = roll-Over (record { field = 3; id = 0; cells = []; over = roll-Over (record { field = 3; id = 1; cells = record { field = 2; place = 2 } ∷ []; over = [] }) ∷ [] }) ∷ [] };
    children = [];
  };
}

with_captains_is : queried (players (captain_name ∷ [])) ≡ with_captains
with_captains_is = simp (out-roll-Query) refl

-- [SELECT Team__r.Captain__r.Name__c FROM Player__c]
abbrev led : ExprOf
led = asking (players (captain_name ∷ [])) with_captains with_captains_is []

-- the captain, the team, Kim, and the list
abbrev led_seen : State
led_seen = state [] (Charged Alloc 224 ∷ Charged Rows 1 ∷ Charged Queries 1 ∷ Charged Steps 1 ∷ [])
    (given 1 (None ∷ None ∷ Some (Text (codes "Sam")) ∷ None ∷ None ∷ []) [] [] ∷ given 0 (None ∷ None ∷ None ∷ None ∷ []) (leads_to (at 0) ∷ []) []
    ∷ given 1 (Some (Id kim_id) ∷ None ∷ None ∷ None ∷ None ∷ []) (leads_to (at 1) ∷ []) [] ∷ T.List (at 2 ∷ []) ∷ []) []

led_gives : Comes led (begun (rows (kim ∷ []) ∷ rows (reds ∷ []) ∷ rows (sam ∷ []) ∷ [])) (Gives (at 3) led_seen)
led_gives again = simp (out-roll-Query, fold-roll-Cond, leads) refl

-- List<Player__c> ps = [SELECT Team__r.Captain__r.Name__c FROM Player__c]; System.debug(ps[0].Team__r.Captain__r.Name__c);
captain : on_tape (rows (kim ∷ []) ∷ rows (reds ∷ []) ∷ rows (sam ∷ []) ∷ []) (has 0 led ∷ say (of_player 0 (parent_part 1 3 false ∷ parent_part 0 3 true ∷ cell_part 1 2 true ∷ [])) ∷ []) ≡ came Ok 1 1 2 (codes "Sam" ∷ [])
captain = first _ 0 led _ _ _ led_gives (λ again. refl)

-- ---- where one record is wanted

-- [SELECT Name__c FROM Player__c]
abbrev plain_known : Queried
plain_known = record { query = players (own 2 ∷ []); shape = record { row = record { own = 0 ∷ 2 ∷ []; over = [] }; children = [] } }

plain_is : queried (players (own 2 ∷ [])) ≡ plain_known
plain_is = simp (out-roll-Query) refl

abbrev plain : ExprOf
plain = asking (players (own 2 ∷ [])) plain_known plain_is []

abbrev none : State
none = state [] (Charged Alloc 0 ∷ Charged Rows 0 ∷ Charged Queries 1 ∷ Charged Steps 1 ∷ []) (T.List [] ∷ []) []

none_gives : Comes plain (begun (rows [] ∷ [])) (Gives (at 0) none)
none_gives again = simp (out-roll-Query, fold-roll-Cond) refl

abbrev one_player : State
one_player = state [] (Charged Alloc 224 ∷ Charged Rows 1 ∷ Charged Queries 1 ∷ Charged Steps 1 ∷ []) (given_player kim_id (codes "Kim") [] ∷ T.List (at 0 ∷ []) ∷ []) []

one_gives : Comes plain (begun (rows (kim ∷ []) ∷ [])) (Gives (at 1) one_player)
one_gives again = simp (out-roll-Query, fold-roll-Cond) refl

abbrev two_players : State
two_players = state [] (Charged Alloc 448 ∷ Charged Rows 2 ∷ Charged Queries 1 ∷ Charged Steps 1 ∷ [])
    (given_player kim_id (codes "Kim") [] ∷ given_player lee_id (codes "Lee") [] ∷ T.List (at 0 ∷ at 1 ∷ []) ∷ []) []

two_gives : Comes plain (begun (rows (kim ∷ lee ∷ []) ∷ [])) (Gives (at 2) two_players)
two_gives again = simp (out-roll-Query, fold-roll-Cond) refl

-- Player__c p = [SELECT Name__c FROM Player__c];
no_row : on_tape (rows [] ∷ []) (has 0 (only plain) ∷ []) ≡ came (Thrown (codes "QueryException") (codes "List has no rows for assignment to SObject")) 1 0 1 []
no_row = first_only _ 0 plain (at 0) none _ _ none_gives (λ again. refl)

-- and then System.debug(p.Name__c);
one_row : on_tape (rows (kim ∷ []) ∷ []) (has 0 (only plain) ∷ say (cell (local 0) 1 2) ∷ []) ≡ came Ok 1 1 2 (codes "Kim" ∷ [])
one_row = first_only _ 0 plain (at 1) one_player _ _ one_gives (λ again. refl)

two_rows : on_tape (rows (kim ∷ lee ∷ []) ∷ []) (has 0 (only plain) ∷ []) ≡ came (Thrown (codes "QueryException") (codes "List has more than 1 row for assignment to SObject")) 1 2 1 []
two_rows = first_only _ 0 plain (at 2) two_players _ _ two_gives (λ again. refl)

-- System.debug(p.Team__r); no path follows it
unfollowed_row : on_tape (rows (kim ∷ []) ∷ []) (has 0 (only plain) ∷ say (path (local 0) (parent_part 1 3 false ∷ [])) ∷ []) ≡ came (unasked (codes "Player__c.Team__r")) 1 1 2 []
unfollowed_row = first_only _ 0 plain (at 1) one_player _ _ one_gives (λ again. refl)

-- List<Player__c> ps = [SELECT Name__c FROM Player__c]; Map<Id, Player__c> m = new Map<Id, Player__c>(ps); System.debug(m.size() == 2); System.debug(m.get(ps[1].Id).Name__c);
by_their_ids : on_tape (rows (kim ∷ lee ∷ []) ∷ [])
    (has 0 plain ∷ has 1 (map_of (local 0)) ∷ say (equal (builtin_on (local 1) (B.Map M.Size) []) (number 2)) ∷ say (path (local 1) (builtin_part (B.Map M.Get) (of_player 1 (cell_part 1 0 false ∷ []) ∷ []) ∷ cell_part 1 2 false ∷ [])) ∷ [])
    ≡ came Ok 1 2 4 (codes "true" ∷ codes "Lee" ∷ [])
by_their_ids = first _ 0 plain _ _ _ two_gives (λ again. refl)

-- ---- COUNT()

abbrev counting : Query
counting = roll-Query (record { object = 1; counted = true; paths = []; children = []; cond = all; keys = []; limit = None; offset = None; locked = false })

abbrev counted_known : Queried
counted_known = record { query = counting; shape = record { row = record { own = 0 ∷ []; over = [] }; children = [] } }

counted_is : queried counting ≡ counted_known
counted_is = simp (out-roll-Query) refl

-- [SELECT COUNT() FROM Player__c]
abbrev counted : ExprOf
counted = asking counting counted_known counted_is []

counted_gives : Comes counted (begun (rows (kim ∷ lee ∷ []) ∷ [])) (Gives (Plain (C.Whole (pos 2))) (state [] (Charged Rows 1 ∷ Charged Queries 1 ∷ Charged Steps 1 ∷ []) [] []))
counted_gives again = simp (out-roll-Query, fold-roll-Cond) refl

-- Integer n = [SELECT COUNT() FROM Player__c]; System.debug(n == 2); a row is charged, whatever the number is
how_many : on_tape (rows (kim ∷ lee ∷ []) ∷ []) (has 0 counted ∷ say (equal (local 0) (number 2)) ∷ []) ≡ came Ok 1 1 2 (codes "true" ∷ [])
how_many = first _ 0 counted _ _ _ counted_gives (λ again. refl)
