-- Queries with binds, an order and a LIMIT.
use Rattle.std.proofs.Common.{◌≡◌, refl, true, false, List, [], ◌∷◌, Bool, codes, pos, Option, None, Some, ap, ◌∙◌}
use Rattle.apex_num.specs.declared.cell.Cell.TheVariants as C
use Rattle.apex_num.specs.declared.kind.LimitKind.TheVariants.{Alloc, Rows, Queries, Steps}
use Rattle.apex_requests.specs.declared.reply.Outcome.TheVariants.{Ok, Thrown}
use Rattle.apex_rows.specs.declared.query.Answer.{Answer}
use Rattle.apex_rows.specs.declared.query.Bind.{Bind}
use Rattle.apex_rows.specs.declared.query.Bind.TheVariants as Values
use Rattle.query_meaning.specs.Questions.{asked, given_step}
use Rattle.row_meaning.specs.Conds.{local_part}
use Rattle.apex_rows.specs.declared.query.Cond.{Cond}
use Rattle.apex_rows.specs.declared.query.Cond.TheOpen.{Cond-F}
use Rattle.apex_rows.specs.declared.query.Cond.TheVariants as Conds
use Rattle.apex_rows.specs.declared.query.Cond.TheViews.{roll-Cond, out-roll-Cond}
use Rattle.apex_rows.specs.declared.query.Cond.TheFolds.{fold-roll-Cond}
use Rattle.apex_rows.specs.declared.query.Path.{Path}
use Rattle.apex_rows.specs.declared.query.Query.{Query}
use Rattle.apex_rows.specs.declared.query.Query.TheViews.{roll-Query, out-roll-Query}
use Rattle.apex_rows.specs.declared.query.Question.TheVariants.{Read}
use Rattle.apex_rows.specs.declared.query.SortKey.{SortKey}
use Rattle.apex_rows.specs.declared.query.Term.{Term}
use Rattle.apex_rows.specs.declared.query.Term.TheVariants.{Given, Bound}
use Rattle.apex_rows.specs.declared.query.Terms.{Terms}
use Rattle.apex_rows.specs.declared.query.Terms.TheVariants as These
use Rattle.limit_meter.specs.Charges.{Charged, Entry}
use Rattle.platform_errors.specs.declared.thrown.Thrown.TheVariants.{InvalidLimit}
use Rattle.query_records.specs.Shapes.{queried}
use Rattle.query_records.specs.declared.shape.Queried.{Queried}
use Rattle.save_meaning.specs.Results.{Gives, Stops, Leaves, Closes, Needs}
use Rattle.tenant_trails.specs.Runs.{Asks}
use Rattle.txn_heap.specs.declared.thing.Thing.{Thing}
use Rattle.txn_heap.specs.declared.thing.Thing.TheVariants as T
use Rattle.txn_heap.specs.declared.thing.Value.TheVariants.{Plain}
use Rattle.request_states.specs.States.{State, thrown}
use Rattle.request_states.specs.Values.{null}
use Rattle.typed_program.specs.declared.expr.Conversion.TheVariants.{ToDecimal}
use Rattle.language_samples.proofs.Known.{ExprOf, number, local, item, path, cell_part, list, one, many}
use Rattle.language_samples.proofs.League.{kim_id, sam_id, kim, lee, sam, rows, at, given_player, own, asking, on_tape, comes, came, state, begun, Comes, first, then_comes}
use Rattle.language_samples.proofs.Stmts.{StmtOf, declare, has, say}

-- SELECT Name__c FROM Player__c, with such a condition, order and LIMIT
abbrev players : Cond → List SortKey → Option Term → Query
players c keys limit = roll-Query (record { object = 1; counted = false; paths = own 2 ∷ []; children = []; cond = c; keys = keys; limit = limit; offset = None; locked = false })

-- and so as it finds
abbrev known : Query → Queried
known q = record { query = q; shape = record { row = record { own = 0 ∷ 2 ∷ []; over = [] }; children = [] } }

known_is : (c : Cond) (keys : List SortKey) (limit : Option Term) → queried (players c keys limit) ≡ known (players c keys limit)
known_is c keys limit = simp (out-roll-Query) refl

-- ---- WHERE Goals__c IN :goals

abbrev among : Cond
among = roll-Cond (Cond-F.Within (own 4) false (These.Bound 0))

abbrev filtered : ExprOf
filtered = asking (players among [] None) (known (players among [] None)) (known_is among [] None) (many ToDecimal (local 0) ∷ [])

-- List<Integer> goals = new List<Integer>{5, 7};
abbrev goals : StmtOf
goals = has 0 (list (number 5 ∷ number 7 ∷ []))

abbrev five_and_seven : Thing
five_and_seven = T.List (Plain (C.Whole (pos 5)) ∷ Plain (C.Whole (pos 7)) ∷ [])

abbrev had : List Entry
had = Charged Steps 1 ∷ Charged Alloc 64 ∷ Charged Steps 1 ∷ []

abbrev behind_goals : List Answer → State
behind_goals tape = state (at 0 ∷ []) had (five_and_seven ∷ []) tape

-- the store is asked for players with 5.0 or 7.0 goals: the items are converted
abbrev these : List Bind
these = Values.Many (C.Num (pos 5000000) ∷ C.Num (pos 7000000) ∷ []) ∷ []

abbrev among_these : Cond
among_these = roll-Cond (Cond-F.Within (own 4) false (These.Given (Given (C.Num (pos 5000000)) ∷ Given (C.Num (pos 7000000)) ∷ [])))

rolled : (path : Path) (negated : Bool) (terms : Terms) → Conds.Within path negated terms ≡ roll-Cond (Cond-F.Within path negated terms)
unfolding roll-Cond denote.Hole.Carrier.roll
rolled path negated terms = refl

asked_is : asked these among ≡ among_these ∷ []
asked_is = ap local_part (fold-roll-Cond Cond (given_step these) (Cond-F.Within (own 4) false (These.Bound 0)) ∙ rolled (own 4) false _) ∙ simp (out-roll-Cond, fold-roll-Cond) refl

filtered_asks : Comes filtered (behind_goals []) (Stops (Closes (Needs (Read 1 (Conds.All (asked these among))))) (state (at 0 ∷ []) (Charged Queries 1 ∷ had) (five_and_seven ∷ []) []))
filtered_asks again = simp (out-roll-Query) refl

asks_for_goals : on_tape [] (goals ∷ has 1 filtered ∷ []) ≡ Asks (Read 1 (Conds.All (among_these ∷ [])))
asks_for_goals =
    comes [] (goals ∷ has 1 filtered ∷ []) _ (then_comes 1 filtered (behind_goals []) _ [] (Asks (Read 1 (Conds.All (asked these among)))) filtered_asks (λ again. refl)) ∙ ap (λ cs. Asks (Read 1 (Conds.All cs))) asked_is

-- a row that an answer has beside those doesn't meet the condition
abbrev filtered_seen : State
filtered_seen = state (at 0 ∷ []) (Charged Alloc 448 ∷ Charged Rows 2 ∷ Charged Queries 1 ∷ had) (five_and_seven ∷ given_player kim_id (codes "Kim") [] ∷ given_player sam_id (codes "Sam") [] ∷ T.List (at 1 ∷ at 2 ∷ []) ∷ []) []

filtered_gives : Comes filtered (behind_goals (rows (kim ∷ lee ∷ sam ∷ []) ∷ [])) (Gives (at 3) filtered_seen)
filtered_gives again = simp (out-roll-Query, fold-roll-Cond) refl

-- List<Player__c> ps = [SELECT Name__c FROM Player__c WHERE Goals__c IN :goals]; System.debug(ps[0].Name__c); System.debug(ps[1].Name__c);
among_goals : on_tape (rows (kim ∷ lee ∷ sam ∷ []) ∷ []) (goals ∷ has 1 filtered ∷ say (path (item (local 1) (number 0)) (cell_part 1 2 false ∷ [])) ∷ say (path (item (local 1) (number 1)) (cell_part 1 2 false ∷ [])) ∷ [])
    ≡ came Ok 1 2 4 (codes "Kim" ∷ codes "Sam" ∷ [])
among_goals = comes _ _ _ (then_comes 1 filtered (behind_goals (rows (kim ∷ lee ∷ sam ∷ []) ∷ [])) _ (say (path (item (local 1) (number 0)) (cell_part 1 2 false ∷ [])) ∷ say (path (item (local 1) (number 1)) (cell_part 1 2 false ∷ [])) ∷ []) _ filtered_gives (λ again. refl))

-- List<Integer> goals; the query throws before it is charged
null_goals : on_tape [] (declare 0 ∷ has 1 filtered ∷ []) ≡ came (Thrown (codes "NullPointerException") (codes "Attempt to de-reference a null object")) 0 0 2 []
null_goals = comes _ _ _ (λ again. refl)

-- ---- LIMIT

abbrev all : Cond
all = roll-Cond (Cond-F.All [])

-- LIMIT :n
abbrev limited : ExprOf
limited = asking (players all [] (Some (Bound 0))) (known (players all [] (Some (Bound 0)))) (known_is all [] (Some (Bound 0))) (one (local 0) ∷ [])

-- Integer n; a LIMIT that is null throws before anything is charged
null_limit_throws : Comes limited (state (null ∷ []) (Charged Steps 1 ∷ Charged Steps 1 ∷ []) [] []) (Stops (Leaves (thrown InvalidLimit)) (state (null ∷ []) (Charged Steps 1 ∷ Charged Steps 1 ∷ []) [] []))
null_limit_throws again = simp (out-roll-Query) refl

null_limit : on_tape [] (declare 0 ∷ has 1 limited ∷ []) ≡ came (Thrown (codes "QueryException") (codes "Invalid limit")) 0 0 2 []
null_limit = comes [] (declare 0 ∷ has 1 limited ∷ []) _ (then_comes 1 limited (state (null ∷ []) (Charged Steps 1 ∷ Charged Steps 1 ∷ []) [] []) _ [] _ null_limit_throws (λ again. refl))

-- [SELECT Name__c FROM Player__c ORDER BY Goals__c DESC LIMIT 1]
abbrev by_goals : List SortKey
by_goals = record { path = own 4; descending = true; nulls_last = false } ∷ []

abbrev best : ExprOf
best = asking (players all by_goals (Some (Given (C.Whole (pos 1))))) (known (players all by_goals (Some (Given (C.Whole (pos 1)))))) (known_is all by_goals (Some (Given (C.Whole (pos 1))))) []

-- the rows that LIMIT leaves are charged
abbrev best_seen : State
best_seen = state [] (Charged Alloc 224 ∷ Charged Rows 1 ∷ Charged Queries 1 ∷ Charged Steps 1 ∷ []) (given_player sam_id (codes "Sam") [] ∷ T.List (at 0 ∷ []) ∷ []) []

best_gives : Comes best (begun (rows (kim ∷ lee ∷ sam ∷ []) ∷ [])) (Gives (at 1) best_seen)
best_gives again = simp (out-roll-Query, fold-roll-Cond) refl

the_best : on_tape (rows (kim ∷ lee ∷ sam ∷ []) ∷ []) (has 0 best ∷ say (path (item (local 0) (number 0)) (cell_part 1 2 false ∷ [])) ∷ []) ≡ came Ok 1 1 2 (codes "Sam" ∷ [])
the_best = first _ 0 best _ _ _ best_gives (λ again. refl)
