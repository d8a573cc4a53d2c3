-- Records that are saved, each with all that the request comes to: its counts, and the rows that it writes.
use Rattle.std.proofs.Common.{◌≡◌, refl, ℕ, List, [], ◌∷◌, ◌++◌, codes, pos, arith}
use Rattle.std.specs.Fmt.{digits}
use Rattle.apex_num.specs.declared.cell.Cell.{Cell}
use Rattle.apex_num.specs.declared.cell.Cell.TheVariants.{Null, Num, Id}
use Rattle.apex_requests.specs.declared.reply.Outcome.{Outcome}
use Rattle.apex_requests.specs.declared.reply.Outcome.TheVariants.{Ok, Thrown}
use Rattle.apex_rows.specs.declared.row.Row.{Row}
use Rattle.record_ids.specs.Ids.{minted_id}
use Rattle.row_meaning.specs.Users.{user_id}
use Rattle.tenant_trails.specs.Runs.{Run as Trail, Ends}
use Rattle.typed_program.specs.declared.expr.Constant.TheVariants as Is
use Rattle.language_samples.proofs.Known.{constant, local, assign, at_cell, list, new_record}
use Rattle.language_samples.proofs.Stmts.{StmtOf, does, has, declare, insert, update, delete, upsert, upsert_all}
use Rattle.language_samples.proofs.Classes.{sample_objects, trail, ends}

-- no query, no line: so many statements that saved, records of them, and steps
abbrev pub came : Outcome → ℕ → ℕ → ℕ → List Row → Trail
came outcome dml saved steps puts =
    Ends (record { outcome = outcome; debug = []; counts = record { queries = 0; rows = 0; dml = dml; saved = saved; steps = steps }; ops = 0 }) (record { puts = puts; drops = [] })

-- an update whose only record failed
abbrev pub failed : List ℕ → Outcome
failed error = Thrown (codes "DmlException") (codes "Update failed. First exception on row 0; first error: " ++ error)

-- the n-th row that is made, with this Amount__c
abbrev made_id : ℕ → List ℕ
made_id n = minted_id (codes "a01") 0 0 n

abbrev pub thing : ℕ → Cell → Row
thing n amount = record { object = 0; id = made_id n; cells = Id (made_id n) ∷ Id (user_id 0) ∷ amount ∷ [] }

-- Thing__c v = new Thing__c();
abbrev pub new_thing : StmtOf
new_thing = has 0 (new_record 0 [])

-- v.Amount__c = 6.0;
abbrev pub sets_six : StmtOf
sets_six = does (assign (at_cell (local 0) 0 2) (constant (Is.Decimal 6000000)))

-- ---- updates

-- update v; of a record without Id
no_id : trail [] (new_thing ∷ update 0 (local 0) ∷ []) ≡ came (failed (codes "MISSING_ARGUMENT, Id not specified")) 1 1 3 []
unfolding digits sample_objects
no_id = ends 1 [] _ _ (omega arith) (λ rest. refl)

-- insert v; v.Amount__c = 6.0; update v; one row is written
updates : trail [] (new_thing ∷ insert 0 (local 0) ∷ sets_six ∷ update 0 (local 0) ∷ []) ≡ came Ok 2 2 18 (thing 1 (Num (pos 6000000)) ∷ [])
unfolding sample_objects
updates = ends 1 [] _ _ (omega arith) (λ rest. refl)

-- ---- deletes

-- insert v; delete v; nothing is written
deletes : trail [] (new_thing ∷ insert 0 (local 0) ∷ delete 0 (local 0) ∷ []) ≡ came Ok 2 2 17 []
unfolding sample_objects
deletes = ends 1 [] _ _ (omega arith) (λ rest. refl)

-- insert v; delete v; update v; the record keeps its Id, and its row is gone
gone : trail [] (new_thing ∷ insert 0 (local 0) ∷ delete 0 (local 0) ∷ update 0 (local 0) ∷ [])
    ≡ came (failed (codes "ENTITY_IS_DELETED, no such row")) 3 3 19 []
unfolding digits sample_objects
gone = ends 1 [] _ _ (omega arith) (λ rest. refl)

-- Thing__c v; delete v; nothing is charged but the steps of the two statements
null_saved : trail [] (declare 0 ∷ delete 0 (local 0) ∷ []) ≡ came (Thrown (codes "NullPointerException") (codes "Attempt to de-reference a null object")) 0 0 2 []
unfolding sample_objects
null_saved = ends 1 [] _ _ (omega arith) (λ rest. refl)

-- ---- upserts

-- upsert v; without an Id it is inserted
inserts : trail [] (new_thing ∷ upsert 0 (local 0) ∷ []) ≡ came Ok 1 1 9 (thing 1 Null ∷ [])
unfolding sample_objects
inserts = ends 1 [] _ _ (omega arith) (λ rest. refl)

-- upsert v; v.Amount__c = 6.0; upsert v; with its Id it is updated
upserts : trail [] (new_thing ∷ upsert 0 (local 0) ∷ sets_six ∷ upsert 0 (local 0) ∷ []) ≡ came Ok 2 2 18 (thing 1 (Num (pos 6000000)) ∷ [])
unfolding sample_objects
upserts = ends 1 [] _ _ (omega arith) (λ rest. refl)

-- insert v; v.Amount__c = 6.0; upsert new List<Thing__c>{v, new Thing__c()}; one is inserted, then the other is updated
both : trail [] (new_thing ∷ insert 0 (local 0) ∷ sets_six ∷ upsert_all 0 (list (local 0 ∷ new_record 0 [] ∷ [])) ∷ []) ≡ came Ok 2 3 25 (thing 1 (Num (pos 6000000)) ∷ thing 2 Null ∷ [])
unfolding sample_objects
both = ends 1 [] _ _ (omega arith) (λ rest. refl)
