-- Triggers, each with all that the request comes to.
use Rattle.std.proofs.Common.{◌≡◌, refl, ℕ, Bool, true, false, List, [], ◌∷◌, ◌++◌, codes, pos, None, arith}
use Rattle.std.specs.Fmt.{digits}
use Rattle.std.specs.Str.{is_utf8}
use Rattle.std.proofs.lemmas.Str.{is_utf8-from_IsUtf8}
use Rattle.apex_num.specs.declared.cell.Cell.TheVariants.{Num}
use Rattle.apex_num.specs.declared.kind.LimitKind.TheVariants.{Depth}
use Rattle.apex_requests.specs.declared.reply.Outcome.{Outcome}
use Rattle.apex_requests.specs.declared.reply.Outcome.TheVariants.{Ok, Thrown, Limit}
use Rattle.apex_syntax.specs.declared.unit.EventOp.{EventOp}
use Rattle.apex_syntax.specs.declared.unit.EventOp.TheVariants as E
use Rattle.builtin_table.specs.declared.method.Builtin.TheVariants as B
use Rattle.builtin_table.specs.declared.method.PlatformMethod.TheVariants as P
use Rattle.typed_program.specs.declared.expr.Arithmetic.TheVariants.{Plus}
use Rattle.typed_program.specs.declared.expr.Constant.TheVariants as Is
use Rattle.typed_program.specs.declared.expr.Conversion.TheVariants.{Same}
use Rattle.typed_program.specs.declared.expr.Number.TheVariants.{Decimal}
use Rattle.typed_program.specs.declared.expr.TriggerVariable.TheVariants as V
use Rattle.typed_program.specs.declared.expr.TypedOp.TheVariants as Op
use Rattle.language_samples.proofs.Known.{constant, number, local, static, assign, assign_with, at_cell, at_static, builtin_on, fails, item, new_record, of_trigger, text}
use Rattle.language_samples.proofs.Stmts.{StmtOf, does, for_each, insert, update}
use Rattle.language_samples.proofs.Classes.{sample_objects, ClassOf, TriggerOf, class, trail_of, ends_of}
use Rattle.language_samples.proofs.Saves.{came, failed, new_thing, sets_six, thing}

-- a trigger on Thing__c with one event
abbrev on_thing : List ℕ → Bool → EventOp → List StmtOf → TriggerOf
on_thing name after op body = record { name = name; object = 0; events = record { after = after; op = op } ∷ []; body = body }

-- for (Thing__c t : Trigger.new) this
abbrev for_new : StmtOf → StmtOf
for_new x = for_each 0 (of_trigger V.New) x

abbrev insert_failed : List ℕ → Outcome
insert_failed error = Thrown (codes "DmlException") (codes "Insert failed. First exception on row 0; first error: " ++ error)

-- Thing__c v = new Thing__c(); insert v;
abbrev inserts : List StmtOf
inserts = new_thing ∷ insert 0 (local 0) ∷ []

-- t.Amount__c += 1.0;
abbrev adds_one : StmtOf
adds_one = does (assign_with (at_cell (local 0) 0 2) (record { left = Same; op = Op.Arithmetic Plus Decimal; right = Same; back = Same }) (constant (Is.Decimal 1000000)))

utf8_no : is_utf8 (codes "no") ≡ true
unfolding lib.Utf8.encode
utf8_no = is_utf8-from_IsUtf8 (codes "no") (codes "no", (refl, refl))

-- the error of a record whose trigger a threw
abbrev in_a : List ℕ → List ℕ
in_a told = codes "CANNOT_INSERT_UPDATE_ACTIVATE_ENTITY, a: " ++ told

-- ---- before a record is written

-- trigger a on Thing__c (before insert) { for (Thing__c t : Trigger.new) t.Amount__c = 6.0; }
-- nine steps are those of the block without it; the firing, the loop, its two tests and the assignment are five more
sets_cell : trail_of (on_thing (codes "a") false E.Insert (for_new sets_six ∷ []) ∷ []) [] inserts ≡ came Ok 1 1 14 (thing 1 (Num (pos 6000000)) ∷ [])
unfolding sample_objects
sets_cell = ends_of 1 _ [] _ _ (omega arith) (λ rest. refl)

-- trigger b adds 1.0 to what trigger a sets, though b is declared first
by_name : trail_of (on_thing (codes "b") false E.Insert (for_new adds_one ∷ []) ∷ on_thing (codes "a") false E.Insert (for_new sets_six ∷ []) ∷ []) [] inserts
    ≡ came Ok 1 1 19 (thing 1 (Num (pos 7000000)) ∷ [])
unfolding sample_objects
by_name = ends_of 1 _ [] _ _ (omega arith) (λ rest. refl)

-- trigger a on Thing__c (before insert) { for (Thing__c t : Trigger.new) t.addError('no'); }
-- the record enters neither the validation nor what stands behind it
adds_error : trail_of (on_thing (codes "a") false E.Insert (for_new (does (builtin_on (local 0) (B.Platform P.AddError) (text (codes "no") utf8_no ∷ []))) ∷ []) ∷ []) [] inserts
    ≡ came (insert_failed (codes "FIELD_CUSTOM_VALIDATION_EXCEPTION, no")) 1 1 10 []
unfolding digits sample_objects
adds_error = ends_of 1 _ [] _ _ (omega arith) (λ rest. refl)

-- trigger a on Thing__c (before update) { for (Thing__c t : Trigger.old) t.Amount__c = 6.0; }
-- insert v; update v; the records as they were may not be changed
old_fixed : trail_of (on_thing (codes "a") false E.Update (for_each 0 (of_trigger V.Old) sets_six ∷ []) ∷ []) [] (new_thing ∷ insert 0 (local 0) ∷ update 0 (local 0) ∷ [])
    ≡ came (failed (in_a (codes "FinalException: Record is read-only"))) 2 2 17 []
unfolding digits sample_objects
old_fixed = ends_of 1 _ [] _ _ (omega arith) (λ rest. refl)

-- ---- behind the write

-- trigger a on Thing__c (after insert) { 1 / 0; }
throws_after : trail_of (on_thing (codes "a") true E.Insert (does fails ∷ []) ∷ []) [] inserts ≡ came (insert_failed (in_a (codes "MathException: Divide by 0"))) 1 1 10 []
unfolding digits sample_objects
throws_after = ends_of 1 _ [] _ _ (omega arith) (λ rest. refl)

-- ---- behind the firing

-- class C { static Thing__c kept; }
abbrev keeper : ClassOf
keeper = record (class (codes "C")) { fields = record { is_static = true; value = None } ∷ [] }

-- trigger a on Thing__c (before insert) { C.kept = Trigger.new[0]; }
-- insert v; C.kept.Amount__c = 6.0; its records may not be changed any more
kept_fixed : trail_of (on_thing (codes "a") false E.Insert (does (assign (at_static 0 0) (item (of_trigger V.New) (number 0))) ∷ []) ∷ []) (keeper ∷ []) (new_thing ∷ insert 0 (local 0) ∷ does (assign (at_cell (static 0 0) 0 2) (constant (Is.Decimal 6000000))) ∷ [])
    ≡ came (Thrown (codes "FinalException") (codes "Record is read-only")) 1 1 12 []
unfolding sample_objects
kept_fixed = ends_of 3 _ _ _ _ (omega arith) (λ rest. refl)

-- ---- firings in firings

-- trigger a on Thing__c (before insert) { insert new Thing__c(); }
-- sixteen are open at the most; each takes five steps to the next one
too_deep : trail_of (on_thing (codes "a") false E.Insert (insert 0 (new_record 0 []) ∷ []) ∷ []) [] inserts ≡ came (Limit Depth 17) 17 17 85 []
unfolding sample_objects
too_deep = ends_of 17 _ [] _ _ (omega arith) (λ rest. refl)
