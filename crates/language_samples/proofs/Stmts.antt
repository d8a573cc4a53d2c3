-- Statements by hand, each with what it does.
use Rattle.std.proofs.Common.{◌≡◌, ℕ, true, List, [], ◌∷◌, map, Option, None, Some, refl, ap, ◌∙◌}
use Rattle.activations.specs.declared.abrupt.Abrupt.TheVariants.{Throws, Returns, Breaks, Continues}
use Rattle.apex_num.specs.declared.kind.LimitKind.TheVariants.{Steps}
use Rattle.save_meaning.specs.Results.{Gives, Stops, Leaves, Closes, bind}
use Rattle.static_types.specs.declared.kind.ValueType.{ValueType}
use Rattle.static_types.specs.declared.kind.ValueType.TheOpen.{ValueType-F}
use Rattle.static_types.specs.declared.kind.ValueType.TheViews.{roll-ValueType, out-roll-ValueType}
use Rattle.typed_program.specs.declared.program.Program.{Program}
use Rattle.typed_program.specs.declared.expr.Conversion.TheVariants.{Same}
use Rattle.apex_syntax.specs.declared.stmt.DmlOp.{DmlOp}
use Rattle.apex_syntax.specs.declared.stmt.DmlOp.TheVariants.{Insert, Update, Delete, Upsert}
use Rattle.typed_program.specs.declared.stmt.Saved.{Saved}
use Rattle.typed_program.specs.declared.stmt.Saved.TheVariants.{One, Many}
use Rattle.typed_program.specs.declared.stmt.TypedCatch.{TypedCatch}
use Rattle.typed_program.specs.declared.stmt.TypedStart.TheVariants as Start
use Rattle.typed_program.specs.declared.stmt.TypedStmt.{TypedStmt}
use Rattle.typed_program.specs.declared.stmt.TypedStmt.TheOpen.{TypedStmt-F}
use Rattle.typed_program.specs.declared.stmt.TypedStmt.TheViews.{roll-TypedStmt, roll-TypedCatch}
use Rattle.typed_program.specs.declared.stmt.TypedStmt.TheFolds.{fold-TypedCatch, fold-roll-TypedStmt, fold-roll-TypedCatch, map-TypedStmt}
use Rattle.request_states.specs.Runs.{Setting, site_of}
use Rattle.request_states.specs.Statements.{op_of, records_of, save_these}
use Rattle.request_states.specs.States.{Res, charge, set_local}
use Rattle.request_states.specs.Values.{null}
use Rattle.apex_meaning.specs.Collections.{items_of}
use Rattle.apex_meaning.specs.Exceptions.{Clause, Kind, catching, caught_by, clause_for, if_takes, kind_of, takes_form, throw as thrown}
use Rattle.apex_meaning.specs.Firings.{code_of}
use Rattle.apex_meaning.specs.Meanings.{Again, Do, all_do, dropped, looping, finally, test}
use Rattle.apex_meaning.specs.Statements as D
use Rattle.language_samples.proofs.Known.{Names, ExprOf, said}

abbrev pub clause_run : Setting → Again → Names → TypedCatch → Clause
clause_run s a n = fold-TypedCatch Do Clause (D.stmt_step s a n) (D.catch_step s a n)

pub record StmtOf : Type 0 where
  pub tree : TypedStmt
  pub does : Setting → Again → Names → Do
  pub is : (s : Setting) (a : Again) (n : Names) → D.does s a n tree ≡ does s a n

-- a clause by the form of its type
pub record Taking : Type 0 where
  pub form : ValueType-F ValueType
  pub slot : ℕ
  pub body : Do

abbrev pub clause_from : Taking → Clause
clause_from t = record { kind = roll-ValueType t.form; slot = t.slot; body = t.body }

pub record CatchOf : Type 0 where
  pub tree : TypedCatch
  pub does : Setting → Again → Names → Taking
  pub is : (s : Setting) (a : Again) (n : Names) → clause_run s a n tree ≡ clause_from (does s a n)

abbrev pub taking_for : Program → Kind → List Taking → Option Clause
taking_for program k [] = None
taking_for program k (t ∷ ts) = if_takes (takes_form program t.form k) (clause_from t) (taking_for program k ts)

abbrev pub catching_by : Program → List Taking → Res (Unit {0}) → Res (Unit {0})
catching_by program ts (Gives u st) = Gives u st
catching_by program ts (Stops (Leaves (Throws r)) st) = caught_by (taking_for program (kind_of r st.world.heap) ts) r st
catching_by program ts (Stops why st) = Stops why st

takes_one : (program : Program) (k : Kind) (ts : List Taking) → clause_for program k (map clause_from ts) ≡ taking_for program k ts
takes_one program k [] = refl
takes_one program k (t ∷ ts) = λ i. if_takes (takes_form program (out-roll-ValueType t.form i) k) (clause_from t) (takes_one program k ts i)

pub catches : (program : Program) (ts : List Taking) (r : Res (Unit {0})) → catching program (map clause_from ts) r ≡ catching_by program ts r
catches program ts (Gives u st) = refl
catches program ts (Stops (Leaves (Throws r)) st) = ap (λ o. caught_by o r st) (takes_one program (kind_of r st.world.heap) ts)
catches program ts (Stops (Leaves (Returns v)) st) = refl
catches program ts (Stops (Leaves Breaks) st) = refl
catches program ts (Stops (Leaves Continues) st) = refl
catches program ts (Stops (Closes f) st) = refl

abbrev pub stmt_trees : List StmtOf → List TypedStmt
stmt_trees ks = map (λ (k : StmtOf). k.tree) ks

abbrev pub stmt_all : Setting → Again → Names → List StmtOf → List Do
stmt_all s a n ks = map (λ (k : StmtOf). k.does s a n) ks

pub stmt_each : (s : Setting) (a : Again) (n : Names) (ks : List StmtOf) → map (D.does s a n) (stmt_trees ks) ≡ stmt_all s a n ks
stmt_each s a n [] = refl
stmt_each s a n (k ∷ ks) = λ i. k.is s a n i ∷ stmt_each s a n ks i

abbrev pub catch_trees : List CatchOf → List TypedCatch
catch_trees ks = map (λ (k : CatchOf). k.tree) ks

abbrev pub catch_all : Setting → Again → Names → List CatchOf → List Taking
catch_all s a n ks = map (λ (k : CatchOf). k.does s a n) ks

pub catch_each : (s : Setting) (a : Again) (n : Names) (ks : List CatchOf) → map (clause_run s a n) (catch_trees ks) ≡ map clause_from (catch_all s a n ks)
catch_each s a n [] = refl
catch_each s a n (k ∷ ks) = λ i. k.is s a n i ∷ catch_each s a n ks i

pub rolls : (s : Setting) (a : Again) (n : Names) (z : TypedStmt-F TypedStmt TypedCatch) → D.does s a n (roll-TypedStmt z) ≡ D.stmt_step s a n (map-TypedStmt TypedStmt TypedCatch Do Clause (D.does s a n) (clause_run s a n) z)
rolls s a n z = fold-roll-TypedStmt Do Clause (D.stmt_step s a n) (D.catch_step s a n) z

-- ---- forms

abbrev pub block : List StmtOf → StmtOf
block ks = record {
  tree = roll-TypedStmt (TypedStmt-F.Block (stmt_trees ks));
  does = λ s a n. all_do (stmt_all s a n ks);
  is = λ s a n. rolls s a n (TypedStmt-F.Block (stmt_trees ks)) ∙ (λ i. all_do (stmt_each s a n ks i));
}

-- a step, and then this
abbrev pub behind_step : Do → Do
behind_step f st = bind (charge Steps 1 st) (λ u s. f s)

abbrev pub does : ExprOf → StmtOf
does e = record {
  tree = roll-TypedStmt (TypedStmt-F.Expr e.tree);
  does = λ s a n. behind_step (λ st. dropped (e.does s a n st));
  is = λ s a n. rolls s a n (TypedStmt-F.Expr e.tree) ∙ (λ i. behind_step (λ st. dropped (e.is s a n i st)));
}

abbrev pub say : ExprOf → StmtOf
say e = does (said e)

abbrev pub has : ℕ → ExprOf → StmtOf
has x e = record {
  tree = roll-TypedStmt (TypedStmt-F.Declare (record { slot = x; value = Some e.tree } ∷ []));
  does = λ s a n. behind_step (λ st. bind (e.does s a n st) (λ v s1. Gives tt (set_local x v s1)));
  is = λ s a n. rolls s a n (TypedStmt-F.Declare (record { slot = x; value = Some e.tree } ∷ [])) ∙ (λ i. behind_step (λ st. bind (e.is s a n i st) (λ v s1. Gives tt (set_local x v s1))));
}

-- records are saved
abbrev pub saves : DmlOp → Saved → ExprOf → StmtOf
saves op what e = record {
  tree = roll-TypedStmt (TypedStmt-F.Dml op what e.tree);
  does = λ s a n. behind_step (λ st. bind (e.does s a n st) (λ v s1. save_these (site_of s) (code_of s a) (op_of op) (records_of what v s1.world.heap) s1));
  is = λ s a n. rolls s a n (TypedStmt-F.Dml op what e.tree) ∙ (λ i. behind_step (λ st. bind (e.is s a n i st) (λ v s1. save_these (site_of s) (code_of s a) (op_of op) (records_of what v s1.world.heap) s1)));
}

-- one record of an object
abbrev pub insert : ℕ → ExprOf → StmtOf
insert object e = saves Insert (One object) e

abbrev pub update : ℕ → ExprOf → StmtOf
update object e = saves Update (One object) e

abbrev pub delete : ℕ → ExprOf → StmtOf
delete object e = saves Delete (One object) e

abbrev pub upsert : ℕ → ExprOf → StmtOf
upsert object e = saves Upsert (One object) e

-- a list of records
abbrev pub upsert_all : ℕ → ExprOf → StmtOf
upsert_all object e = saves Upsert (Many object) e

abbrev pub declare : ℕ → StmtOf
declare x = record {
  tree = roll-TypedStmt (TypedStmt-F.Declare (record { slot = x; value = None } ∷ []));
  does = λ s a n. behind_step (λ st. Gives tt (set_local x null st));
  is = λ s a n. rolls s a n (TypedStmt-F.Declare (record { slot = x; value = None } ∷ []));
}

-- `if` with `else`
abbrev pub if_else : ExprOf → StmtOf → StmtOf → StmtOf
if_else e x y = record {
  tree = roll-TypedStmt (TypedStmt-F.If e.tree x.tree (Some y.tree));
  does = λ s a n. behind_step (λ st. bind (test (e.does s a n) st) (D.chosen s a n (x.does s a n) (Some (y.does s a n))));
  is = λ s a n. rolls s a n (TypedStmt-F.If e.tree x.tree (Some y.tree)) ∙ (λ i. behind_step (λ st. bind (test (e.is s a n i) st) (D.chosen s a n (x.is s a n i) (Some (y.is s a n i)))));
}

abbrev pub when : ExprOf → StmtOf → StmtOf
when e x = record {
  tree = roll-TypedStmt (TypedStmt-F.If e.tree x.tree None);
  does = λ s a n. behind_step (λ st. bind (test (e.does s a n) st) (D.chosen s a n (x.does s a n) None));
  is = λ s a n. rolls s a n (TypedStmt-F.If e.tree x.tree None) ∙ (λ i. behind_step (λ st. bind (test (e.is s a n i) st) (D.chosen s a n (x.is s a n i) None)));
}

abbrev pub while : ExprOf → StmtOf → StmtOf
while e x = record {
  tree = roll-TypedStmt (TypedStmt-F.While e.tree x.tree);
  does = λ s a n. behind_step (λ st. a.loop (test (e.does s a n)) (x.does s a n) (D.nothing s a n) st);
  is = λ s a n. rolls s a n (TypedStmt-F.While e.tree x.tree) ∙ (λ i. behind_step (λ st. a.loop (test (e.is s a n i)) (x.is s a n i) (D.nothing s a n) st));
}

abbrev pub do_while : StmtOf → ExprOf → StmtOf
do_while x e = record {
  tree = roll-TypedStmt (TypedStmt-F.Do x.tree e.tree);
  does = λ s a n. behind_step (λ st. looping (x.does s a n st) (a.loop (test (e.does s a n)) (x.does s a n) (D.nothing s a n)));
  is = λ s a n. rolls s a n (TypedStmt-F.Do x.tree e.tree) ∙ (λ i. behind_step (λ st. looping (x.is s a n i st) (a.loop (test (e.is s a n i)) (x.is s a n i) (D.nothing s a n))));
}

-- `for` with all its parts
abbrev pub for : ℕ → ExprOf → ExprOf → ExprOf → StmtOf → StmtOf
for x e c next y = record {
  tree = roll-TypedStmt (TypedStmt-F.For (Start.Declare (record { slot = x; value = Some e.tree } ∷ [])) (Some c.tree) (Some next.tree) y.tree);
  does = λ s a n. behind_step (λ st. bind (bind (e.does s a n st) (λ v s1. Gives tt (set_local x v s1))) (λ u s1. a.loop (test (c.does s a n)) (y.does s a n) (λ s2. dropped (next.does s a n s2)) s1));
  is = λ s a n. rolls s a n (TypedStmt-F.For (Start.Declare (record { slot = x; value = Some e.tree } ∷ [])) (Some c.tree) (Some next.tree) y.tree)
      ∙ (λ i. behind_step (λ st. bind (bind (e.is s a n i st) (λ v s1. Gives tt (set_local x v s1))) (λ u s1. a.loop (test (c.is s a n i)) (y.is s a n i) (λ s2. dropped (next.is s a n i s2)) s1)));
}

-- `for` with none of them
abbrev pub for_ever : StmtOf → StmtOf
for_ever y = record {
  tree = roll-TypedStmt (TypedStmt-F.For Start.Nothing None None y.tree);
  does = λ s a n. behind_step (λ st. a.loop (λ s1. Gives true s1) (y.does s a n) (λ s1. Gives tt s1) st);
  is = λ s a n. rolls s a n (TypedStmt-F.For Start.Nothing None None y.tree) ∙ (λ i. behind_step (λ st. a.loop (λ s1. Gives true s1) (y.is s a n i) (λ s1. Gives tt s1) st));
}

abbrev pub for_each : ℕ → ExprOf → StmtOf → StmtOf
for_each x e y = record {
  tree = roll-TypedStmt (TypedStmt-F.ForEach x Same e.tree y.tree);
  does = λ s a n. behind_step (λ st. bind (e.does s a n st) (λ v s1. D.each_of x Same (y.does s a n) (items_of v s1.world.heap) s1));
  is = λ s a n. rolls s a n (TypedStmt-F.ForEach x Same e.tree y.tree) ∙ (λ i. behind_step (λ st. bind (e.is s a n i st) (λ v s1. D.each_of x Same (y.is s a n i) (items_of v s1.world.heap) s1)));
}

abbrev pub return : ExprOf → StmtOf
return e = record {
  tree = roll-TypedStmt (TypedStmt-F.Return (Some e.tree));
  does = λ s a n. behind_step (λ st. bind (e.does s a n st) (λ v s1. Stops (Leaves (Returns v)) s1));
  is = λ s a n. rolls s a n (TypedStmt-F.Return (Some e.tree)) ∙ (λ i. behind_step (λ st. bind (e.is s a n i st) (λ v s1. Stops (Leaves (Returns v)) s1)));
}

abbrev pub break : StmtOf
break = record {
  tree = roll-TypedStmt TypedStmt-F.Break;
  does = λ s a n. D.stmt_step s a n TypedStmt-F.Break;
  is = λ s a n. rolls s a n TypedStmt-F.Break;
}

abbrev pub continue : StmtOf
continue = record {
  tree = roll-TypedStmt TypedStmt-F.Continue;
  does = λ s a n. D.stmt_step s a n TypedStmt-F.Continue;
  is = λ s a n. rolls s a n TypedStmt-F.Continue;
}

abbrev pub throw : ExprOf → StmtOf
throw e = record {
  tree = roll-TypedStmt (TypedStmt-F.Throw e.tree);
  does = λ s a n. behind_step (λ st. bind (e.does s a n st) thrown);
  is = λ s a n. rolls s a n (TypedStmt-F.Throw e.tree) ∙ (λ i. behind_step (λ st. bind (e.is s a n i st) thrown));
}

abbrev pub catch : ValueType-F ValueType → ℕ → List StmtOf → CatchOf
catch form x ks = record {
  tree = roll-TypedCatch (record { kind = roll-ValueType form; slot = x; body = stmt_trees ks });
  does = λ s a n. record { form = form; slot = x; body = all_do (stmt_all s a n ks) };
  is = λ s a n. fold-roll-TypedCatch Do Clause (D.stmt_step s a n) (D.catch_step s a n) (record { kind = roll-ValueType form; slot = x; body = stmt_trees ks }) ∙ (λ i. record { kind = roll-ValueType form; slot = x; body = all_do (stmt_each s a n ks i) });
}

abbrev pub try : List StmtOf → List CatchOf → StmtOf
try ks cs = record {
  tree = roll-TypedStmt (TypedStmt-F.Try (stmt_trees ks) (catch_trees cs) None);
  does = λ s a n. behind_step (λ st. catching_by s.program (catch_all s a n cs) (all_do (stmt_all s a n ks) st));
  is = λ s a n. rolls s a n (TypedStmt-F.Try (stmt_trees ks) (catch_trees cs) None)
      ∙ (λ i. behind_step (λ st. catching s.program (catch_each s a n cs i) (all_do (stmt_each s a n ks i) st)))
      ∙ (λ i. behind_step (λ st. catches s.program (catch_all s a n cs) (all_do (stmt_all s a n ks) st) i));
}

abbrev pub try_finally : List StmtOf → List CatchOf → List StmtOf → StmtOf
try_finally ks cs last = record {
  tree = roll-TypedStmt (TypedStmt-F.Try (stmt_trees ks) (catch_trees cs) (Some (stmt_trees last)));
  does = λ s a n. behind_step (λ st. finally (catching_by s.program (catch_all s a n cs) (all_do (stmt_all s a n ks) st)) (all_do (stmt_all s a n last)));
  is = λ s a n. rolls s a n (TypedStmt-F.Try (stmt_trees ks) (catch_trees cs) (Some (stmt_trees last)))
      ∙ (λ i. behind_step (λ st. finally (catching s.program (catch_each s a n cs i) (all_do (stmt_each s a n ks i) st)) (all_do (stmt_each s a n last i))))
      ∙ (λ i. behind_step (λ st. finally (catches s.program (catch_all s a n cs) (all_do (stmt_all s a n ks) st) i) (all_do (stmt_all s a n last))));
}
