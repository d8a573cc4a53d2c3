-- The image of every program is checked.
use Rattle.std.proofs.Common.{◌≡◌, ℕ, zero, suc, ◌<◌, ◌≤◌, true, false, List, [], ◌∷◌, length, map, slice_get, All, Option, None, Some, Result, Ok, Err, refl, sym, ap, subst, arith}
use Rattle.std.proofs.lemmas.List.Elements.{All-nil, All-cons}
use Rattle.apex_meaning.specs.Classes.{chain_within, class_at, linked, most, parent_of}
use Rattle.type_names.specs.declared.fault.TreeFault.{TreeFault}
use Rattle.typed_program.specs.declared.program.Program.{Program}
use Rattle.typed_program.specs.declared.stmt.TypedStmt.{TypedStmt}
use Rattle.typed_program.specs.declared.unit.TypedClass.{TypedClass}
use Rattle.typed_program.specs.declared.unit.TypedConstructor.{TypedConstructor}
use Rattle.typed_program.specs.declared.unit.TypedMethod.{TypedMethod}
use Rattle.typed_program.specs.declared.unit.TypedTrigger.{TypedTrigger}
use Rattle.stack_code.specs.Checked.{IsFineCode, IsFineBlock, IsFineClass, IsChecked}
use Rattle.stack_code.specs.Code.{fields_code, statics_code, method_code, constructor_code, block_code}
use Rattle.stack_code.specs.Images.{code, body_code, class_code, classes_from, block_of, image_of}
use Rattle.program_checks.proofs.Loops.{below_length}
use Rattle.program_checks.proofs.Pieces.{closed_fine}
use Rattle.program_checks.proofs.Statements.{block_closed}
use Rattle.program_checks.proofs.Bodies.{own_short, fields_closed, statics_closed, method_closed, constructor_closed}

-- what holds of each one that is made
all_made : {X Y : Type 0} (f : X → Y) (P : Y → Type 0) → ((x : X) → P (f x)) → (xs : List X) → All P (map f xs)
all_made f P h [] = All-nil P
all_made f P h (x ∷ xs) = All-cons P (f x) (map f xs) (h x) (all_made f P h xs)

-- ---- ancestors

linked_short : (c n : ℕ) (k : Option TypedClass) (cs : List ℕ) → length cs ≤ n → length (linked c k cs) ≤ suc n
linked_short c n None cs h = omega arith
linked_short c n (Some k) cs h = omega arith

chain_short : (n : ℕ) (program : Program) (c : Option ℕ) → length (chain_within n program c) ≤ n
chain_short zero program c = omega arith
chain_short (suc n) program None = omega arith
chain_short (suc n) program (Some c) = linked_short c n (class_at program c) (chain_within n program (parent_of (class_at program c))) (chain_short n program (parent_of (class_at program c)))

linked_inside : (classes : List TypedClass) (c : ℕ) (k : Option TypedClass) (cs : List ℕ) → slice_get classes c ≡ k → All (λ (x : ℕ). x < length classes) cs → All (λ (x : ℕ). x < length classes) (linked c k cs)
linked_inside classes c None cs e h = All-nil (λ (x : ℕ). x < length classes)
linked_inside classes c (Some k) cs e h = All-cons (λ (x : ℕ). x < length classes) c cs (below_length classes c k e) h

chain_inside : (n : ℕ) (program : Program) (c : Option ℕ) → All (λ (x : ℕ). x < length program.classes) (chain_within n program c)
chain_inside zero program c = All-nil (λ (x : ℕ). x < length program.classes)
chain_inside (suc n) program None = All-nil (λ (x : ℕ). x < length program.classes)
chain_inside (suc n) program (Some c) =
    linked_inside program.classes c (class_at program c) (chain_within n program (parent_of (class_at program c))) refl (chain_inside n program (parent_of (class_at program c)))

-- ---- classes, triggers and blocks

module _ (program : Program) where
  body_fine : (m : TypedMethod) → IsFineCode false (body_code program m)
  body_fine m = closed_fine false (method_code program m.body) (method_closed program m.body)

  constructor_fine : (c : ℕ) (k : TypedConstructor) → IsFineCode true (code (constructor_code program c k))
  constructor_fine c k = closed_fine true (constructor_code program c k) (constructor_closed program c k)

  class_fine : (c : ℕ) (k : TypedClass) → IsFineClass (length program.classes) (class_code program c k)
  class_fine c k = record {
    units = omega arith;
    chain = chain_short most program (Some c);
    inside = chain_inside most program (Some c);
    begun = own_short program c;
    field_values = closed_fine false (fields_code program c 0 k.fields) (fields_closed program c 0 k.fields);
    static_values = closed_fine false (statics_code program c 0 k.fields) (statics_closed program c 0 k.fields);
    methods = all_made (body_code program) (IsFineCode false) body_fine k.methods;
    constructors = all_made (λ (m : TypedConstructor). code (constructor_code program c m)) (IsFineCode true) (constructor_fine c) k.constructors;
  }

  classes_fine : (c : ℕ) (ks : List TypedClass) → All (IsFineClass (length program.classes)) (classes_from program c ks)
  classes_fine c [] = All-nil (IsFineClass (length program.classes))
  classes_fine c (k ∷ ks) = All-cons (IsFineClass (length program.classes)) (class_code program c k) (classes_from program (suc c) ks) (class_fine c k) (classes_fine (suc c) ks)

  classes_length : (c : ℕ) (ks : List TypedClass) → length (classes_from program c ks) ≡ length ks
  classes_length c [] = refl
  classes_length c (k ∷ ks) = ap suc (classes_length (suc c) ks)

  block_fine : (r : Result (List TypedStmt) TreeFault) → IsFineBlock (block_of program r)
  block_fine (Ok stmts) = closed_fine false (block_code program stmts) (block_closed program false stmts)
  block_fine (Err fault) = tt

  trigger_fine : (t : TypedTrigger) → IsFineCode false (code (block_code program t.body))
  trigger_fine t = closed_fine false (block_code program t.body) (block_closed program false t.body)

  pub image_checked : IsChecked (image_of program)
  image_checked = record {
    classes = subst (λ n. All (IsFineClass n) (classes_from program 0 program.classes)) (sym (classes_length 0 program.classes)) (classes_fine 0 program.classes);
    triggers = all_made (λ (t : TypedTrigger). code (block_code program t.body)) (IsFineCode false) trigger_fine program.triggers;
    blocks = all_made (block_of program) IsFineBlock block_fine program.blocks;
  }
