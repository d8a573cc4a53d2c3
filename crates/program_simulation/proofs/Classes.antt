-- What the image of a program says of its classes and bodies.
use Rattle.std.proofs.Common.{◌≡◌, ℕ, zero, suc, ◌+◌, ◌*◌, ◌||◌, Bool, true, false, cond, eqb, List, [], ◌∷◌, ◌++◌, length, map, slice_get, Option, Some, None, option_map, refl, sym, ap, ◌∙◌, arith, ⊎_elim}
use Rattle.std.specs.List.{list_any}
use Rattle.std.proofs.lemmas.List.Folds.{list_any-append}
use Rattle.std.proofs.lemmas.Bool.Decides.{eqb_tells}
use Rattle.request_states.specs.Runs.{stmts_of, stmts_or, block_at}
use Rattle.type_names.specs.declared.fault.TreeFault.{TreeFault}
use Rattle.std.specs.Prelude.{Result}
use Rattle.apex_meaning.specs.Classes.{class_at, chain, linked, chain_within, parent_of, is_a, is_or_names, interfaces_of, sharing_of, fields_at, fields_of, width, instance_fields, most, methods_of, method_at, nearest, nearest_to, target, code_or, code_of, Starts, and_fields, starts, starts_within, implied_of, own_starts, constructors_of, constructor_at, trigger_or, trigger_at}
use Rattle.apex_meaning.specs.Firings.{listings}
use Rattle.apex_meaning.specs.Classes as Source
use Rattle.stack_code.specs.Calls.{chain_or, fits_or, sharing_or, statics_or, width_or, units_or, starts_or, table_or, row_or, row_of, place_in}
use Rattle.stack_code.specs.Calls as Calls
use Rattle.stack_code.specs.Code.{Instrs, block_code, constructor_code, fields_code, method_code, starts_code, statics_code}
use Rattle.stack_code.specs.Images.{image_of, class_code, classes_from, code, body_code, block_of, fits_of, targets_in, row_for}
use Rattle.stack_code.specs.Images.{method_at as place_of}
use Rattle.stack_code.specs.Machine.{class_code as class_in, of_class, some_code, instrs_of, instrs_at}
use Rattle.stack_code.specs.declared.image.ClassCode.{ClassCode}
use Rattle.stack_code.specs.declared.image.Image.{Image}
use Rattle.stack_code.specs.declared.image.MethodAt.{MethodAt}
use Rattle.stack_code.specs.declared.state.BodyAt.TheVariants as B
use Rattle.typed_program.specs.declared.program.Program.{Program}
use Rattle.typed_program.specs.declared.stmt.TypedStmt.{TypedStmt}
use Rattle.typed_program.specs.declared.unit.TypedClass.{TypedClass}
use Rattle.typed_program.specs.declared.unit.TypedConstructor.{TypedConstructor}
use Rattle.typed_program.specs.declared.unit.TypedMethod.{TypedMethod}
use Rattle.typed_program.specs.declared.unit.TypedTrigger.{TypedTrigger}

abbrev pub name_in : TypedClass → List ℕ
name_in k = k.name

-- the code of a constructor, of the statements of a method, and of a block; none where there is no such body
abbrev pub constructed_code : Program → ℕ → Option TypedConstructor → Instrs
constructed_code program c None = []
constructed_code program c (Some k) = constructor_code program c k

abbrev pub block_or : Program → Option (List TypedStmt) → Instrs
block_or program None = []
block_or program (Some stmts) = block_code program stmts

-- the image says of a program's classes what the program says
pub record IsImage (program : Program) (image : Image) : Type 0 where
  pub names : image.names ≡ map name_in program.classes
  pub chain : (c : ℕ) → chain_or (class_in image c) ≡ Source.chain program c
  pub fits : (k c : ℕ) → Calls.fits image k c ≡ is_a program k c
  pub sharing : (c : ℕ) → sharing_or (class_in image c) ≡ sharing_of (class_at program c)
  pub statics : (c : ℕ) → statics_or (class_in image c) ≡ length (fields_at program c)
  pub width : (c : ℕ) → width_or (class_in image c) ≡ Source.width program (Source.chain program c)
  pub units : (c : ℕ) → units_or (class_in image c) ≡ 32 + 16 * instance_fields program (Source.chain program c)
  pub starts : (c : ℕ) → starts_or c (class_in image c) ≡ starts_code program (own_starts program c)
  pub target : (k c m : ℕ) → Calls.target image k c m ≡ option_map place_of (Source.target program k c m)
  -- and its bodies have their code
  pub methods : (c m : ℕ) → instrs_at image (B.Method c m) ≡ method_code program (code_of program c m)
  pub constructors : (c k : ℕ) → instrs_at image (B.Constructor c k) ≡ constructed_code program c (constructor_at program c k)
  pub fields : (c : ℕ) → instrs_at image (B.Fields c) ≡ fields_code program c 0 (fields_at program c)
  pub static_values : (c : ℕ) → instrs_at image (B.Statics c) ≡ statics_code program c 0 (fields_at program c)
  pub triggers : (n : ℕ) → instrs_at image (B.Trigger n) ≡ method_code program (trigger_at program n)
  pub blocks : (n : ℕ) → instrs_at image (B.Block n) ≡ block_or program (block_at program n)
  -- and its triggers fire in the same order
  pub firings : image.firings ≡ listings program

module _ (program : Program) where
  abbrev pub coded : ℕ → Option TypedClass → Option ClassCode
  coded c None = None
  coded c (Some k) = Some (class_code program c k)

  from : (n : ℕ) (ks : List TypedClass) (c : ℕ) → slice_get (classes_from program n ks) c ≡ coded (n + c) (slice_get ks c)
  from n [] c = refl
  from n (k ∷ ks) zero = let e : n ≡ n + zero = omega arith in ap (λ m. Some (class_code program m k)) e
  from n (k ∷ ks) (suc c) = let e : suc n + c ≡ n + suc c = omega arith in from (suc n) ks c ∙ ap (λ m. coded m (slice_get ks c)) e

  pub coded_at : (c : ℕ) → class_in (image_of program) c ≡ coded c (class_at program c)
  coded_at c = let e : 0 + c ≡ c = omega arith in from 0 program.classes c ∙ ap (λ m. coded m (slice_get program.classes c)) e

  -- ---- where there is no such class

  no_chain : (c : ℕ) → class_at program c ≡ None → chain program c ≡ []
  no_chain c e = ap (λ o. linked c o (chain_within 32 program (parent_of o))) e

  chain_of : (c : ℕ) (o : Option TypedClass) → class_at program c ≡ o → chain_or (coded c o) ≡ chain program c
  chain_of c None e = sym (no_chain c e)
  chain_of c (Some k) e = refl

  sharing_at : (c : ℕ) (o : Option TypedClass) → sharing_or (coded c o) ≡ sharing_of o
  sharing_at c None = refl
  sharing_at c (Some k) = refl

  statics_at : (c : ℕ) (o : Option TypedClass) → statics_or (coded c o) ≡ length (fields_of o)
  statics_at c None = refl
  statics_at c (Some k) = refl

  width_at : (c : ℕ) (o : Option TypedClass) → class_at program c ≡ o → width_or (coded c o) ≡ width program (chain program c)
  width_at c None e = ap (λ cs. width program cs) (sym (no_chain c e))
  width_at c (Some k) e = refl

  units_at : (c : ℕ) (o : Option TypedClass) → class_at program c ≡ o → units_or (coded c o) ≡ 32 + 16 * instance_fields program (chain program c)
  units_at c None e = ap (λ cs. 32 + 16 * instance_fields program cs) (sym (no_chain c e))
  units_at c (Some k) e = refl

  starts_at : (c : ℕ) (o : Option TypedClass) → class_at program c ≡ o → starts_or c (coded c o) ≡ starts_code program (own_starts program c)
  starts_at c None e = ap (λ o. starts_code program (and_fields (starts program (implied_of o)) c)) (sym e)
  starts_at c (Some k) e = refl

  -- ---- the classes and interfaces that instances are of

  or_assoc : (x y z : Bool) → ((x || y) || z) ≡ (x || (y || z))
  or_assoc true y z = refl
  or_assoc false y z = refl

  same_test : (a b : ℕ) → eqb a b ≡ eqb b a
  same_test a b =
      ⊎_elim
      (λ p. p.0 ∙ ⊎_elim (λ q. sym q.0) (λ q. absurd (q.1 (sym p.1))) (eqb_tells b a))
      (λ p. p.0 ∙ ⊎_elim (λ q. absurd (p.1 (sym q.1))) (λ q. sym q.0) (eqb_tells b a))
      (eqb_tells a b)

  fits_all : (c : ℕ) (cs : List ℕ) → list_any (eqb c) (fits_of program cs) ≡ list_any (is_or_names program c) cs
  fits_all c [] = refl
  fits_all c (x ∷ cs) =
      let names = interfaces_of (class_at program x) in
      ap (λ b. b || list_any (eqb c) (names ++ fits_of program cs)) (same_test c x)
      ∙ ap (λ b. eqb x c || b) (list_any-append (eqb c) names (fits_of program cs))
      ∙ sym (or_assoc (eqb x c) (list_any (eqb c) names) (list_any (eqb c) (fits_of program cs)))
      ∙ ap (λ b. (eqb x c || list_any (eqb c) names) || b) (fits_all c cs)

  fits_at : (k c : ℕ) (o : Option TypedClass) → class_at program k ≡ o → list_any (eqb c) (fits_or (coded k o)) ≡ is_a program k c
  fits_at k c None e = ap (λ cs. list_any (is_or_names program c) cs) (sym (no_chain k e))
  fits_at k c (Some x) e = fits_all c (chain program k)

  -- ---- tables

  abbrev if_there : Bool → List ℕ → ℕ → Option (List (Option MethodAt))
  if_there true cs c = Some (targets_in program cs c)
  if_there false cs c = None

  row_at : (cs : List ℕ) (c : ℕ) (fs : List ℕ) → row_of c (map (row_for program cs) fs) ≡ if_there (list_any (eqb c) fs) cs c
  row_at cs c [] = refl
  row_at cs c (x ∷ fs) =
      ⊎_elim
      (λ p. ap (λ b. cond b (Some (targets_in program cs x)) (row_of c (map (row_for program cs) fs))) (same_test x c ∙ p.0) ∙ ap (λ y. Some (targets_in program cs y)) (sym p.1) ∙ sym (ap (λ b. if_there (b || list_any (eqb c) fs) cs c) p.0))
      (λ p. ap (λ b. cond b (Some (targets_in program cs x)) (row_of c (map (row_for program cs) fs))) (same_test x c ∙ p.0) ∙ row_at cs c fs ∙ sym (ap (λ b. if_there (b || list_any (eqb c) fs) cs c) p.0))
      (eqb_tells c x)

  targets_at : (cs : List ℕ) (ms : List TypedMethod) (m : ℕ) → place_in m (Some (map (λ (x : TypedMethod). option_map place_of (nearest program x cs)) ms)) ≡ option_map place_of (nearest_to program (slice_get ms m) cs)
  targets_at cs [] m = refl
  targets_at cs (x ∷ ms) zero = refl
  targets_at cs (x ∷ ms) (suc m) = targets_at cs ms m

  chosen_at : (cs : List ℕ) (c m : ℕ) (b : Bool) → place_in m (if_there b cs c) ≡ option_map place_of (cond b (nearest_to program (method_at program c m) cs) None)
  chosen_at cs c m true = targets_at cs (methods_of (class_at program c)) m
  chosen_at cs c m false = refl

  target_at : (k c m : ℕ) (o : Option TypedClass) → class_at program k ≡ o → place_in m (row_of c (table_or (coded k o))) ≡ option_map place_of (target program k c m)
  target_at k c m None e = ap (λ cs. option_map place_of (cond (list_any (is_or_names program c) cs) (nearest_to program (method_at program c m) cs) None)) (sym (no_chain k e))
  target_at k c m (Some x) e =
      ap (λ o. place_in m o) (row_at (chain program k) c (fits_of program (chain program k)))
      ∙ ap (λ b. place_in m (if_there b (chain program k) c)) (fits_all c (chain program k))
      ∙ chosen_at (chain program k) c m (is_a program k c)

  -- ---- bodies

  method_found : (ms : List TypedMethod) (m : ℕ) → instrs_of (slice_get (map (body_code program) ms) m) ≡ method_code program (code_or (slice_get ms m))
  method_found [] m = refl
  method_found (x ∷ ms) zero = refl
  method_found (x ∷ ms) (suc m) = method_found ms m

  methods_at : (c m : ℕ) (o : Option TypedClass) → instrs_of (of_class (λ (k : ClassCode). slice_get k.methods m) (coded c o)) ≡ method_code program (code_or (slice_get (methods_of o) m))
  methods_at c m None = refl
  methods_at c m (Some k) = method_found k.methods m

  constructor_found : (c : ℕ) (ks : List TypedConstructor) (m : ℕ) → instrs_of (slice_get (map (λ (k : TypedConstructor). code (constructor_code program c k)) ks) m) ≡ constructed_code program c (slice_get ks m)
  constructor_found c [] m = refl
  constructor_found c (x ∷ ks) zero = refl
  constructor_found c (x ∷ ks) (suc m) = constructor_found c ks m

  constructors_at : (c m : ℕ) (o : Option TypedClass) → instrs_of (of_class (λ (k : ClassCode). slice_get k.constructors m) (coded c o)) ≡ constructed_code program c (slice_get (constructors_of o) m)
  constructors_at c m None = refl
  constructors_at c m (Some k) = constructor_found c k.constructors m

  field_values_at : (c : ℕ) (o : Option TypedClass) → instrs_of (of_class (λ (k : ClassCode). Some k.field_values) (coded c o)) ≡ fields_code program c 0 (fields_of o)
  field_values_at c None = refl
  field_values_at c (Some k) = refl

  static_values_at : (c : ℕ) (o : Option TypedClass) → instrs_of (of_class (λ (k : ClassCode). Some k.static_values) (coded c o)) ≡ statics_code program c 0 (fields_of o)
  static_values_at c None = refl
  static_values_at c (Some k) = refl

  triggers_at : (ts : List TypedTrigger) (n : ℕ) → instrs_of (slice_get (map (λ (t : TypedTrigger). code (block_code program t.body)) ts) n) ≡ method_code program (trigger_or (slice_get ts n))
  triggers_at [] n = refl
  triggers_at (t ∷ ts) zero = refl
  triggers_at (t ∷ ts) (suc n) = triggers_at ts n

  block_made : (b : Result (List TypedStmt) TreeFault) → instrs_of (block_of program b) ≡ block_or program (stmts_of b)
  block_made b = by (stmts_of b) where
    by : (o : Option (List TypedStmt)) → instrs_of (option_map (λ (stmts : List TypedStmt). code (block_code program stmts)) o) ≡ block_or program o
    by None = refl
    by (Some stmts) = refl

  blocks_at : (bs : List (Result (List TypedStmt) TreeFault)) (n : ℕ) → instrs_of (some_code (slice_get (map (block_of program) bs) n)) ≡ block_or program (stmts_or (slice_get bs n))
  blocks_at [] n = refl
  blocks_at (b ∷ bs) zero = block_made b
  blocks_at (b ∷ bs) (suc n) = blocks_at bs n

  pub of_image : IsImage program (image_of program)
  of_image = record {
    names = refl;
    chain = λ c. ap chain_or (coded_at c) ∙ chain_of c (class_at program c) refl;
    fits = λ k c. ap (λ o. list_any (eqb c) (fits_or o)) (coded_at k) ∙ fits_at k c (class_at program k) refl;
    sharing = λ c. ap sharing_or (coded_at c) ∙ sharing_at c (class_at program c);
    statics = λ c. ap statics_or (coded_at c) ∙ statics_at c (class_at program c);
    width = λ c. ap width_or (coded_at c) ∙ width_at c (class_at program c) refl;
    units = λ c. ap units_or (coded_at c) ∙ units_at c (class_at program c) refl;
    starts = λ c. ap (λ o. starts_or c o) (coded_at c) ∙ starts_at c (class_at program c) refl;
    target = λ k c m. ap (λ o. place_in m (row_of c (table_or o))) (coded_at k) ∙ target_at k c m (class_at program k) refl;
    methods = λ c m. ap (λ o. instrs_of (of_class (λ (k : ClassCode). slice_get k.methods m) o)) (coded_at c) ∙ methods_at c m (class_at program c);
    constructors = λ c m. ap (λ o. instrs_of (of_class (λ (k : ClassCode). slice_get k.constructors m) o)) (coded_at c) ∙ constructors_at c m (class_at program c);
    fields = λ c. ap (λ o. instrs_of (of_class (λ (k : ClassCode). Some k.field_values) o)) (coded_at c) ∙ field_values_at c (class_at program c);
    static_values = λ c. ap (λ o. instrs_of (of_class (λ (k : ClassCode). Some k.static_values) o)) (coded_at c) ∙ static_values_at c (class_at program c);
    triggers = λ n. triggers_at program.triggers n;
    blocks = λ n. blocks_at program.blocks n;
    firings = refl;
  }
