-- The parts of a check.
use Rattle.std.proofs.Common.{◌≡◌, ℕ, List, [], ◌∷◌, map, Result, Ok, Err, refl, sym, ap, ◌∙◌, subst}
use Rattle.std.specs.Result.{IsErr, IsErrAnd}
use Rattle.apex_schema.specs.declared.schema.Object.{Object}
use Rattle.apex_syntax.specs.declared.unit.Unit.{Unit as Tree}
use Rattle.apex_types.specs.Homes.{Home}
use Rattle.class_tables.specs.declared.head.ClassHead.{ClassHead}
use Rattle.class_tables.specs.Heads.{known_of, heads_of}
use Rattle.class_tables.specs.declared.member.ClassMembers.{ClassMembers}
use Rattle.class_tables.specs.declared.table.MemberTable.{MemberTable}
use Rattle.class_tables.specs.Members.{members_among}
use Rattle.class_tables.specs.Tables.{members_of}
use Rattle.method_calls.specs.MethodNamings.{Namings, names_of_table}
use Rattle.record_words.specs.Names.{object_names}
use Rattle.type_names.specs.declared.fault.TreeFault.{TreeFault}
use Rattle.type_names.specs.TypeTrees.{Known}
use Rattle.typed_program.specs.declared.stmt.TypedStmt.{TypedStmt}
use Rattle.apex_types.specs.declared.code.Code.{Code}
use Rattle.apex_types.specs.declared.fault.CheckFault.{CheckFault}
use Rattle.apex_types.specs.declared.fault.CheckFault.TheVariants as C
use Rattle.apex_types.specs.Checks.{Check, Gives, Fails, Comes, next, naming, home_of, no_code, units_from, block_of, typed_units, program_of, checked}

names_in_tables : (tables : List MemberTable) → map naming (map members_of tables) ≡ map names_of_table tables
names_in_tables [] = refl
names_in_tables (t ∷ ts) = ap (λ l. names_of_table t ∷ l) (names_in_tables ts)

-- what code sees, part by part
abbrev pub home_with : Known → List ClassHead → List ClassMembers → List Object → Namings → Home
home_with names heads members objects methods = record { names = names; heads = heads; members = members; objects = objects; methods = methods }

pub home_is : (objects : List Object) (names : List (List ℕ)) (units : List Tree) (known : Known) (heads : List ClassHead) (tables : List MemberTable) (methods : Namings)
    → names ≡ object_names objects → known ≡ known_of names units → heads ≡ heads_of names units → map members_of tables ≡ members_among (known_of names units) units → methods ≡ map names_of_table tables
    → home_with known heads (map members_of tables) objects methods ≡ home_of objects units
home_is objects names units known heads tables methods e k h m n =
    let methods_are : methods ≡ map naming (map members_of tables) = n ∙ sym (names_in_tables tables) in
    ap (λ x. home_with x heads (map members_of tables) objects methods) (k ∙ ap (λ x. known_of x units) e)
    ∙ ap (λ x. home_with (known_of (object_names objects) units) x (map members_of tables) objects methods) (h ∙ ap (λ x. heads_of x units) e)
    ∙ ap (λ x. home_with (known_of (object_names objects) units) (heads_of (object_names objects) units) (map members_of tables) objects x) methods_are
    ∙ ap (λ x. home_with (known_of (object_names objects) units) (heads_of (object_names objects) units) x objects (map naming x)) (m ∙ ap (λ x. members_among (known_of x units) units) e)

-- ---- the parts of a program

module _ {A B : Type 0} where
  pub halts : (w : Check A) (go : A → Check B) (fault : CheckFault) → Fails w fault → Fails (next w go) fault
  halts w go (C.Wrong fault) h = ap (λ v. next v go) h
  halts w go C.NoMemory h = h

module _ (objects : List Object) (units blocks : List Tree) (h : Home) (is : h ≡ home_of objects units) (names : List (List ℕ)) (named : names ≡ object_names objects) where
  same_units : units_from names units h 0 units no_code ≡ typed_units objects units
  same_units = ap (λ l. units_from l units h 0 units no_code) named ∙ ap (λ x. units_from (object_names objects) units x 0 units no_code) is

  -- the code of units has a fault
  pub program_fails : (fault : CheckFault) → Fails (units_from names units h 0 units no_code) fault → Fails (checked objects units blocks) fault
  program_fails fault e =
      halts (typed_units objects units) (λ code. Gives (program_of code (map (block_of (home_of objects units)) blocks))) fault (subst (λ w. Fails w fault) same_units e)

  -- or has none
  pub program_is : (code : Code) (forms : List (Result (List TypedStmt) TreeFault)) → units_from names units h 0 units no_code ≡ Gives code → forms ≡ map (block_of h) blocks
      → checked objects units blocks ≡ Gives (program_of code forms)
  program_is code forms e f =
      ap (λ w. next w (λ c. Gives (program_of c (map (block_of (home_of objects units)) blocks)))) (sym same_units ∙ e)
      ∙ ap (λ x. Gives (program_of code (map (block_of x) blocks))) (sym is)
      ∙ ap (λ l. Gives (program_of code l)) (sym f)

-- ---- faults that are handed on

pub memory_wanted : {A : Type 0} (check : Check A) (r : Result A CheckFault) → IsErr r × IsErrAnd r (λ e. e ≡ C.NoMemory) → Comes check r
memory_wanted check (Ok a) h = let no : IsErr {E = CheckFault} (Ok a) = h.0 in absurd (cc)
memory_wanted check (Err e) h = subst (λ x. Comes check (Err x)) (sym h.1) tt

pub handed_on : {A : Type 0} (check : Check A) (r : Result A CheckFault) (fault : CheckFault) → IsErr r × IsErrAnd r (λ e. e ≡ fault) → Comes check (Err fault) → Comes check r
handed_on check (Ok a) fault h is = let no : IsErr {E = CheckFault} (Ok a) = h.0 in absurd (cc)
handed_on check (Err e) fault h is = subst (λ x. Comes check (Err x)) (sym h.1) is
