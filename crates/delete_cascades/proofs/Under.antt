-- Rows under rows.
use Rattle.std.proofs.Common.{◌≡◌, ℕ, suc, false, List, [], ◌∷◌, ◌++◌, refl, sym, ap, ◌∙◌, arith}
use Rattle.std.specs.Prelude.{◌||◌, ◌&&◌, eqb, bytes_eq, filter}
use Rattle.std.specs.List.{list_any}
use Rattle.std.specs.Map.{values_of}
use Rattle.indexmap.specs.IndexMap.{IndexMap}
use Rattle.apex_num.specs.declared.cell.Cell.{Cell}
use Rattle.apex_num.specs.declared.cell.Cell.TheVariants as C
use Rattle.apex_rows.specs.declared.row.Row.{Row}
use Rattle.row_meaning.specs.Conds.{cell_of}
use Rattle.row_meaning.specs.Stores.{has_id}
use Rattle.save_meaning.specs.Inserts.{ids_of}
use Rattle.save_statements.specs.declared.pending.Naming.{Naming}
use Rattle.save_statements.specs.Records.{is_among, names_one, named_by}
use Rattle.save_statements.specs.Checks.{all_under}
use Rattle.delete_cascades.specs.Layers.{IsIndex, all_below, has_place, is_under, layers_of, marked, places_in}
use Rattle.delete_cascades.proofs.Tests.{and_none, and_or, any_never, any_or, any_same, or_none}
use Rattle.delete_cascades.proofs.Marks.{found_is}

-- ---- a row names one of some Ids: the first, or one of the others

among_split : (i : List ℕ) (is : List (List ℕ)) (c : Cell) → is_among (i ∷ is) c ≡ (is_among (i ∷ []) c || is_among is c)
among_split i is (C.Id j) = ap (λ b. b || has_id is j) (sym (or_none (bytes_eq i j)))
among_split i is C.Null = refl
among_split i is (C.Bool b) = refl
among_split i is (C.Whole n) = refl
among_split i is (C.Num d) = refl
among_split i is (C.Text t) = refl
among_split i is (C.Day n) = refl
among_split i is (C.Moment n) = refl

among_none : (c : Cell) → is_among [] c ≡ false
among_none (C.Id j) = refl
among_none C.Null = refl
among_none (C.Bool b) = refl
among_none (C.Whole n) = refl
among_none (C.Num d) = refl
among_none (C.Text t) = refl
among_none (C.Day n) = refl
among_none (C.Moment n) = refl

pub names_split : (field : ℕ) (i : List ℕ) (is : List (List ℕ)) (row : Row) → names_one field (i ∷ is) row ≡ (names_one field (i ∷ []) row || names_one field is row)
names_split field i is row = among_split i is (cell_of row field)

pub names_none : (field : ℕ) (row : Row) → names_one field [] row ≡ false
names_none field row = among_none (cell_of row field)

named_split : (namings : List Naming) (i : List ℕ) (is : List (List ℕ)) (row : Row) → named_by namings (i ∷ is) row ≡ (named_by namings (i ∷ []) row || named_by namings is row)
named_split namings i is row =
    any_or (λ (n : Naming). eqb n.object row.object && names_one n.field (i ∷ []) row) (λ (n : Naming). eqb n.object row.object && names_one n.field is row) (λ (n : Naming). eqb n.object row.object && names_one n.field (i ∷ is) row)
    (λ n. ap (λ b. eqb n.object row.object && b) (names_split n.field i is row) ∙ and_or (eqb n.object row.object) (names_one n.field (i ∷ []) row) (names_one n.field is row)) namings

named_none : (namings : List Naming) (row : Row) → named_by namings [] row ≡ false
named_none namings row =
    any_never (λ (n : Naming). eqb n.object row.object && names_one n.field [] row) (λ n. ap (λ b. eqb n.object row.object && b) (names_none n.field row) ∙ and_none (eqb n.object row.object)) namings

-- a row names one of some Ids exactly where it names the first of them, or the second, and so on
named_any : (namings : List Naming) (ids : List (List ℕ)) (row : Row) → list_any (λ (i : List ℕ). named_by namings (i ∷ []) row) ids ≡ named_by namings ids row
named_any namings [] row = sym (named_none namings row)
named_any namings (i ∷ is) row = ap (λ b. named_by namings (i ∷ []) row || b) (named_any namings is row) ∙ sym (named_split namings i is row)

-- ---- what an index gives

module _ {S : Type 0} (namings : List Naming) (rows : List Row) (places : IndexMap (List ℕ) (List ℕ) S) (ids : List (List ℕ)) where
  pub below_is : IsIndex namings rows places → values_of (marked (is_under places ids) 0 rows) ≡ ids_of (filter (named_by namings ids) rows)
  below_is index =
      found_is rows 0 (is_under places ids) (named_by namings ids)
      (λ m n row e at. ap (is_under places ids) (let z : m ≡ n = omega arith in z)
      ∙ any_same (λ (i : List ℕ). has_place (places_in places i) n) (λ (i : List ℕ). named_by namings (i ∷ []) row) (λ i. index i n row at) ids
      ∙ named_any namings ids row)

-- under no Id there is no row
pub under_none : (rows : List Row) (k : ℕ) → [] ≡ marked (λ n. false) k rows
under_none [] k = refl
under_none (r ∷ rows) k = under_none rows (suc k)

-- ---- level by level

pub all_below_is : (namings : List Naming) (levels : List (List Row)) (ids : List (List ℕ)) → all_below (layers_of namings levels) ids ≡ all_under namings levels ids
all_below_is namings [] ids = refl
all_below_is namings (rows ∷ levels) ids = ap (λ is. ids ++ is) (all_below_is namings levels (ids_of (filter (named_by namings ids) rows)))
