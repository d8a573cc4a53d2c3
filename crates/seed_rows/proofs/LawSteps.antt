-- The rows of a seed as rows of a store.
use Rattle.std.proofs.Common.{arith, ◌≡◌, ◌||◌, ◌+◌, cond, ℕ, zero, suc, Bool, true, false, List, [], ◌∷◌, ◌++◌, length, map, slice_get, bytes_eq, Option, None, Some, option_map, refl, sym, ap, ap₂, ◌∙◌, subst}
use Rattle.std.specs.List.{IsDistinct, AllByRecursion}
use Rattle.std.proofs.lemmas.List.{map-append}
use Rattle.std.proofs.lemmas.List.Folds.{list_any-append}
use Rattle.std.proofs.lemmas.Bool.{ne_eqb}
use Rattle.std.proofs.lemmas.Option.{same_Some, slice_get-map}
use Rattle.apex_num.specs.declared.cell.Cell.{Cell}
use Rattle.apex_num.specs.declared.cell.Cell.TheVariants.{Null, Id}
use Rattle.schema_plans.specs.declared.plan.ObjectPlan.{ObjectPlan}
use Rattle.schema_plans.specs.declared.plan.SchemaPlan.{SchemaPlan}
use Rattle.row_meaning.specs.Conds.{or_null}
use Rattle.apex_schema.specs.declared.schema.Field.{Field}
use Rattle.apex_schema.specs.declared.schema.FieldKind.{FieldKind}
use Rattle.apex_schema.specs.declared.schema.FieldKind.TheVariants as Kind
use Rattle.apex_schema.specs.declared.schema.Object.{Object}
use Rattle.apex_schema.specs.declared.schema.Schema.{Schema}
use Rattle.apex_rows.specs.declared.row.Row.{Row}
use Rattle.fault_words.specs.declared.fault.FaultWord.{FaultWord}
use Rattle.schema_plans.specs.Schemas.{numbered, object_of, row_share}
use Rattle.row_meaning.specs.Stores.{AllRows, CellFits, CellsFit, has_id, IsRow as IsSchemaRow}
use Rattle.row_meaning.specs.Users.{user_id}
use Rattle.schema_plans.specs.Validity.{IsValid, bare}
use Rattle.bundle_read.specs.declared.entries.CellEntry.{CellEntry}
use Rattle.bundle_read.specs.declared.entries.CellValue.{CellValue}
use Rattle.bundle_read.specs.declared.entries.CellValue.TheVariants as Written
use Rattle.row_cells.specs.Cells.{IsCell}
use Rattle.row_cells.specs.Rows.{Known, Tells, naming}
use Rattle.seed_rows.specs.Written.{Written as WrittenRow}
use Rattle.seed_rows.specs.Words.{first_of, is_bad_id}
use Rattle.rolled_rows.specs.Laws.{RowsStayRows}
use Rattle.seed_rows.specs.Seeds.{AreRows, AreRolled, IsRolled, IsSeed, IsSeedRow, object_at, or_default}
use Rattle.seed_rows.specs.Views.{ids_of}

-- ---- Ids

first_none : (b : Bool) (word : FaultWord) (rest : Option FaultWord) → first_of b word rest ≡ None → (b ≡ false) × (rest ≡ None)
first_none true word rest h = absurd (cc)
first_none false word rest h = (refl, h)

both_false : (b c : Bool) → (b || c) ≡ false → (b ≡ false) × (c ≡ false)
both_false true c h = absurd (cc)
both_false false c h = (refl, h)

new_id : (prefix : List ℕ) (before : List Row) (cell : Option (Option Cell)) (id : List ℕ) → cell ≡ Some (Some (Id id)) → is_bad_id prefix before cell ≡ false → has_id (ids_of before) id ≡ false
new_id prefix before cell id e h = (both_false _ (has_id (ids_of before) id) (sym (ap (is_bad_id prefix before) e) ∙ h)).1

two : (before : List Row) (row : Row) (id : List ℕ) → has_id (ids_of (before ++ row ∷ [])) id ≡ false → (has_id (ids_of before) id ≡ false) × (bytes_eq row.id id ≡ false)
two before row id h =
    let parts = both_false (has_id (ids_of before) id) (bytes_eq row.id id || false) (sym (ap (λ l. has_id l id) (map-append (λ (r : Row). r.id) before (row ∷ [])) ∙ list_any-append (λ i. bytes_eq i id) (ids_of before) (row.id ∷ [])) ∙ h) in
    (parts.0, (both_false (bytes_eq row.id id) false parts.1).0)

module _ (schema : Schema) (all : List WrittenRow) where
  row_id : (before : List Row) (w : WrittenRow) (row : Row) → IsSeedRow schema all before w row → has_id (ids_of before) row.id ≡ false
  row_id before w row s =
      let rest = (first_none _ _ _ s.faultless).1 in
      new_id s.o.prefix before (slice_get s.known 0) row.id s.id (first_none _ _ _ rest).0

  weaken : (before : List Row) (row : Row) (ids : List (List ℕ)) → AllByRecursion (λ id. has_id (ids_of (before ++ row ∷ [])) id ≡ false) ids → AllByRecursion (λ id. has_id (ids_of before) id ≡ false) ids
  weaken before row [] h = h
  weaken before row (id ∷ ids) (here, rest) = ((two before row id here).0, weaken before row ids rest)

  after : (before : List Row) (row : Row) (ids : List (List ℕ)) → AllByRecursion (λ id. has_id (ids_of (before ++ row ∷ [])) id ≡ false) ids → AllByRecursion (λ id. bytes_eq row.id id ≡ false) ids
  after before row [] h = h
  after before row (id ∷ ids) (here, rest) = ((two before row id here).1, after before row ids rest)

  apart : (before : List Row) (ws : List WrittenRow) (rows : List Row) → AreRows schema all before ws rows → AllByRecursion (λ id. has_id (ids_of before) id ≡ false) (ids_of rows)
  apart before [] rows h = subst (λ l. AllByRecursion (λ id. has_id (ids_of before) id ≡ false) (ids_of l)) (sym h) tt
  apart before (w ∷ ws) [] h = absurd h
  apart before (w ∷ ws) (row ∷ rows) (here, rest) = (row_id before w row here, weaken before row (ids_of rows) (apart (before ++ row ∷ []) ws rows rest))

  distinct : (before : List Row) (ws : List WrittenRow) (rows : List Row) → AreRows schema all before ws rows → IsDistinct bytes_eq (ids_of rows)
  unfolding IsDistinct
  distinct before [] rows h = subst (λ l. IsDistinct bytes_eq (ids_of l)) (sym h) tt
  distinct before (w ∷ ws) [] h = absurd h
  distinct before (w ∷ ws) (row ∷ rows) (here, rest) = (after before row (ids_of rows) (apart (before ++ row ∷ []) ws rows rest), distinct (before ++ row ∷ []) ws rows rest)

-- roll-ups leave the Ids
same_ids : (schema : Schema) (all plain rows : List Row) → AreRolled schema all plain rows → ids_of rows ≡ ids_of plain
same_ids schema all [] rows h = ap ids_of h
same_ids schema all (p ∷ plain) [] h = absurd h
same_ids schema all (p ∷ plain) (row ∷ rows) (here, rest) = ap₂ (λ i l. i ∷ l) here.id (same_ids schema all plain rows rest)

pub ids_differ : (schema : Schema) (all : List WrittenRow) (rows : List Row) → IsSeed schema all rows → IsDistinct bytes_eq (ids_of rows)
ids_differ schema all rows (plain, are, rolled) = subst (IsDistinct bytes_eq) (sym (same_ids schema plain plain rows rolled)) (distinct schema all [] all plain are)

-- ---- cells

cell_fits : (kind : FieldKind) (value : CellValue) (c : Cell) → IsCell kind value c → CellFits kind c
cell_fits Kind.Id Written.Null c h = subst (λ x. CellFits Kind.Id x) (sym h) tt
cell_fits Kind.Id (Written.Truth b) c h = absurd h
cell_fits Kind.Id (Written.Whole n) c h = absurd h
cell_fits Kind.Id Written.Float c h = absurd h
cell_fits Kind.Id (Written.Text text) c (id, names, e) = subst (λ x. CellFits Kind.Id x) (sym e) tt
cell_fits Kind.Id Written.Nested c h = absurd h
cell_fits (Kind.Text most) Written.Null c h = subst (λ x. CellFits (Kind.Text most) x) (sym h) tt
cell_fits (Kind.Text most) (Written.Truth b) c h = absurd h
cell_fits (Kind.Text most) (Written.Whole n) c h = absurd h
cell_fits (Kind.Text most) Written.Float c h = absurd h
cell_fits (Kind.Text most) (Written.Text text) c h = subst (λ x. CellFits (Kind.Text most) x) (sym h) tt
cell_fits (Kind.Text most) Written.Nested c h = absurd h
cell_fits Kind.Number Written.Null c h = subst (λ x. CellFits Kind.Number x) (sym h) tt
cell_fits Kind.Number (Written.Truth b) c h = absurd h
cell_fits Kind.Number (Written.Whole n) c (within, e) = subst (λ x. CellFits Kind.Number x) (sym e) tt
cell_fits Kind.Number Written.Float c h = absurd h
cell_fits Kind.Number (Written.Text text) c (d, spells, within, e) = subst (λ x. CellFits Kind.Number x) (sym e) tt
cell_fits Kind.Number Written.Nested c h = absurd h
cell_fits Kind.Checkbox Written.Null c h = subst (λ x. CellFits Kind.Checkbox x) (sym h) tt
cell_fits Kind.Checkbox (Written.Truth b) c h = subst (λ x. CellFits Kind.Checkbox x) (sym h) tt
cell_fits Kind.Checkbox (Written.Whole n) c h = absurd h
cell_fits Kind.Checkbox Written.Float c h = absurd h
cell_fits Kind.Checkbox (Written.Text text) c h = absurd h
cell_fits Kind.Checkbox Written.Nested c h = absurd h
cell_fits Kind.Date Written.Null c h = subst (λ x. CellFits Kind.Date x) (sym h) tt
cell_fits Kind.Date (Written.Truth b) c h = absurd h
cell_fits Kind.Date (Written.Whole n) c h = absurd h
cell_fits Kind.Date Written.Float c h = absurd h
cell_fits Kind.Date (Written.Text text) c (n, is, e) = subst (λ x. CellFits Kind.Date x) (sym e) tt
cell_fits Kind.Date Written.Nested c h = absurd h
cell_fits Kind.Datetime Written.Null c h = subst (λ x. CellFits Kind.Datetime x) (sym h) tt
cell_fits Kind.Datetime (Written.Truth b) c h = absurd h
cell_fits Kind.Datetime (Written.Whole n) c h = absurd h
cell_fits Kind.Datetime Written.Float c h = absurd h
cell_fits Kind.Datetime (Written.Text text) c (n, is, e) = subst (λ x. CellFits Kind.Datetime x) (sym e) tt
cell_fits Kind.Datetime Written.Nested c h = absurd h
cell_fits (Kind.Lookup link) Written.Null c h = subst (λ x. CellFits (Kind.Lookup link) x) (sym h) tt
cell_fits (Kind.Lookup link) (Written.Truth b) c h = absurd h
cell_fits (Kind.Lookup link) (Written.Whole n) c h = absurd h
cell_fits (Kind.Lookup link) Written.Float c h = absurd h
cell_fits (Kind.Lookup link) (Written.Text text) c (id, names, e) = subst (λ x. CellFits (Kind.Lookup link) x) (sym e) tt
cell_fits (Kind.Lookup link) Written.Nested c h = absurd h
cell_fits (Kind.MasterDetail link) Written.Null c h = subst (λ x. CellFits (Kind.MasterDetail link) x) (sym h) tt
cell_fits (Kind.MasterDetail link) (Written.Truth b) c h = absurd h
cell_fits (Kind.MasterDetail link) (Written.Whole n) c h = absurd h
cell_fits (Kind.MasterDetail link) Written.Float c h = absurd h
cell_fits (Kind.MasterDetail link) (Written.Text text) c (id, names, e) = subst (λ x. CellFits (Kind.MasterDetail link) x) (sym e) tt
cell_fits (Kind.MasterDetail link) Written.Nested c h = absurd h
cell_fits (Kind.Rollup rollup) Written.Null c h = subst (λ x. CellFits (Kind.Rollup rollup) x) (sym h) tt
cell_fits (Kind.Rollup rollup) (Written.Truth b) c h = absurd h
cell_fits (Kind.Rollup rollup) (Written.Whole n) c h = absurd h
cell_fits (Kind.Rollup rollup) Written.Float c h = absurd h
cell_fits (Kind.Rollup rollup) (Written.Text text) c h = absurd h
cell_fits (Kind.Rollup rollup) Written.Nested c h = absurd h

told_fits : (kind : FieldKind) (es : List CellEntry) (c : Cell) → Tells kind es (Some c) → CellFits kind c
told_fits kind [] c h = absurd (cc)
told_fits kind (e ∷ []) c (d, same, is) = subst (CellFits kind) (sym (same_Some c d same)) (cell_fits kind e.value d is)
told_fits kind (e ∷ x ∷ more) c h = absurd h

null_fits : (kind : FieldKind) → CellFits kind Null
null_fits Kind.Id = tt
null_fits (Kind.Text most) = tt
null_fits Kind.Number = tt
null_fits Kind.Checkbox = tt
null_fits Kind.Date = tt
null_fits Kind.Datetime = tt
null_fits (Kind.Lookup link) = tt
null_fits (Kind.MasterDetail link) = tt
null_fits (Kind.Rollup rollup) = tt

-- what isn't written fits, too: the owner's field, which is the second, takes an Id
default_fits : (n : ℕ) (kind : FieldKind) → ((n ≡ 1) → kind ≡ Kind.Id) → CellFits kind (or_default n None)
default_fits zero kind h = null_fits kind
default_fits (suc zero) kind h = subst (λ k. CellFits k (or_default 1 None)) (sym (h refl)) tt
default_fits (suc (suc n)) kind h = subst (λ b. CellFits kind (cond b (Id (user_id 0)) Null)) (sym (ne_eqb (suc (suc n)) 1 (λ e. omega arith))) (null_fits kind)

cells_fit : (fs : List Field) (ks : Known) (n : ℕ) → length ks ≡ length fs → ((i : ℕ) (f : Field) (k : Option Cell) → slice_get fs i ≡ Some f → slice_get ks i ≡ Some k → CellFits f.kind (or_default (n + i) k)) → CellsFit fs (numbered or_default n ks)
cells_fit [] [] n l each = tt
cells_fit [] (k ∷ ks) n l each = absurd (cc)
cells_fit (f ∷ fs) [] n l each = absurd (cc)
cells_fit (f ∷ fs) (k ∷ ks) n l each = (
  subst (λ m. CellFits f.kind (or_default m k)) (omega arith) (each 0 f k refl refl),
  cells_fit fs ks (n + 1) (cc) (λ i g c a b. let next : n + suc i ≡ n + 1 + i = omega arith in subst (λ m. CellFits g.kind (or_default m c)) next (each (suc i) g c a b)),
)

-- ---- owners

second_of : (o : Object) (x : Object) (f : Field) → Some o ≡ Some x → ((g : Field) → slice_get o.fields 1 ≡ Some g → g.kind ≡ Kind.Id) → slice_get x.fields 1 ≡ Some f → f.kind ≡ Kind.Id
second_of o x f e own at = own f (ap (λ (y : Object). slice_get y.fields 1) (same_Some o x e) ∙ at)

second_is : (plan : SchemaPlan) (i : ℕ) (ps : List ObjectPlan) (n : ℕ) (x : Object) (f : Field) → slice_get (numbered (object_of plan) i ps ++ row_share ∷ []) n ≡ Some x → slice_get x.fields 1 ≡ Some f → f.kind ≡ Kind.Id
second_is plan i [] zero x f e at = second_of row_share x f e (λ g h. sym (ap (λ (y : Field). y.kind) (same_Some _ g h))) at
second_is plan i [] (suc n) x f e at = absurd (cc)
second_is plan i (p ∷ ps) zero x f e at = second_of (object_of plan i p) x f e (λ g h. sym (ap (λ (y : Field). y.kind) (same_Some _ g h))) at
second_is plan i (p ∷ ps) (suc n) x f e at = second_is plan (i + 1) ps n x f e at

owner_is : (schema : Schema) → IsValid schema → (n : ℕ) (o : Object) (f : Field) → slice_get schema.objects n ≡ Some o → slice_get o.fields 1 ≡ Some f → f.kind ≡ Kind.Id
owner_is schema valid n o f e at =
    let objects : map bare schema.objects ≡ numbered (object_of valid.plan) 0 valid.plan.objects ++ row_share ∷ [] = ap (λ (s : Schema). s.objects) valid.said in
    second_is valid.plan 0 valid.plan.objects n (bare o) f (ap (λ l. slice_get l n) (sym objects) ∙ slice_get-map bare schema.objects n ∙ ap (option_map bare) e) at

-- ---- rows

first_cell : (known : Known) (id : List ℕ) → slice_get known 0 ≡ Some (Some (Id id)) → or_null (slice_get (numbered or_default 0 known) 0) ≡ Id id
first_cell [] id e = absurd (cc)
first_cell (k ∷ ks) id e = ap (or_default 0) (same_Some k (Some (Id id)) e)

zero_more : (i : ℕ) → i ≡ 0 + i
zero_more i = omega arith

one_row : (schema : Schema) (all : List WrittenRow) (before : List Row) (w : WrittenRow) (row : Row) → IsValid schema → IsSeedRow schema all before w row → IsSchemaRow schema row
one_row schema all before w row valid s =
    let at : slice_get schema.objects row.object ≡ Some s.o = ap (object_at schema) (sym s.object) ∙ s.is_object in
    record {
      object = s.o;
      is_object = at;
      cells = subst (CellsFit s.o.fields) (sym s.cells) (cells_fit s.o.fields s.known 0 s.knows.count (λ i f k a b. each at i f k a b));
      id = ap (λ l. or_null (slice_get l 0)) s.cells ∙ first_cell s.known row.id s.id;
    } where
      each : slice_get schema.objects row.object ≡ Some s.o → (i : ℕ) (f : Field) (k : Option Cell) → slice_get s.o.fields i ≡ Some f → slice_get s.known i ≡ Some k → CellFits f.kind (or_default (0 + i) k)
      each at i f (Some c) a b = told_fits f.kind (naming s.o.fields i w.cells) c (s.knows.each i f (Some c) a b)
      each at i f None a b = subst (λ m. CellFits f.kind (or_default m None)) (zero_more i) (default_fits i f.kind (λ e. owner_is schema valid row.object s.o f at (ap (slice_get s.o.fields) (sym e) ∙ a)))

all_rows : (schema : Schema) (all : List WrittenRow) → IsValid schema → (before : List Row) (ws : List WrittenRow) (rows : List Row) → AreRows schema all before ws rows → AllRows schema rows
all_rows schema all valid before [] rows h = subst (AllRows schema) (sym h) tt
all_rows schema all valid before (w ∷ ws) [] h = absurd h
all_rows schema all valid before (w ∷ ws) (row ∷ rows) (here, rest) = (one_row schema all before w row valid here, all_rows schema all valid (before ++ row ∷ []) ws rows rest)

stays : (schema : Schema) (all : List Row) (plain row : Row) → RowsStayRows → IsSchemaRow schema plain → IsRolled schema all plain row → IsSchemaRow schema row
stays schema all plain row law h r =
    let eo : plain.object ≡ row.object = sym r.object in
    let ei : plain.id ≡ row.id = sym r.id in
    subst (IsSchemaRow schema) (λ i. record { object = eo i; id = ei i; cells = row.cells }) (law schema all plain row.cells h r.cells)

all_stay : (schema : Schema) (all : List Row) → RowsStayRows → (plain rows : List Row) → AllRows schema plain → AreRolled schema all plain rows → AllRows schema rows
all_stay schema all law [] rows h k = subst (AllRows schema) (sym k) tt
all_stay schema all law (p ∷ plain) [] h k = absurd k
all_stay schema all law (p ∷ plain) (row ∷ rows) h k = (stays schema all p row law h.0 k.0, all_stay schema all law plain rows h.1 k.1)

pub rows_are_of_schema : RowsStayRows → (schema : Schema) (all : List WrittenRow) (rows : List Row) → IsValid schema → IsSeed schema all rows → AllRows schema rows
rows_are_of_schema law schema all rows valid (plain, are, rolled) = all_stay schema plain law plain rows (all_rows schema all valid [] all plain are) rolled
