-- What a query does in a transaction (docs/platform.md, "Queries").
use Rattle.std.specs.Prelude.{ℕ, ◌+◌, ◌*◌, ◌&&◌, not, Bool, true, false, List, [], ◌∷◌, ◌++◌, length, map, filter, min, slice_get, Option, None, Some}
use Rattle.std.specs.List.{flat_map, list_all}
use Rattle.std.specs.Option.{is_some}
use Rattle.apex_num.specs.declared.cell.Cell.{Cell}
use Rattle.apex_num.specs.declared.cell.Cell.TheVariants.{Id}
use Rattle.apex_num.specs.declared.kind.LimitKind.TheVariants.{Queries, Rows, Alloc}
use Rattle.platform_errors.specs.declared.thrown.Thrown.{Thrown}
use Rattle.platform_errors.specs.declared.thrown.Thrown.TheVariants.{InvalidLimit}
use Rattle.apex_requests.specs.declared.request.Ticket.{Ticket}
use Rattle.apex_schema.specs.declared.schema.Mode.{Mode}
use Rattle.apex_schema.specs.declared.schema.Mode.TheVariants.{Sharing}
use Rattle.apex_schema.specs.declared.schema.Object.{Object}
use Rattle.apex_schema.specs.declared.schema.Schema.{Schema}
use Rattle.apex_rows.specs.declared.query.Bind.{Bind}
use Rattle.apex_rows.specs.declared.query.Term.{Term}
use Rattle.apex_rows.specs.declared.query.Path.{Path}
use Rattle.apex_rows.specs.declared.query.Cond.{Cond}
use Rattle.apex_rows.specs.declared.query.Cond.TheVariants.{All}
use Rattle.apex_rows.specs.declared.query.Query.{Query}
use Rattle.apex_rows.specs.declared.query.Query.TheViews.{out-Query, out-SubQuery}
use Rattle.apex_rows.specs.declared.query.SubQuery.{SubQuery}
use Rattle.apex_rows.specs.declared.row.Row.{Row}
use Rattle.apex_rows.specs.declared.row.Child.{Child}
use Rattle.apex_rows.specs.declared.row.Found.{Found}
use Rattle.row_meaning.specs.Accesses.{is_id, default_of, access}
use Rattle.row_meaning.specs.Conds.{cell_of, term_value, holds}
use Rattle.row_meaning.specs.Overlays.{Overlay}
use Rattle.row_meaning.specs.Queries.{path_value, row_cmp, sorted, whole_of, count_of, limited, skipped, is_visible, parent_cells}
use Rattle.row_meaning.specs.Stores.{put_all, has_id}
use Rattle.save_meaning.specs.Sites.{Site}
use Rattle.save_meaning.specs.Results.{Leaves, Res, Gives, Stops, bind}
use Rattle.save_meaning.specs.Transactions.{Keeps, charge}
use Rattle.save_meaning.specs.Counts.{count_most}
use Rattle.save_meaning.specs.Drafts.{untouched}
use Rattle.save_meaning.specs.Inserts.{ids_of}
use Rattle.store_inquiries.specs.Inquiries.{Inquiry, Found as Done, and_then, inquire}
use Rattle.store_inquiries.specs.Questions.{rising, within, row_share, shares_on, rows_for, rows_by, grab}
use Rattle.query_meaning.specs.Questions.{asked}
use Rattle.query_meaning.specs.Parents.{parents_of, object_over, named_over}

-- what a query answers: COUNT() a number, any other the rows that it found
pub data Answered : Type 0 where
  Counted : ℕ → Answered
  Listed : List Found → Answered

-- rows of a query on their way, and the rows over them that are known
pub record Gathered : Type 0 where
  pub rows : List Row
  pub known : List Row

-- ---- LIMIT and OFFSET

-- a number that isn't negative, if there is one at all
abbrev pub is_number : List Bind → Option Term → Bool
is_number binds None = true
is_number binds (Some t) = is_some (whole_of (term_value binds t))

abbrev pub has_numbers : List Bind → Query → Bool
has_numbers binds q = is_number binds (out-Query q).limit && is_number binds (out-Query q).offset

-- those of the query and of its subqueries
abbrev pub all_numbers : List Bind → Query → Bool
all_numbers binds q = has_numbers binds q && list_all (λ (sub : SubQuery). has_numbers binds (out-SubQuery sub).query) (out-Query q).children

-- ---- what rows cost

abbrev pub width : Option Object → ℕ
width None = 0
width (Some o) = length o.fields

-- 64 units, and 32 for each field of its object
abbrev pub row_units : Schema → Row → ℕ
row_units schema row = 64 + 32 * width (slice_get schema.objects row.object)

abbrev pub units_of : Schema → List Row → ℕ
units_of schema [] = 0
units_of schema (r ∷ rows) = row_units schema r + units_of schema rows

-- the rows that were found, each with the rows under it
abbrev pub children_in : List (List Child) → List Row
children_in lists = flat_map (λ (cs : List Child). map (λ (c : Child). c.row) cs) lists

abbrev pub rows_in : List Found → List Row
rows_in found = flat_map (λ (f : Found). f.row ∷ children_in f.children) found

-- ---- Ids among others

abbrev pub is_among : List (List ℕ) → Cell → Bool
is_among ids (Id i) = has_id ids i
is_among ids _ = false

-- ---- what a query finds, where the transaction has these changes

module _ (site : Site) (overlay : Overlay) where
  -- parents: one question for each, for the Ids that the transaction didn't touch
  abbrev pub read_parent : Option ℕ → Path → List Row → List Row → Inquiry (List Row)
  read_parent None p rows known = Done known
  read_parent (Some object) p rows known =
      and_then (rows_by overlay object (untouched overlay (rising (named_over site.schema known p rows)))) (λ found. Done (put_all found known))

  abbrev pub read_parents : ℕ → List Path → List Row → List Row → Inquiry (List Row)
  read_parents object [] rows known = Done known
  read_parents object (p ∷ ps) rows known = and_then (read_parent (object_over site.schema object p) p rows known) (read_parents object ps rows)

  -- sharing: one question, where the rows of the object are hidden from others and some are left
  abbrev pub is_hidden : Mode → ℕ → Bool
  is_hidden Sharing object = not (is_visible (default_of (slice_get site.schema.objects object)))
  is_hidden _ object = false

  abbrev pub shown_by : Bool → List Row → Inquiry (List Row)
  shown_by true (r ∷ rows) =
      and_then (rows_for overlay (row_share site.schema) (shares_on (rising (ids_of (r ∷ rows))) site.ticket.user)) (λ shares.
      Done (filter (λ (r : Row). is_visible (access site.schema site.ticket.user r shares)) (r ∷ rows)))
  shown_by _ rows = Done rows

  module _ (mode : Mode) (binds : List Bind) where
    -- the rows that a query finds among these: their parents, its whole condition and a test, sharing
    abbrev pub sifted : Query → (Row → Bool) → List Row → Inquiry Gathered
    sifted q test rows =
        and_then (read_parents (out-Query q).object (parents_of q) rows []) (λ known.
        and_then (shown_by (is_hidden mode (out-Query q).object) (filter (λ (r : Row). test r && holds binds (path_value site.schema known r) (out-Query q).cond) rows)) (λ seen.
        Done (record { rows = seen; known = known })))

    -- they are asked for by the part of the condition that a store can decide, and by further conditions
    abbrev pub gather : Query → List Cond → (Row → Bool) → Inquiry Gathered
    gather q further test = and_then (rows_for overlay (out-Query q).object (All (further ++ asked binds (out-Query q).cond))) (sifted q test)

    -- in the order of the keys and then of the Ids, without those that OFFSET skips, and LIMIT of them at the most
    abbrev pub cut : Query → List Row → List Row → List Row
    cut q known rows = limited (count_of binds (out-Query q).limit) (skipped (count_of binds (out-Query q).offset) (sorted (row_cmp (path_value site.schema known) (out-Query q).keys) rows))

    -- the cells of the selected paths of more than one name
    abbrev pub cells_over : Query → List Row → Row → List Cell
    cells_over q known row = parent_cells site.schema (row_share site.schema) known binds mode site.ticket.user q row

    -- rows under rows: one question for each subquery, where there are rows
    abbrev pub read_under : SubQuery → List (List ℕ) → Inquiry Gathered
    read_under sub [] = Done (record { rows = []; known = [] })
    read_under sub (i ∷ is) =
        gather (out-SubQuery sub).query (within (out-SubQuery sub).lookup (i ∷ is) ∷ []) (λ (c : Row). is_among (i ∷ is) (cell_of c (out-SubQuery sub).lookup))

    abbrev pub read_all_under : List SubQuery → List (List ℕ) → Inquiry (List (SubQuery × Gathered))
    read_all_under [] ids = Done []
    read_all_under (sub ∷ subs) ids = and_then (read_under sub ids) (λ found. and_then (read_all_under subs ids) (λ more. Done ((sub, found) ∷ more)))

    -- those under one row, cut for it alone
    abbrev pub children_under : Row → SubQuery × Gathered → List Child
    children_under row u =
        map (λ (c : Row). record { row = c; paths = cells_over (out-SubQuery u.0).query u.1.known c })
        (cut (out-SubQuery u.0).query u.1.known (filter (λ (c : Row). is_id (cell_of c (out-SubQuery u.0).lookup) row.id) u.1.rows))

    abbrev pub found_row : Query → List Row → List (SubQuery × Gathered) → Row → Found
    found_row q known under row = record { row = row; paths = cells_over q known row; children = map (children_under row) under }

    abbrev pub with_children : Query → List Row → List Row → Inquiry (List Found)
    with_children q known rows = and_then (read_all_under (out-Query q).children (rising (ids_of rows))) (λ under. Done (map (found_row q known under) rows))

    -- the rows, and then those under them
    abbrev pub finding : Query → Inquiry (List Found)
    finding q = and_then (gather q [] (λ (r : Row). true)) (λ found. with_children q found.known (cut q found.known found.rows))

-- ---- the query

-- FOR UPDATE: the rows that it found are held for this request alone
abbrev pub holding : Ticket → Bool → List Found → Inquiry (Unit {0})
holding ticket true found = grab ticket (ids_of (map (λ (f : Found). f.row) found))
holding ticket false found = Done tt

abbrev pub answer_of : Bool → List Found → Answered
answer_of true found = Counted (min (length found) count_most)
answer_of false found = Listed found

module _ {S : Type 0} (keeps : Keeps S) (site : Site) (mode : Mode) (binds : List Bind) where
  -- rows with those under them are charged, and their units; COUNT() costs a row and no units
  abbrev pub charge_rows : Bool → List Row → S → Res S Thrown (Unit {0})
  charge_rows true rows s = charge keeps Rows 1 s
  charge_rows false rows s = bind (charge keeps Rows (length rows) s) (λ u s1. charge keeps Alloc (units_of site.schema rows) s1)

  abbrev pub query_if : Bool → Query → S → Res S Thrown Answered
  query_if false q s = Stops (Leaves InvalidLimit) s
  query_if true q s =
      bind (charge keeps Queries 1 s) (λ u s1.
      bind (inquire keeps (finding site (keeps.txn s1).overlay mode binds q) s1) (λ found s2.
      bind (charge_rows (out-Query q).counted (rows_in found) s2) (λ v s3.
      bind (inquire keeps (holding site.ticket (out-Query q).locked found) s3) (λ w s4. Gives (answer_of (out-Query q).counted found) s4))))

  -- what a query does, where its binds have these values: a LIMIT or OFFSET that is no number throws before anything is charged
  abbrev pub query : Query → S → Res S Thrown Answered
  query q s = query_if (all_numbers binds q) q s
