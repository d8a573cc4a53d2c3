-- The rows that a query gathers are those of the whole store that it means.
use Rattle.std.proofs.Common.{◌≡◌, refl, ap, sym, subst, ◌∙◌, ℕ, Bool, true, false, cond, List, [], ◌∷◌, ◌++◌, map}
use Rattle.std.specs.Prelude.{◌&&◌, filter}
use Rattle.std.specs.List.{list_all}
use Rattle.std.proofs.lemmas.Bool.{eqb-true}
use Rattle.apex_num.specs.declared.cell.Cell.{Cell}
use Rattle.apex_schema.specs.declared.schema.Mode.{Mode}
use Rattle.apex_rows.specs.declared.query.Bind.{Bind}
use Rattle.apex_rows.specs.declared.query.Path.{Path}
use Rattle.apex_rows.specs.declared.query.SortKey.{SortKey}
use Rattle.apex_rows.specs.declared.query.Cond.{Cond}
use Rattle.apex_rows.specs.declared.query.Cond.TheVariants.{All}
use Rattle.apex_rows.specs.declared.query.Query.{Query}
use Rattle.apex_rows.specs.declared.query.Query.TheViews.{out-Query}
use Rattle.apex_rows.specs.declared.row.Row.{Row}
use Rattle.row_meaning.specs.Cells.{is_empty}
use Rattle.row_meaning.specs.Conds.{cell_of, holds, own_value, holds_of, is_own}
use Rattle.row_meaning.specs.Overlays.{Overlay, merged, over}
use Rattle.row_meaning.specs.Queries.{follow, end_cell, path_value, row_cmp, sorted, count_of, limited, skipped, sees, parent_cells}
use Rattle.row_meaning.specs.Stores.{AllRows, of_object, answer}
use Rattle.save_meaning.specs.Counts.{IsKeyed}
use Rattle.save_meaning.specs.Sites.{Site}
use Rattle.store_inquiries.specs.Inquiries.{Inquiry, Found as Done, of_store, and_then}
use Rattle.store_inquiries.specs.Questions.{row_share, rows_for}
use Rattle.store_inquiries.proofs.Inquiring.{behind}
use Rattle.query_meaning.specs.Questions.{asked}
use Rattle.query_meaning.specs.Parents.{cond_paths, paths_of, parents_of}
use Rattle.query_meaning.specs.Queries.{Gathered, read_parents, is_hidden, shown_by, sifted, gather, cut, cells_over}
use Rattle.query_meaning.proofs.Maps.{clash, InOrder}
use Rattle.query_meaning.proofs.Seen.{Each, each_filter, each_weaker, is_of, of_each, merge_is}
use Rattle.query_meaning.proofs.Conds.{both_true, all_map, holds_All, Agree, agree_left, agree_right, same_says, asked_holds}
use Rattle.query_meaning.proofs.Orders.{filter_same, sorted_same, cmp_same}
use Rattle.query_meaning.proofs.Known.{known_of, paths_agree}
use Rattle.query_meaning.proofs.Shares.{shown}

-- ---- filters

pub filter_filter : (p q : Row → Bool) (rows : List Row) → filter p (filter q rows) ≡ filter (λ (r : Row). q r && p r) rows
filter_filter p q [] = refl
filter_filter p q (r ∷ rows) = by (q r) (filter_filter p q rows) where
  by : (b : Bool) → filter p (filter q rows) ≡ filter (λ (r : Row). q r && p r) rows →
      filter p (cond b (r ∷ filter q rows) (filter q rows)) ≡ cond (b && p r) (r ∷ filter (λ (r : Row). q r && p r) rows) (filter (λ (r : Row). q r && p r) rows)
  by true h = ap (λ (more : List Row). cond (p r) (r ∷ more) more) h
  by false h = h

pub filter_like : (p q : Row → Bool) → ((r : Row) → p r ≡ q r) → (rows : List Row) → filter p rows ≡ filter q rows
filter_like p q h [] = refl
filter_like p q h (r ∷ rows) = ap (λ b. cond b (r ∷ filter p rows) (filter p rows)) (h r) ∙ ap (λ (more : List Row). cond (q r) (r ∷ more) more) (filter_like p q h rows)

regrouped : (a b c : Bool) → ((a && b) && c) ≡ (a && (b && c))
regrouped true b c = refl
regrouped false b c = refl

all_append : (test : Cond → Bool) (cs ds : List Cond) → list_all test cs ≡ true → list_all test ds ≡ true → list_all test (cs ++ ds) ≡ true
all_append test [] ds h k = k
all_append test (c ∷ cs) ds h k =
    let parts = both_true (test c) (list_all test cs) h in ap (λ b. b && list_all test (cs ++ ds)) parts.0 ∙ all_append test cs ds parts.1 k

-- the value of a path of one name is the row's own cell
own_cell : (schema : _) (rows : List Row) (r : Row) (path : Path) → is_own path ≡ true → path_value schema rows r path ≡ own_value r path
own_cell schema rows r path h = by path.parents h where
  by : (fs : List ℕ) → is_empty fs ≡ true → end_cell path.field (follow schema rows fs r) ≡ cell_of r path.field
  by [] e = refl
  by (f ∷ fs) e = absurd (clash (sym e))

map_paths : (v w : Path → Cell) (test : Path → Bool) (paths : List Path) → Agree v w paths → map v (filter test paths) ≡ map w (filter test paths)
map_paths v w test [] h = refl
map_paths v w test (p ∷ ps) h = by (test p) (map_paths v w test ps h.1) where
  by : (b : Bool) → map v (filter test ps) ≡ map w (filter test ps) → map v (cond b (p ∷ filter test ps) (filter test ps)) ≡ map w (cond b (p ∷ filter test ps) (filter test ps))
  by true more = ap (λ c. c ∷ map v (filter test ps)) h.0 ∙ ap (λ cs. w p ∷ cs) more
  by false more = more

module _ (site : Site) (v : Overlay) (keyed : IsKeyed v) (store : List Row) (ordered : InOrder store) (all : AllRows site.schema store) (mode : Mode) (binds : List Bind) where
  abbrev whole : List Row
  whole = over store v

  -- a row's paths over what is known are those on the whole store
  abbrev pub Knows : Query → List Row → Row → Type 0
  Knows q known r = Agree (path_value site.schema known r) (path_value site.schema whole r) (paths_of q)

  -- the whole condition, and sharing, on the whole store
  abbrev pub meets : Query → Row → Bool
  meets q r = holds binds (path_value site.schema whole r) (out-Query q).cond && sees site.schema (row_share site.schema) whole mode site.ticket.user r

  pub record Gathers (q : Query) (test : Row → Bool) (g : Gathered) : Type 0 where
    pub rows_are : g.rows ≡ filter (λ (r : Row). test r && meets q r) (of_object (out-Query q).object whole)
    pub knows : Each (Knows q g.known) g.rows

  module _ (q : Query) (further : List Cond) (test : Row → Bool) (far : (r : Row) → test r ≡ true → list_all (λ (c : Cond). holds_of c r) further ≡ true) where
    abbrev question : Cond
    question = All (further ++ asked binds (out-Query q).cond)

    abbrev rows : List Row
    rows = merged v (out-Query q).object (answer store (out-Query q).object question)

    own : Each (λ (r : Row). r.object ≡ (out-Query q).object) rows
    own =
        each_weaker (λ (r : Row). is_of (out-Query q).object r ≡ true) (λ (r : Row). r.object ≡ (out-Query q).object) (λ r h. eqb-true r.object (out-Query q).object h) rows
        (of_each v store (out-Query q).object question)

    abbrev known : List Row
    known = known_of site v keyed store ordered all (out-Query q).object rows own q

    agree : Each (Knows q known) rows
    agree = paths_agree site v keyed store ordered all (out-Query q).object rows own q

    abbrev sifts : List Row → Row → Bool
    sifts some r = test r && holds binds (path_value site.schema some r) (out-Query q).cond

    weaker : (r : Row) → sifts whole r ≡ true → holds_of question r ≡ true
    weaker r h =
        holds_All [] (own_value r) (further ++ asked binds (out-Query q).cond) ∙ all_map (own_value r) (further ++ asked binds (out-Query q).cond)
        ∙ all_append (λ (c : Cond). holds_of c r) further (asked binds (out-Query q).cond) (far r parts.0)
        (asked_holds binds (path_value site.schema whole r) r (own_cell site.schema whole r) (out-Query q).cond parts.1) where
          parts : (test r ≡ true) × (holds binds (path_value site.schema whole r) (out-Query q).cond ≡ true)
          parts = both_true (test r) (holds binds (path_value site.schema whole r) (out-Query q).cond) h

    of_cond : (r : Row) → Knows q known r → Agree (path_value site.schema known r) (path_value site.schema whole r) (cond_paths (out-Query q).cond)
    of_cond r h =
        agree_left _ _ (cond_paths (out-Query q).cond) (map (λ (k : SortKey). k.path) (out-Query q).keys)
        (agree_right _ _ (out-Query q).paths (cond_paths (out-Query q).cond ++ map (λ (k : SortKey). k.path) (out-Query q).keys) h)

    sifts_same : (r : Row) → Knows q known r → sifts known r ≡ sifts whole r
    sifts_same r h = ap (λ b. test r && b) (same_says binds (path_value site.schema known r) (path_value site.schema whole r) (out-Query q).cond (of_cond r h))

    abbrev left : List Row
    left = filter (sifts known) rows

    left_is : left ≡ filter (sifts whole) (of_object (out-Query q).object whole)
    left_is =
        filter_same (sifts known) (sifts whole) rows (each_weaker (Knows q known) (λ (r : Row). sifts known r ≡ sifts whole r) sifts_same rows agree)
        ∙ merge_is v keyed store ordered (out-Query q).object question (sifts whole) weaker

    abbrev seen : Row → Bool
    seen r = sees site.schema (row_share site.schema) whole mode site.ticket.user r

    shown_rows : of_store store (shown_by site v (is_hidden site v mode (out-Query q).object) left) ≡ filter seen left
    shown_rows = shown site v keyed store ordered mode (out-Query q).object left (each_filter (λ (r : Row). r.object ≡ (out-Query q).object) (sifts known) rows own)

    abbrev showing : List Row → Inquiry Gathered
    showing some = and_then (shown_by site v (is_hidden site v mode (out-Query q).object) (filter (sifts some) rows)) (λ found. Done (record { rows = found; known = some }))

    gathered_is : of_store store (gather site v mode binds q further test) ≡ record { rows = filter seen left; known = known }
    gathered_is =
        behind store (rows_for v (out-Query q).object question) (sifted site v mode binds q test)
        ∙ behind store (read_parents site v (out-Query q).object (parents_of q) rows []) showing
        ∙ behind store (shown_by site v (is_hidden site v mode (out-Query q).object) left) (λ found. Done (record { rows = found; known = known }))
        ∙ ap (λ (found : List Row). record { rows = found; known = known }) shown_rows

    rows_meant : filter seen left ≡ filter (λ (r : Row). test r && meets q r) (of_object (out-Query q).object whole)
    rows_meant =
        ap (filter seen) left_is ∙ filter_filter seen (sifts whole) (of_object (out-Query q).object whole)
        ∙ filter_like (λ (r : Row). sifts whole r && seen r) (λ (r : Row). test r && meets q r)
        (λ r. regrouped (test r) (holds binds (path_value site.schema whole r) (out-Query q).cond) (seen r)) (of_object (out-Query q).object whole)

    pub gathers : Gathers q test (of_store store (gather site v mode binds q further test))
    gathers =
        subst (Gathers q test) (sym gathered_is)
        (record { rows_are = rows_meant; knows = each_filter (Knows q known) seen left (each_filter (Knows q known) (sifts known) rows agree) })

  -- ---- in their order, and cut

  abbrev pub cut_whole : Query → List Row → List Row
  cut_whole q rows = limited (count_of binds (out-Query q).limit) (skipped (count_of binds (out-Query q).offset) (sorted (row_cmp (path_value site.schema whole) (out-Query q).keys) rows))

  of_keys : (q : Query) (known : List Row) (r : Row) → Knows q known r → Agree (path_value site.schema known r) (path_value site.schema whole r) (map (λ (k : SortKey). k.path) (out-Query q).keys)
  of_keys q some r h =
      agree_right _ _ (cond_paths (out-Query q).cond) (map (λ (k : SortKey). k.path) (out-Query q).keys)
      (agree_right _ _ (out-Query q).paths (cond_paths (out-Query q).cond ++ map (λ (k : SortKey). k.path) (out-Query q).keys) h)

  pub cut_same : (q : Query) (known rows : List Row) → Each (Knows q known) rows → cut site v mode binds q known rows ≡ cut_whole q rows
  cut_same q known rows h =
      ap (λ (some : List Row). limited (count_of binds (out-Query q).limit) (skipped (count_of binds (out-Query q).offset) some))
      (sorted_same (row_cmp (path_value site.schema known) (out-Query q).keys) (row_cmp (path_value site.schema whole) (out-Query q).keys) (Knows q known)
      (λ a b h k. cmp_same (path_value site.schema known) (path_value site.schema whole) (out-Query q).keys a b (of_keys q known a h) (of_keys q known b k)) rows h)

  pub cells_same : (q : Query) (known : List Row) (r : Row) → Knows q known r →
      cells_over site v mode binds q known r ≡ parent_cells site.schema (row_share site.schema) whole binds mode site.ticket.user q r
  cells_same q known r h =
      map_paths (path_value site.schema known r) (path_value site.schema whole r) _ (out-Query q).paths
      (agree_left _ _ (out-Query q).paths (cond_paths (out-Query q).cond ++ map (λ (k : SortKey). k.path) (out-Query q).keys) h)
