-- What a query finds where a store answers is what it means on the whole store as the transaction sees it.
use Rattle.std.proofs.Common.{◌≡◌, refl, ap, sym, ◌∙◌, ℕ, Bool, true, false, List, [], ◌∷◌, map}
use Rattle.std.specs.Prelude.{◌&&◌, filter}
use Rattle.apex_num.specs.declared.cell.Cell.{Cell}
use Rattle.apex_num.specs.declared.cell.Cell.TheVariants.{Id}
use Rattle.apex_schema.specs.declared.schema.Mode.{Mode}
use Rattle.apex_rows.specs.declared.query.Bind.{Bind}
use Rattle.apex_rows.specs.declared.query.Query.{Query}
use Rattle.apex_rows.specs.declared.query.Query.TheViews.{out-Query, out-SubQuery}
use Rattle.apex_rows.specs.declared.query.SubQuery.{SubQuery}
use Rattle.apex_rows.specs.declared.row.Row.{Row}
use Rattle.apex_rows.specs.declared.row.Child.{Child}
use Rattle.apex_rows.specs.declared.row.Found.{Found}
use Rattle.row_meaning.specs.Accesses.{is_id}
use Rattle.row_meaning.specs.Conds.{cell_of, holds_of}
use Rattle.row_meaning.specs.Overlays.{Overlay, over}
use Rattle.row_meaning.specs.Queries.{path_value, row_cmp, count_of, meant, parent_cells, children_of, plain}
use Rattle.row_meaning.specs.Stores.{AllRows, has_id, of_object}
use Rattle.save_meaning.specs.Counts.{IsKeyed}
use Rattle.save_meaning.specs.Inserts.{ids_of}
use Rattle.save_meaning.specs.Sites.{Site}
use Rattle.store_inquiries.specs.Inquiries.{Found as Done, of_store, and_then}
use Rattle.store_inquiries.specs.Questions.{rising, within, row_share}
use Rattle.store_inquiries.proofs.Inquiring.{behind}
use Rattle.query_meaning.specs.Queries.{Gathered, is_among, gather, cut, cells_over, read_under, read_all_under, children_under, found_row, with_children, finding}
use Rattle.query_meaning.proofs.Maps.{clash, InOrder}
use Rattle.query_meaning.proofs.Seen.{Each, each_filter, each_weaker, each_both}
use Rattle.query_meaning.proofs.Asking.{within_holds}
use Rattle.query_meaning.proofs.Orders.{map_same, each_limited, each_skipped, each_sorted}
use Rattle.query_meaning.proofs.Shares.{id_is, each_rising}
use Rattle.query_meaning.proofs.Gathering.{filter_filter, filter_like, Knows, meets, Gathers, gathers, cut_whole, cut_same, cells_same}

-- an Id that names one of these is among them
names_too : (ids : List (List ℕ)) (row : List ℕ) → has_id ids row ≡ true → (c : Cell) → is_id c row ≡ true → is_among ids c ≡ true
names_too ids row h c e = ap (is_among ids) (id_is c row e) ∙ h

among_holds : (field : ℕ) (ids : List (List ℕ)) (c : Row) → is_among ids (cell_of c field) ≡ true → holds_of (within field ids) c ≡ true
among_holds field ids c h = by (cell_of c field) refl h where
  by : (d : Cell) → cell_of c field ≡ d → is_among ids d ≡ true → holds_of (within field ids) c ≡ true
  by (Id i) e k = within_holds field ids c i e ∙ k
  by _ e k = absurd (clash (sym k))

narrowed : (a b i : Bool) → (i ≡ true → a ≡ true) → ((a && b) && i) ≡ (i && b)
narrowed true true true h = refl
narrowed true true false h = refl
narrowed true false true h = refl
narrowed true false false h = refl
narrowed false b true h = absurd (clash (sym (h refl)))
narrowed false b false h = refl

module _ (site : Site) (v : Overlay) (keyed : IsKeyed v) (store : List Row) (ordered : InOrder store) (all : AllRows site.schema store) (mode : Mode) (binds : List Bind) where
  abbrev whole : List Row
  whole = over store v

  abbrev share : ℕ
  share = row_share site.schema

  abbrev knows : Query → List Row → Row → Type 0
  knows q known r = Knows site v keyed store ordered all mode binds q known r

  abbrev gathering : Query → (Row → Bool) → Gathered → Type 0
  gathering q test g = Gathers site v keyed store ordered all mode binds q test g

  abbrev meeting : Query → Row → Bool
  meeting q r = meets site v keyed store ordered all mode binds q r

  each_cut : (q : Query) (known rows : List Row) → Each (knows q known) rows → Each (knows q known) (cut site v mode binds q known rows)
  each_cut q known rows h =
      each_limited (knows q known) (count_of binds (out-Query q).limit) _
      (each_skipped (knows q known) (count_of binds (out-Query q).offset) _ (each_sorted (knows q known) (row_cmp (path_value site.schema known) (out-Query q).keys) rows h))

  -- ---- rows under a row

  abbrev child_whole : Query → Row → Child
  child_whole q c = record { row = c; paths = parent_cells site.schema share whole binds mode site.ticket.user q c }

  module _ (sub : SubQuery) (ids : List (List ℕ)) (g : Gathered) (gs : gathering (out-SubQuery sub).query (λ (c : Row). is_among ids (cell_of c (out-SubQuery sub).lookup)) g) (row : Row) (among : has_id ids row.id ≡ true) where
    abbrev q : Query
    q = (out-SubQuery sub).query

    abbrev names : Row → Bool
    names c = is_id (cell_of c (out-SubQuery sub).lookup) row.id

    abbrev under : List Row
    under = filter names g.rows

    under_is : under ≡ filter (λ (c : Row). names c && meeting q c) (of_object (out-Query q).object whole)
    under_is =
        ap (filter names) gs.rows_are
        ∙ filter_filter names (λ (c : Row). is_among ids (cell_of c (out-SubQuery sub).lookup) && meeting q c) (of_object (out-Query q).object whole)
        ∙ filter_like (λ (c : Row). (is_among ids (cell_of c (out-SubQuery sub).lookup) && meeting q c) && names c) (λ (c : Row). names c && meeting q c)
        (λ c. narrowed (is_among ids (cell_of c (out-SubQuery sub).lookup)) (meeting q c) (names c) (names_too ids row.id among (cell_of c (out-SubQuery sub).lookup)))
        (of_object (out-Query q).object whole)

    under_knows : Each (knows q g.known) under
    under_knows = each_filter (knows q g.known) names g.rows gs.knows

    pub children_are : children_under site v mode binds row (sub, g) ≡ children_of site.schema share whole binds mode site.ticket.user row sub
    children_are =
        map_same (λ (c : Row). record { row = c; paths = cells_over site v mode binds q g.known c }) (child_whole q) (cut site v mode binds q g.known under)
        (each_weaker (knows q g.known) (λ (c : Row). record { row = c; paths = cells_over site v mode binds q g.known c } ≡ child_whole q c)
        (λ c h. ap (λ (cells : List Cell). record { row = c; paths = cells }) (cells_same site v keyed store ordered all mode binds q g.known c h))
        (cut site v mode binds q g.known under) (each_cut q g.known under under_knows))
        ∙ ap (map (child_whole q)) (cut_same site v keyed store ordered all mode binds q g.known under under_knows ∙ ap (cut_whole site v keyed store ordered all mode binds q) under_is)

  -- ---- all subqueries

  abbrev read_of : List (List ℕ) → SubQuery → Gathered
  read_of ids sub = of_store store (read_under site v mode binds sub ids)

  all_under : (subs : List SubQuery) (ids : List (List ℕ)) → of_store store (read_all_under site v mode binds subs ids) ≡ map (λ (sub : SubQuery). (sub, read_of ids sub)) subs
  all_under [] ids = refl
  all_under (sub ∷ subs) ids =
      behind store (read_under site v mode binds sub ids) (λ found. and_then (read_all_under site v mode binds subs ids) (λ more. Done ((sub, found) ∷ more)))
      ∙ behind store (read_all_under site v mode binds subs ids) (λ more. Done ((sub, read_of ids sub) ∷ more))
      ∙ ap (λ (more : List (SubQuery × Gathered)). (sub, read_of ids sub) ∷ more) (all_under subs ids)

  one_under : (row : Row) (ids : List (List ℕ)) → has_id ids row.id ≡ true → (sub : SubQuery) →
      children_under site v mode binds row (sub, read_of ids sub) ≡ children_of site.schema share whole binds mode site.ticket.user row sub
  one_under row [] among sub = absurd (clash (sym among))
  one_under row (i ∷ is) among sub =
      children_are sub (i ∷ is) (read_of (i ∷ is) sub)
      (gathers site v keyed store ordered all mode binds (out-SubQuery sub).query (within (out-SubQuery sub).lookup (i ∷ is) ∷ []) (λ (c : Row). is_among (i ∷ is) (cell_of c (out-SubQuery sub).lookup))
      (λ c h. ap (λ b. b && true) (among_holds (out-SubQuery sub).lookup (i ∷ is) c h)))
      row among

  lists_are : (row : Row) (ids : List (List ℕ)) → has_id ids row.id ≡ true → (subs : List SubQuery) →
      map (children_under site v mode binds row) (map (λ (sub : SubQuery). (sub, read_of ids sub)) subs) ≡ map (children_of site.schema share whole binds mode site.ticket.user row) subs
  lists_are row ids among [] = refl
  lists_are row ids among (sub ∷ subs) =
      ap (λ (cs : List Child). cs ∷ map (children_under site v mode binds row) (map (λ (sub : SubQuery). (sub, read_of ids sub)) subs)) (one_under row ids among sub)
      ∙ ap (λ (lists : List (List Child)). children_of site.schema share whole binds mode site.ticket.user row sub ∷ lists) (lists_are row ids among subs)

  -- ---- the query

  module _ (q : Query) where
    abbrev found_whole : Row → Found
    found_whole r = record {
      row = r;
      paths = parent_cells site.schema share whole binds mode site.ticket.user q r;
      children = map (children_of site.schema share whole binds mode site.ticket.user r) (out-Query q).children;
    }

    abbrev g : Gathered
    g = of_store store (gather site v mode binds q [] (λ (r : Row). true))

    gs : gathering q (λ (r : Row). true) g
    gs = gathers site v keyed store ordered all mode binds q [] (λ (r : Row). true) (λ r h. refl)

    abbrev rows : List Row
    rows = cut site v mode binds q g.known g.rows

    abbrev ids : List (List ℕ)
    ids = rising (ids_of rows)

    abbrev lists_under : List (SubQuery × Gathered)
    lists_under = map (λ (sub : SubQuery). (sub, read_of ids sub)) (out-Query q).children

    row_is : (r : Row) → (knows q g.known r × (has_id ids r.id ≡ true)) → found_row site v mode binds q g.known lists_under r ≡ found_whole r
    row_is r h =
        ap (λ (cells : List Cell). record { row = r; paths = cells; children = map (children_under site v mode binds r) lists_under }) (cells_same site v keyed store ordered all mode binds q g.known r h.0)
        ∙ ap (λ (lists : List (List Child)). record { row = r; paths = parent_cells site.schema share whole binds mode site.ticket.user q r; children = lists }) (lists_are r ids h.1 (out-Query q).children)

    rows_are : rows ≡ meant site.schema share whole binds mode site.ticket.user q (λ (r : Row). true)
    rows_are = cut_same site v keyed store ordered all mode binds q g.known g.rows gs.knows ∙ ap (cut_whole site v keyed store ordered all mode binds q) gs.rows_are

    pub finding_is : of_store store (finding site v mode binds q) ≡ plain site.schema share whole binds mode site.ticket.user q
    finding_is =
        behind store (gather site v mode binds q [] (λ (r : Row). true)) (λ found. with_children site v mode binds q found.known (cut site v mode binds q found.known found.rows))
        ∙ behind store (read_all_under site v mode binds (out-Query q).children ids) (λ under. Done (map (found_row site v mode binds q g.known under) rows))
        ∙ ap (λ (under : List (SubQuery × Gathered)). map (found_row site v mode binds q g.known under) rows) (all_under (out-Query q).children ids)
        ∙ map_same (found_row site v mode binds q g.known lists_under) found_whole rows
        (each_weaker (λ (r : Row). knows q g.known r × (has_id ids r.id ≡ true)) (λ (r : Row). found_row site v mode binds q g.known lists_under r ≡ found_whole r) row_is rows
        (each_both (knows q g.known) (λ (r : Row). has_id ids r.id ≡ true) rows (each_cut q g.known g.rows gs.knows) (each_rising rows)))
        ∙ ap (map found_whole) rows_are
