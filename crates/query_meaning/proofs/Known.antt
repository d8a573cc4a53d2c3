-- Behind the questions for its parents a query has the values of its paths as on the whole store.
use Rattle.std.proofs.Common.{◌≡◌, refl, ap, sym, subst, inl, inr, ℕ, List, [], ◌∷◌, ◌++◌, append_assoc, append-nil}
use Rattle.std.specs.List.{AllByRecursion, flat_map}
use Rattle.apex_rows.specs.declared.query.Path.{Path}
use Rattle.apex_rows.specs.declared.query.Query.{Query}
use Rattle.apex_rows.specs.declared.row.Row.{Row}
use Rattle.row_meaning.specs.Overlays.{Overlay, over}
use Rattle.row_meaning.specs.Queries.{end_cell, path_value}
use Rattle.row_meaning.specs.Stores.{AllRows}
use Rattle.save_meaning.specs.Counts.{IsKeyed}
use Rattle.save_meaning.specs.Sites.{Site}
use Rattle.store_inquiries.specs.Inquiries.{of_store}
use Rattle.store_inquiries.proofs.Inquiring.{behind}
use Rattle.query_meaning.specs.Parents.{followed, paths_of, parents_of, object_over}
use Rattle.query_meaning.specs.Queries.{read_parent, read_parents}
use Rattle.query_meaning.proofs.Maps.{none_is, InOrder}
use Rattle.query_meaning.proofs.Seen.{Each}
use Rattle.query_meaning.proofs.Conds.{Agree}
use Rattle.query_meaning.proofs.Overs.{Below}
use Rattle.query_meaning.proofs.Readings.{Resolved, stay, read, Reads, reads_parent}
use Rattle.query_meaning.proofs.Chains.{Among, Stands, Chain, once_chain, chain_ways, all_stand, stand_once}

-- what holds for each path of each row holds for each row of each path
swapped : (of : Path → Row → Type 0) (paths : List Path) (rows : List Row) → AllByRecursion (λ (p : Path). Each (of p) rows) paths → Each (λ (r : Row). AllByRecursion (λ (p : Path). of p r) paths) rows
swapped of [] rows h = nothing rows where
  nothing : (rows : List Row) → Each (λ (r : Row). Unit {0}) rows
  nothing [] = tt
  nothing (r ∷ rows) = (tt, nothing rows)
swapped of (p ∷ ps) rows h = joined rows h.0 (swapped of ps rows h.1) where
  joined : (rows : List Row) → Each (of p) rows → Each (λ (r : Row). AllByRecursion (λ (q : Path). of q r) ps) rows → Each (λ (r : Row). AllByRecursion (λ (q : Path). of q r) (p ∷ ps)) rows
  joined [] h k = tt
  joined (r ∷ rows) h k = ((h.0, k.0), joined rows h.1 k.1)

module _ (site : Site) (v : Overlay) (keyed : IsKeyed v) (store : List Row) (ordered : InOrder store) (all : AllRows site.schema store) (object : ℕ) (rows : List Row) (own : Each (λ (r : Row). r.object ≡ object) rows) where
  abbrev whole : List Row
  whole = over store v

  abbrev At : List Row → List ℕ → Type 0
  At known fs = Resolved site v keyed store ordered all object known fs rows

  abbrev AllAt : List Row → List Path → Type 0
  AllAt known done = AllByRecursion (λ (d : Path). At known (d.parents ++ d.field ∷ [])) done

  no_way : (known some : List Row) → Resolved site v keyed store ordered all object known [] some
  no_way known [] = tt
  no_way known (r ∷ some) = (refl, no_way known some)

  at_among : (known : List Row) (done : List Path) (fs : List ℕ) → Among done fs → AllAt known done → At known fs
  at_among known [] fs m h = absurd m
  at_among known (d ∷ ds) fs (inl e) h = subst (At known) e h.0
  at_among known (d ∷ ds) fs (inr m) h = at_among known ds fs m h.1

  at_standing : (known : List Row) (done : List Path) (fs : List ℕ) → Stands done fs → AllAt known done → At known fs
  at_standing known done fs (inl e) h = subst (At known) (sym e) (no_way known rows)
  at_standing known done fs (inr m) h = at_among known done fs m h

  all_stay : (known later : List Row) → Below known later → Below later whole → (done : List Path) → AllAt known done → AllAt later done
  all_stay known later b w [] h = tt
  all_stay known later b w (d ∷ ds) h = (stay site v keyed store ordered all object known later b w (d.parents ++ d.field ∷ []) rows h.0, all_stay known later b w ds h.1)

  and_last : (known : List Row) (done : List Path) (p : Path) → AllAt known done → At known (p.parents ++ p.field ∷ []) → AllAt known (done ++ p ∷ [])
  and_last known [] p h k = (k, tt)
  and_last known (d ∷ ds) p h k = (h.0, and_last known ds p h.1 k)

  abbrev Knows : List Path → List Row → Type 0
  Knows done known = Below known whole × AllAt known done

  reads_all : (done ps : List Path) (known : List Row) → Chain done ps → Knows done known → Knows (done ++ ps) (of_store store (read_parents site v object ps rows known))
  reads_all done [] known c h = subst (λ ds. Knows ds known) (sym (append-nil done)) h
  reads_all done (p ∷ ps) known c h =
      subst (Knows (done ++ p ∷ ps)) (sym (behind store (read_parent site v (object_over site.schema object p) p rows known) (read_parents site v object ps rows)))
      (subst (λ ds. Knows ds (of_store store (read_parents site v object ps rows later))) (append_assoc done (p ∷ []) ps)
      (reads_all (done ++ p ∷ []) ps later c.1 (step.below, and_last later done p (all_stay known later step.grown step.below done h.1) step.resolved))) where
        later : List Row
        later = read site v keyed store ordered all object p rows known

        step : Reads site v keyed store ordered all object rows known p
        step = reads_parent site v keyed store ordered all object rows known p own h.0 (at_standing known done p.parents c.0 h.1)

  module _ (q : Query) where
    abbrev pub known_of : List Row
    known_of = of_store store (read_parents site v object (parents_of q) rows [])

    knows : Knows (parents_of q) known_of
    knows = reads_all [] (parents_of q) [] (once_chain [] (flat_map (λ (p : Path). followed [] p.parents) (paths_of q)) (chain_ways [] (paths_of q))) ((λ i r e. absurd (none_is r e)), tt)

    ends : (p : Path) (some : List Row) → Resolved site v keyed store ordered all object known_of p.parents some → Each (λ (r : Row). path_value site.schema known_of r p ≡ path_value site.schema whole r p) some
    ends p [] h = tt
    ends p (r ∷ some) h = (ap (end_cell p.field) h.0, ends p some h.1)

    each_ends : (paths : List Path) → AllByRecursion (λ (p : Path). Stands (parents_of q) p.parents) paths → AllByRecursion (λ (p : Path). Each (λ (r : Row). path_value site.schema known_of r p ≡ path_value site.schema whole r p) rows) paths
    each_ends [] h = tt
    each_ends (p ∷ ps) h = (ends p rows (at_standing known_of (parents_of q) p.parents h.0 knows.1), each_ends ps h.1)

    -- each path of the query has the same value over what is known as on the whole store
    pub paths_agree : Each (λ (r : Row). Agree (path_value site.schema known_of r) (path_value site.schema whole r) (paths_of q)) rows
    paths_agree =
        swapped (λ p r. path_value site.schema known_of r p ≡ path_value site.schema whole r p) (paths_of q) rows
        (each_ends (paths_of q) (stand_once (flat_map (λ (p : Path). followed [] p.parents) (paths_of q)) (paths_of q) (all_stand (paths_of q))))
