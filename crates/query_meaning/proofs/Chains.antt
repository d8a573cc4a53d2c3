-- The parents of a query in their order: each stands behind those on its way, and each way of a path ends at one.
use Rattle.std.proofs.Common.{◌≡◌, refl, ap, sym, subst, ◌∙◌, inl, inr, ℕ, Bool, true, false, cond, List, [], ◌∷◌, ◌++◌, append_assoc, append-nil}
use Rattle.std.specs.Prelude.{◌||◌, ◌⊎◌, eqb, bytes_eq}
use Rattle.std.specs.List.{AllByRecursion, list_any, flat_map}
use Rattle.std.proofs.lemmas.Bool.{eqb-true}
use Rattle.apex_rows.specs.declared.query.Path.{Path}
use Rattle.query_meaning.specs.Parents.{followed, same_path, each_once}
use Rattle.query_meaning.proofs.Maps.{clash, same_id}
use Rattle.query_meaning.proofs.Conds.{both_true}

-- one of these is the parent at the end of a way
abbrev pub Among : List Path → List ℕ → Type 0
Among [] fs = ⊥
Among (d ∷ ds) fs = (d.parents ++ d.field ∷ [] ≡ fs) ⊎ Among ds fs

abbrev pub Stands : List Path → List ℕ → Type 0
Stands done fs = (fs ≡ []) ⊎ Among done fs

-- behind some, each stands behind those on its way
abbrev pub Chain : List Path → List Path → Type 0
Chain done [] = Unit {0}
Chain done (p ∷ ps) = Stands done p.parents × Chain (done ++ p ∷ []) ps

among_left : (a b : List Path) (fs : List ℕ) → Among a fs → Among (a ++ b) fs
among_left [] b fs m = absurd m
among_left (d ∷ ds) b fs (inl e) = inl e
among_left (d ∷ ds) b fs (inr m) = inr (among_left ds b fs m)

among_right : (a b : List Path) (fs : List ℕ) → Among b fs → Among (a ++ b) fs
among_right [] b fs m = m
among_right (d ∷ ds) b fs m = inr (among_right ds b fs m)

among_split : (a b : List Path) (fs : List ℕ) → Among (a ++ b) fs → Among a fs ⊎ Among b fs
among_split [] b fs m = inr m
among_split (d ∷ ds) b fs (inl e) = inl (inl e)
among_split (d ∷ ds) b fs (inr m) = by (among_split ds b fs m) where
  by : Among ds fs ⊎ Among b fs → Among (d ∷ ds) fs ⊎ Among b fs
  by (inl k) = inl (inr k)
  by (inr k) = inr k

among_last : (a : List Path) (p : Path) → Among (a ++ p ∷ []) (p.parents ++ p.field ∷ [])
among_last a p = among_right a (p ∷ []) (p.parents ++ p.field ∷ []) (inl refl)

stands_by : (a b : List Path) → ((fs : List ℕ) → Among a fs → Among b fs) → (fs : List ℕ) → Stands a fs → Stands b fs
stands_by a b f fs (inl e) = inl e
stands_by a b f fs (inr m) = inr (f fs m)

with_last : (a b : List Path) (p : Path) → ((fs : List ℕ) → Among a fs → Among b fs) → (fs : List ℕ) → Among (a ++ p ∷ []) fs → Among (b ++ p ∷ []) fs
with_last a b p f fs m = by (among_split a (p ∷ []) fs m) where
  by : Among a fs ⊎ Among (p ∷ []) fs → Among (b ++ p ∷ []) fs
  by (inl k) = among_left b (p ∷ []) fs (f fs k)
  by (inr k) = among_right b (p ∷ []) fs k

chain_by : (a b : List Path) → ((fs : List ℕ) → Among a fs → Among b fs) → (ps : List Path) → Chain a ps → Chain b ps
chain_by a b f [] h = tt
chain_by a b f (p ∷ ps) h = (stands_by a b f p.parents h.0, chain_by (a ++ p ∷ []) (b ++ p ∷ []) (with_last a b p f) ps h.1)

-- ---- each once

there_already : (p : Path) (before : List Path) → list_any (same_path p) before ≡ true → Among before (p.parents ++ p.field ∷ [])
there_already p [] h = absurd (clash (sym h))
there_already p (d ∷ ds) h = by (same_path p d) refl h (there_already p ds) where
  by : (b : Bool) → same_path p d ≡ b → (b || list_any (same_path p) ds) ≡ true → (list_any (same_path p) ds ≡ true → Among ds (p.parents ++ p.field ∷ [])) → Among (d ∷ ds) (p.parents ++ p.field ∷ [])
  by true e k more =
      let same = both_true (bytes_eq p.parents d.parents) (eqb p.field d.field) e in
      inl (ap (λ (fs : List ℕ). fs ++ d.field ∷ []) (sym (same_id p.parents d.parents same.0)) ∙ ap (λ f. p.parents ++ f ∷ []) (sym (eqb-true p.field d.field same.1)))
  by false e k more = inr (more k)

-- one that is there already adds nothing
adds_nothing : (p : Path) (before : List Path) → list_any (same_path p) before ≡ true → (fs : List ℕ) → Among (before ++ p ∷ []) fs → Among before fs
adds_nothing p before h fs m = by (among_split before (p ∷ []) fs m) where
  by : Among before fs ⊎ Among (p ∷ []) fs → Among before fs
  by (inl k) = k
  by (inr (inl e)) = subst (Among before) e (there_already p before h)
  by (inr (inr k)) = absurd k

pub once_chain : (before ps : List Path) → Chain before ps → Chain before (each_once before ps)
once_chain before [] h = tt
once_chain before (p ∷ ps) h = by (list_any (same_path p) before) refl (λ b. once_chain b ps) where
  by : (b : Bool) → list_any (same_path p) before ≡ b → ((some : List Path) → Chain some ps → Chain some (each_once some ps)) →
      Chain before (cond b (each_once before ps) (p ∷ each_once (before ++ p ∷ []) ps))
  by true e more = more before (chain_by (before ++ p ∷ []) before (adds_nothing p before e) ps h.1)
  by false e more = (h.0, more (before ++ p ∷ []) h.1)

pub once_all : (before ps : List Path) (fs : List ℕ) → Among (before ++ ps) fs → Among (before ++ each_once before ps) fs
once_all before [] fs m = m
once_all before (p ∷ ps) fs m = by (list_any (same_path p) before) refl (λ b. once_all b ps fs) where
  without : list_any (same_path p) before ≡ true → Among before fs ⊎ Among (p ∷ ps) fs → Among (before ++ ps) fs
  without e (inl k) = among_left before ps fs k
  without e (inr (inl q)) = among_left before ps fs (subst (Among before) q (there_already p before e))
  without e (inr (inr k)) = among_right before ps fs k

  by : (b : Bool) → list_any (same_path p) before ≡ b → ((some : List Path) → Among (some ++ ps) fs → Among (some ++ each_once some ps) fs) →
      Among (before ++ cond b (each_once before ps) (p ∷ each_once (before ++ p ∷ []) ps)) fs
  by true e more = more before (without e (among_split before (p ∷ ps) fs m))
  by false e more =
      subst (λ ds. Among ds fs) (append_assoc before (p ∷ []) (each_once (before ++ p ∷ []) ps))
      (more (before ++ p ∷ []) (subst (λ ds. Among ds fs) (sym (append_assoc before (p ∷ []) ps)) m))

-- ---- the ways of paths

chain_followed : (done : List Path) (pre fs : List ℕ) (rest : List Path) → Stands done pre → Chain (done ++ followed pre fs) rest → Chain done (followed pre fs ++ rest)
chain_followed done pre [] rest s h = subst (λ ds. Chain ds rest) (append-nil done) h
chain_followed done pre (f ∷ fs) rest s h = (
  s,
  chain_followed (done ++ record { parents = pre; field = f } ∷ []) (pre ++ f ∷ []) fs rest (inr (among_last done (record { parents = pre; field = f })))
      (subst (λ ds. Chain ds rest) (sym (append_assoc done (record { parents = pre; field = f } ∷ []) (followed (pre ++ f ∷ []) fs))) h),
)

pub chain_ways : (done paths : List Path) → Chain done (flat_map (λ (q : Path). followed [] q.parents) paths)
chain_ways done [] = tt
chain_ways done (q ∷ qs) = chain_followed done [] q.parents (flat_map (λ (q : Path). followed [] q.parents) qs) (inl refl) (chain_ways (done ++ followed [] q.parents) qs)

last_followed : (pre fs : List ℕ) → (fs ≡ []) ⊎ Among (followed pre fs) (pre ++ fs)
last_followed pre [] = inl refl
last_followed pre (f ∷ []) = inr (inl refl)
last_followed pre (f ∷ g ∷ fs) = by (last_followed (pre ++ f ∷ []) (g ∷ fs)) where
  full : (g ∷ fs) ≡ [] → ⊥
  full e = absurd (cc)

  by : ((g ∷ fs) ≡ []) ⊎ Among (followed (pre ++ f ∷ []) (g ∷ fs)) ((pre ++ f ∷ []) ++ g ∷ fs) → ((f ∷ g ∷ fs) ≡ []) ⊎ Among (followed pre (f ∷ g ∷ fs)) (pre ++ f ∷ g ∷ fs)
  by (inl e) = absurd (full e)
  by (inr m) = inr (inr (subst (Among (followed (pre ++ f ∷ []) (g ∷ fs))) (append_assoc pre (f ∷ []) (g ∷ fs)) m))

stand_more : (a : List Path) (b : List Path) (paths : List Path) → AllByRecursion (λ (q : Path). Stands b q.parents) paths → AllByRecursion (λ (q : Path). Stands (a ++ b) q.parents) paths
stand_more a b [] h = tt
stand_more a b (q ∷ qs) h = (stands_by b (a ++ b) (among_right a b) q.parents h.0, stand_more a b qs h.1)

pub all_stand : (paths : List Path) → AllByRecursion (λ (q : Path). Stands (flat_map (λ (q : Path). followed [] q.parents) paths) q.parents) paths
all_stand [] = tt
all_stand (q ∷ qs) = (
  stands_by (followed [] q.parents) (followed [] q.parents ++ flat_map (λ (q : Path). followed [] q.parents) qs) (among_left (followed [] q.parents) (flat_map (λ (q : Path). followed [] q.parents) qs)) q.parents (last_followed [] q.parents),
  stand_more (followed [] q.parents) (flat_map (λ (q : Path). followed [] q.parents) qs) qs (all_stand qs),
)

pub stand_once : (ps paths : List Path) → AllByRecursion (λ (q : Path). Stands ps q.parents) paths → AllByRecursion (λ (q : Path). Stands (each_once [] ps) q.parents) paths
stand_once ps [] h = tt
stand_once ps (q ∷ qs) h = (stands_by ps (each_once [] ps) (once_all [] ps) q.parents h.0, stand_once ps qs h.1)
