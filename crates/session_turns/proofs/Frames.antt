-- What a session's calls leave as it is.
use Rattle.std.proofs.Common.{arith, ◌≡◌, inl, inr, refl, sym, ap, subst, ◌∙◌, ℕ, zero, suc, ◌+◌, eqb, cond, Bool, true, false, List, [], ◌∷◌, Option, None, Some}
use Rattle.std.specs.Prelude.{slice_get, slice_set, bytes_eq, ◌||◌}
use Rattle.std.proofs.lemmas.Bool.{eq-eqb, eqb-true, or_parts}
use Rattle.std.proofs.lemmas.Slice.Eq.{bytes_eq-Decides}
use Rattle.apex_requests.specs.declared.reply.EventKind.{EventKind}
use Rattle.apex_rows.specs.declared.row.Row.{Row}
use Rattle.apex_rows.specs.declared.row.Writes.{Writes}
use Rattle.record_store.specs.Heaps.{rows_in}
use Rattle.row_locks.specs.Holders.{Holders, NoneHeld, but}
use Rattle.row_locks.specs.Locks.{holder_of}
use Rattle.row_meaning.specs.Stores.{has_id, put_all, taken, without}
use Rattle.legal_trails.specs.Legal.{Open, Session, closing, is_any, is_by, some_writes, tell, tell_from, told}
use Rattle.tenant_shards.specs.declared.change.Change.{Change}
use Rattle.tenant_shards.specs.declared.change.Change.TheVariants.{Starts, Grabs, Restarts, Closes}
use Rattle.tenant_shards.specs.Changes.{changed}
use Rattle.tenant_shards.specs.Shards.{Happens, IsSession, Keeps, OthersStay, Shared, freed, holding}
use Rattle.tenant_shards.specs.Tenants.{sessions_at, sessions_in}
use Rattle.session_turns.specs.Calls.{Beside, IsUndisturbed, but_news}

-- ---- sessions

pub set_same : (ss : List Session) (s : ℕ) (at now : Session) → slice_get ss s ≡ Some at → slice_get (slice_set ss s now) s ≡ Some now
set_same [] s at now e = absurd (none_some e) where
  none_some : {A : Type 0} {a : A} → ◌≡◌ {A = Option A} None (Some a) → ⊥
  none_some e = cc
set_same (x ∷ ss) zero at now e = refl
set_same (x ∷ ss) (suc s) at now e = set_same ss s at now e

set_else : (ss : List Session) (s t : ℕ) (now : Session) → (t ≡ s → ⊥) → slice_get (slice_set ss s now) t ≡ slice_get ss t
set_else [] s t now n = refl
set_else (x ∷ ss) zero zero now n = absurd (n refl)
set_else (x ∷ ss) zero (suc t) now n = refl
set_else (x ∷ ss) (suc s) zero now n = refl
set_else (x ∷ ss) (suc s) (suc t) now n = set_else ss s t now (λ e. n (ap suc e))

-- the one that wrote is told nothing
tell_from_at : (s n : ℕ) (ss : List Session) (k : ℕ) → n + k ≡ s → slice_get (tell_from s n ss) k ≡ slice_get ss k
tell_from_at s n [] k e = refl
tell_from_at s n (x ∷ ss) zero e = ap (λ b. Some (cond b x (record x { running = told x.running }))) (eq-eqb n s (omega (arith, e)))
tell_from_at s n (x ∷ ss) (suc k) e = tell_from_at s (suc n) ss k (omega (arith, e))

pub tell_at : (wrote : Bool) (s : ℕ) (ss : List Session) → slice_get (tell wrote s ss) s ≡ slice_get ss s
tell_at true s ss = tell_from_at s 0 ss s (omega arith)
tell_at false s ss = refl

-- the others hear news, and nothing else
pub told_twice : (o : Option Open) → told (told o) ≡ told o
told_twice None = refl
told_twice (Some o) = refl

apart : (a b : ℕ) → (a ≡ b → ⊥) → eqb a b ≡ false
apart a b n = by (eqb a b) refl where
  by : (c : Bool) → eqb a b ≡ c → eqb a b ≡ false
  by true e = absurd (n (eqb-true a b e))
  by false e = e

tell_from_else : (s n : ℕ) (ss : List Session) (k : ℕ) → (n + k ≡ s → ⊥) → slice_get (tell_from s n ss) k ≡ but_news (slice_get ss k)
tell_from_else s n [] k ne = refl
tell_from_else s n (x ∷ ss) zero ne = ap (λ b. Some (cond b x (record x { running = told x.running }))) (apart n s (λ e. ne (omega (arith, e))))
tell_from_else s n (x ∷ ss) (suc k) ne = tell_from_else s (suc n) ss k (λ e. ne (omega (arith, e)))

-- ---- rows that nothing is written of

none_any : {A : Type 0} (xs : List A) → is_any xs ≡ false → xs ≡ []
none_any [] e = refl
none_any (x ∷ xs) e = absurd (true_false e) where
  true_false : true ≡ false → ⊥
  true_false e = cc

without_none : (rows : List Row) → without [] rows ≡ rows
without_none [] = refl
without_none (r ∷ rows) = ap (λ more. r ∷ more) (without_none rows)

pub none_taken : (w : Writes) (rows : List Row) → some_writes w ≡ false → taken w rows ≡ rows
none_taken w rows e =
    let parts = or_parts (is_any w.puts) (is_any w.drops) e in
    ap (λ drops. without drops (put_all w.puts rows)) (none_any w.drops parts.1) ∙ without_none (put_all w.puts rows) ∙ ap (λ puts. put_all puts rows) (none_any w.puts parts.0)

-- ---- holders

pub but_twice : (s : ℕ) (o : Option ℕ) → but s (but s o) ≡ but s o
but_twice s None = refl
but_twice s (Some h) = by (eqb h s) refl where
  by : (b : Bool) → eqb h s ≡ b → but s (cond (eqb h s) None (Some h)) ≡ cond (eqb h s) None (Some h)
  by true e = subst (λ b. but s (cond b None (Some h)) ≡ cond b None (Some h)) (sym e) refl
  by false e = subst (λ b. but s (cond b None (Some h)) ≡ cond b None (Some h)) (sym e) (ap (λ b. cond b None (Some h)) e)

pub not_own : (s : ℕ) (o : Option ℕ) → is_by s (but s o) ≡ false
not_own s None = refl
not_own s (Some h) = by (eqb h s) refl where
  by : (b : Bool) → eqb h s ≡ b → is_by s (cond (eqb h s) None (Some h)) ≡ false
  by true e = ap (λ b. is_by s (cond b None (Some h))) e
  by false e = ap (λ b. is_by s (cond b None (Some h))) e ∙ e

but_own : (s : ℕ) → but s (Some s) ≡ None
but_own s = ap (λ b. cond b None (Some s)) (eq-eqb s s refl)

-- another session holds no row of the list
same_or_later : (held : Holders) (s : ℕ) (i id : List ℕ) (more : Bool) (b : Bool) → bytes_eq i id ≡ b → but s (held i) ≡ None → (more ≡ true → but s (held id) ≡ None) → (b || more) ≡ true → but s (held id) ≡ None
same_or_later held s i id more true f h later e = ap (λ x. but s (held x)) (sym ((bytes_eq-Decides i id).0 f)) ∙ h
same_or_later held s i id more false f h later e = later e

none_has : (held : Holders) (s : ℕ) (ids : List (List ℕ)) (id : List ℕ) → NoneHeld held s ids → has_id ids id ≡ true → but s (held id) ≡ None
none_has held s [] id h e = absurd (false_true e) where
  false_true : false ≡ true → ⊥
  false_true e = cc
none_has held s (i ∷ ids) id h e = same_or_later held s i id (has_id ids id) (bytes_eq i id) refl h.0 (none_has held s ids id h.1) e

pub but_holding : (held : Holders) (s : ℕ) (ids : List (List ℕ)) → NoneHeld held s ids → (id : List ℕ) → but s (holding s ids held id) ≡ but s (held id)
but_holding held s ids h id = by (has_id ids id) refl where
  by : (b : Bool) → has_id ids id ≡ b → but s (cond (has_id ids id) (Some s) (held id)) ≡ but s (held id)
  by true e = ap (λ b. but s (cond b (Some s) (held id))) e ∙ but_own s ∙ sym (none_has held s ids id h e)
  by false e = ap (λ b. but s (cond b (Some s) (held id))) e

pub but_freed : (held : Holders) (s : ℕ) (id : List ℕ) → but s (freed s held id) ≡ but s (held id)
but_freed held s id = but_twice s (held id)

-- a session that isn't the one
pub is_by_but : (s t : ℕ) (o : Option ℕ) → (t ≡ s → ⊥) → is_by t (but s o) ≡ is_by t o
is_by_but s t None n = refl
is_by_but s t (Some h) n = by (eqb h s) refl where
  by : (b : Bool) → eqb h s ≡ b → is_by t (cond (eqb h s) None (Some h)) ≡ eqb h t
  by true e = ap (λ b. is_by t (cond b None (Some h))) e ∙ sym (apart h t (λ q. n (sym q ∙ eqb-true h s e)))
  by false e = ap (λ b. is_by t (cond b None (Some h))) e

pub holds_still : (tenant s t : ℕ) (a b : Shared) → Beside tenant s a b → (t ≡ s → ⊥) → (id : List ℕ) → is_by t (holder_of tenant b.locks id) ≡ is_by t (holder_of tenant a.locks id)
holds_still tenant s t a b h n id = sym (is_by_but s t (holder_of tenant b.locks id) n) ∙ ap (is_by t) (h.held id) ∙ is_by_but s t (holder_of tenant a.locks id) n

-- ---- calls one after the other

news_twice : (o : Option Session) → but_news (but_news o) ≡ but_news o
news_twice None = refl
news_twice (Some x) = ap (λ r. Some (record x { running = r })) (told_twice x.running)

module _ (tenant s : ℕ) where
  pub first : (a : Shared) → Beside tenant s a a
  first a = record {
    keeps = record { part = refl; order = refl; others = record { kept = λ other n. refl; rows = λ other n. refl; held = λ other n id. refl; trail = λ other n. refl } };
    sessions = λ t n. inl (refl, refl);
    held = λ id. refl;
  }

  others_then : (a b c : Shared) → OthersStay tenant a b → OthersStay tenant b c → OthersStay tenant a c
  others_then a b c x y = record {
    kept = λ other n. y.kept other n ∙ x.kept other n;
    rows = λ other n. y.rows other n ∙ x.rows other n;
    held = λ other n id. y.held other n id ∙ x.held other n id;
    trail = λ other n. y.trail other n ∙ x.trail other n;
  }

  undisturbed : (t : ℕ) (a b c : Shared) → IsUndisturbed tenant t a b → IsUndisturbed tenant t b c → IsUndisturbed tenant t a c
  undisturbed t a b c (inl x) (inl y) = inl (y.0 ∙ x.0, y.1 ∙ x.1)
  undisturbed t a b c (inl x) (inr y) = inr (y ∙ ap but_news x.0)
  undisturbed t a b c (inr x) (inl y) = inr (y.0 ∙ x)
  undisturbed t a b c (inr x) (inr y) = inr (y ∙ ap but_news x ∙ news_twice (slice_get (sessions_at tenant a.tenants) t))

  pub then : (a b c : Shared) → Beside tenant s a b → Beside tenant s b c → Beside tenant s a c
  then a b c x y = record {
    keeps = record { part = y.keeps.part ∙ x.keeps.part; order = y.keeps.order ∙ x.keeps.order; others = others_then a b c x.keeps.others y.keeps.others };
    sessions = λ t n. undisturbed t a b c (x.sessions t n) (y.sessions t n);
    held = λ id. y.held id ∙ x.held id;
  }

  -- a call of a session that is there
  there : (a : Shared) (is : IsSession a tenant s) → slice_get (sessions_at tenant a.tenants) s ≡ Some is.at
  there a is = ap (λ k. slice_get (sessions_in k) s) is.is_kept ∙ is.is_session

  module _ (a b : Shared) (is : IsSession a tenant s) (kind : EventKind) (keeps : Keeps tenant a b) where
    -- the session alone is changed
    stays : (how : Change) (now : Session) (held : Holders) → changed how s (sessions_at tenant a.tenants) is.at ≡ slice_set (sessions_at tenant a.tenants) s now → Happens tenant s kind how (rows_in tenant a.rows) held a b → (t : ℕ) → (t ≡ s → ⊥) → IsUndisturbed tenant t a b
    stays how now held e h t n = inl (ap (λ ss. slice_get ss t) (h.sessions is.at (there a is) ∙ e) ∙ set_else (sessions_at tenant a.tenants) s t now n, h.rows)

    pub grants : (ids : List (List ℕ)) → NoneHeld (holder_of tenant a.locks) s ids → Happens tenant s kind Grabs (rows_in tenant a.rows) (holding s ids (holder_of tenant a.locks)) a b → Beside tenant s a b
    grants ids none h = record { keeps = keeps; sessions = stays Grabs _ _ refl h; held = λ id. ap (but s) (h.held id) ∙ but_holding (holder_of tenant a.locks) s ids none id }

    pub starts : Happens tenant s kind Starts (rows_in tenant a.rows) (holder_of tenant a.locks) a b → Beside tenant s a b
    starts h = record { keeps = keeps; sessions = stays Starts _ _ refl h; held = λ id. ap (but s) (h.held id) }

    pub restarts : Happens tenant s kind Restarts (rows_in tenant a.rows) (freed s (holder_of tenant a.locks)) a b → Beside tenant s a b
    restarts h = record { keeps = keeps; sessions = stays Restarts _ _ refl h; held = λ id. ap (but s) (h.held id) ∙ but_freed (holder_of tenant a.locks) s id }

    pub refuses : Happens tenant s kind (Closes false) (rows_in tenant a.rows) (freed s (holder_of tenant a.locks)) a b → Beside tenant s a b
    refuses h = record { keeps = keeps; sessions = stays (Closes false) _ _ refl h; held = λ id. ap (but s) (h.held id) ∙ but_freed (holder_of tenant a.locks) s id }

    closed_beside : (w : Writes) (wrote : Bool) → some_writes w ≡ wrote → Happens tenant s kind (Closes wrote) (taken w (rows_in tenant a.rows)) (freed s (holder_of tenant a.locks)) a b → (t : ℕ) → (t ≡ s → ⊥) → IsUndisturbed tenant t a b
    closed_beside w true e h t n =
        inr (ap (λ ss. slice_get ss t) (h.sessions is.at (there a is)) ∙ tell_from_else s 0 (slice_set (sessions_at tenant a.tenants) s (closing is.at)) t (λ e. n (omega (arith, e))) ∙ ap but_news (set_else (sessions_at tenant a.tenants) s t (closing is.at) n))
    closed_beside w false e h t n =
        inl (ap (λ ss. slice_get ss t) (h.sessions is.at (there a is)) ∙ set_else (sessions_at tenant a.tenants) s t (closing is.at) n, h.rows ∙ none_taken w (rows_in tenant a.rows) e)

    pub ends : (w : Writes) → Happens tenant s kind (Closes (some_writes w)) (taken w (rows_in tenant a.rows)) (freed s (holder_of tenant a.locks)) a b → Beside tenant s a b
    ends w h = record { keeps = keeps; sessions = closed_beside w (some_writes w) refl h; held = λ id. ap (but s) (h.held id) ∙ but_freed (holder_of tenant a.locks) s id }
