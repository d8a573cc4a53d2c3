-- Shards: what is kept of tenants, and how their calls change it (docs/platform.md, "Shards").
use Rattle.std.specs.Prelude.{◌≡◌, ℕ, ◌<◌, false, cond, List, [], ◌∷◌, ◌++◌, length, slice_get, map, replicate, None, Some}
use Rattle.apex_requests.specs.declared.reply.EventKind.{EventKind}
use Rattle.apex_requests.specs.declared.reply.EventKind.TheVariants.{Start, Grab, Refuse, Restart, End}
use Rattle.apex_requests.specs.declared.reply.Reply.{Reply}
use Rattle.apex_rows.specs.declared.query.Answer.{Answer}
use Rattle.apex_rows.specs.declared.query.Question.TheVariants.{Grab as GrabOf}
use Rattle.apex_rows.specs.declared.row.Row.{Row}
use Rattle.apex_rows.specs.declared.row.Writes.{Writes}
use Rattle.record_store.specs.Heaps.{Heap, rows_in}
use Rattle.row_locks.specs.Holders.{FirstHeld, Holders, NoneHeld, but}
use Rattle.row_locks.specs.Locks.{Locked, holder_of}
use Rattle.row_meaning.specs.Stores.{has_id, taken}
use Rattle.tenant_parts.specs.declared.part.TenantPart.{TenantPart}
use Rattle.session_states.specs.States.{fresh}
use Rattle.legal_trails.specs.Legal.{LegalTo, Open, SameReply, Session, State, all_ids, holder, is_by, some_writes}
use Rattle.tenant_trails.specs.Runs.{Asks, Ends, Run, grabs_on}
use Rattle.tenant_shards.specs.declared.change.Change.{Change}
use Rattle.tenant_shards.specs.declared.change.Change.TheVariants.{Starts, Grabs, Restarts, Closes}
use Rattle.tenant_shards.specs.declared.kept.Entry.{Entry}
use Rattle.tenant_shards.specs.declared.kept.Kept.{Kept}
use Rattle.tenant_shards.specs.declared.log.Log.{Log}
use Rattle.tenant_shards.specs.declared.shard.Ended.{Ended}
use Rattle.tenant_shards.specs.declared.shard.Grabbed.{Grabbed}
use Rattle.tenant_shards.specs.Changes.{changed}
use Rattle.tenant_shards.specs.Logs.{IsCurrent, IsLogOf, IsStale}
use Rattle.tenant_shards.specs.Parts.{counts_of, seeded, tenant_of}
use Rattle.tenant_shards.specs.Tenants.{AreKept, Differ, Tenants, kept_at, part_at, sessions_at, trail_in}

-- the numbers of the tenants in the order in which they came, what is kept of them, their rows, the rows that are held, and
-- what happened
pub record Shared : Type 0 where
  pub order : List ℕ
  pub tenants : Tenants
  pub rows : Heap
  pub locks : Locked
  pub entries : List Entry

-- ---- what holds of every shard

-- the trail of a tenant is legal, and leads to the sessions, the rows and the holders that the shard has
pub record IsLegal (tenant : ℕ) (kept : Kept) (shard : Shared) : Type 0 where
  pub after : State
  pub legal : LegalTo (tenant_of kept.part) (trail_in tenant shard.entries) after
  pub store : after.store ≡ rows_in tenant shard.rows
  pub sessions : after.sessions ≡ kept.sessions
  pub held : (id : List ℕ) → holder after.held id ≡ holder_of tenant shard.locks id

abbrev pub AreLegal : Shared → Type 0
AreLegal shard = (tenant : ℕ) (kept : Kept) → kept_at tenant shard.tenants ≡ Some kept → IsLegal tenant kept shard

pub record IsSound (shard : Shared) : Type 0 where
  pub differ : Differ shard.order
  pub kept : AreKept shard.order shard.tenants
  pub legal : AreLegal shard

-- ---- how a call changes a shard

-- nothing changes of any other tenant
pub record OthersStay (tenant : ℕ) (before after : Shared) : Type 0 where
  pub kept : (other : ℕ) → (other ≡ tenant → ⊥) → kept_at other after.tenants ≡ kept_at other before.tenants
  pub rows : (other : ℕ) → (other ≡ tenant → ⊥) → rows_in other after.rows ≡ rows_in other before.rows
  pub held : (other : ℕ) → (other ≡ tenant → ⊥) → (id : List ℕ) → holder_of other after.locks id ≡ holder_of other before.locks id
  pub trail : (other : ℕ) → (other ≡ tenant → ⊥) → trail_in other after.entries ≡ trail_in other before.entries

-- beside a tenant's sessions, rows, holders and events nothing changes
pub record Keeps (tenant : ℕ) (before after : Shared) : Type 0 where
  pub part : part_at tenant after.tenants ≡ part_at tenant before.tenants
  pub order : after.order ≡ before.order
  pub others : OthersStay tenant before after

-- nothing changes of a tenant
pub record Stays (tenant : ℕ) (before after : Shared) : Type 0 where
  pub sessions : sessions_at tenant after.tenants ≡ sessions_at tenant before.tenants
  pub rows : rows_in tenant after.rows ≡ rows_in tenant before.rows
  pub held : (id : List ℕ) → holder_of tenant after.locks id ≡ holder_of tenant before.locks id
  pub entries : after.entries ≡ before.entries

-- an event of a tenant's session is the last one, and so the session changes; the tenant has these rows, held so
pub record Happens (tenant s : ℕ) (kind : EventKind) (how : Change) (store : List Row) (holders : Holders) (before after : Shared) : Type 0 where
  pub entries : after.entries ≡ before.entries ++ record { tenant = tenant; event = record { session = s; kind = kind } } ∷ []
  pub sessions : (at : Session) → slice_get (sessions_at tenant before.tenants) s ≡ Some at → sessions_at tenant after.tenants ≡ changed how s (sessions_at tenant before.tenants) at
  pub rows : rows_in tenant after.rows ≡ store
  pub held : (id : List ℕ) → holder_of tenant after.locks id ≡ holders id

-- who holds rows where a session took these, and where its own are free
abbrev pub holding : ℕ → List (List ℕ) → Holders → Holders
holding s ids held id = cond (has_id ids id) (Some s) (held id)

abbrev pub freed : ℕ → Holders → Holders
freed s held id = but s (held id)

-- ---- when a call may be made

-- a session of a tenant
pub record IsSession (shard : Shared) (tenant s : ℕ) : Type 0 where
  pub kept : Kept
  pub is_kept : kept_at tenant shard.tenants ≡ Some kept
  pub at : Session
  pub is_session : slice_get kept.sessions s ≡ Some at

-- it has no open request, and one more to open
pub record MayStart (shard : Shared) (tenant s : ℕ) : Type 0 where
  pub is : IsSession shard tenant s
  pub free : is.at.running ≡ None
  pub most : ℕ
  pub is_most : slice_get (counts_of is.kept.part.sessions) s ≡ Some most
  pub below : is.at.closed < most

-- it has an open request
pub record HasOpen (shard : Shared) (tenant s : ℕ) : Type 0 where
  pub is : IsSession shard tenant s
  pub o : Open
  pub opened : is.at.running ≡ Some o

-- what the open request does on a tape of answers
abbrev pub run_of : {shard : Shared} {tenant s : ℕ} → HasOpen shard tenant s → List Answer → Run
run_of {shard} {tenant} {s} h = (tenant_of h.is.kept.part).run s h.o.request

-- a log is one of the open request: it has the questions that the request asks on its answers, and the session was granted the
-- lists of rows among them and holds just these
pub record HasLog (shard : Shared) (tenant s : ℕ) (log : Log) : Type 0 where
  pub has : HasOpen shard tenant s
  pub asks : IsLogOf (run_of has) [] log.asked log.answers
  pub grabs : has.o.grabs ≡ length (grabs_on (run_of has) [] log.answers)
  pub holds : (id : List ℕ) → is_by s (holder_of tenant shard.locks id) ≡ has_id (all_ids (grabs_on (run_of has) [] log.answers)) id

-- on the answers of the log it asks for these rows alone
pub record MayGrab (shard : Shared) (tenant s : ℕ) (log : Log) (ids : List (List ℕ)) : Type 0 where
  pub log_is : HasLog shard tenant s log
  pub next : run_of log_is.has log.answers ≡ Asks (GrabOf ids)

-- on the answers of the log it ends with this reply, but for the machine's steps, and these writes
pub record MayEnd (shard : Shared) (tenant s : ℕ) (log : Log) (reply : Reply) (writes : Writes) : Type 0 where
  pub log_is : HasLog shard tenant s log
  pub meant : Reply
  pub ends : run_of log_is.has log.answers ≡ Ends meant writes
  pub same : SameReply reply meant

-- an answer of the log isn't what the rows answer now, which is so only where another session has written since the request
-- began or began again; and that it did fewer than three times
pub record MayRestart (shard : Shared) (tenant s : ℕ) (log : Log) (k : ℕ) : Type 0 where
  pub has : HasOpen shard tenant s
  pub stale : IsStale (rows_in tenant shard.rows) log k
  pub seen : has.o.moved ≡ false → IsCurrent (rows_in tenant shard.rows) log
  pub few : has.o.restarts < 3

-- ---- what calls answer

pub record StartsSo (tenant s i : ℕ) (before after : Shared) : Type 0 where
  pub next : (at : Session) → slice_get (sessions_at tenant before.tenants) s ≡ Some at → i ≡ at.closed
  pub happens : Happens tenant s (Start i) Starts (rows_in tenant before.rows) (holder_of tenant before.locks) before after

abbrev pub RestartsSo : ℕ → ℕ → Shared → Shared → Type 0
RestartsSo tenant s before after = Happens tenant s Restart Restarts (rows_in tenant before.rows) (freed s (holder_of tenant before.locks)) before after

abbrev pub GrabsSo : ℕ → ℕ → Log → List (List ℕ) → Shared → Shared → Grabbed → Type 0
GrabsSo tenant s log ids before after (Grabbed.Stale k) = IsStale (rows_in tenant before.rows) log k × Stays tenant before after
GrabsSo tenant s log ids before after (Grabbed.Held row by) =
    IsCurrent (rows_in tenant before.rows) log × FirstHeld (holder_of tenant before.locks) s ids row by
    × Happens tenant s (Refuse row by) (Closes false) (rows_in tenant before.rows) (freed s (holder_of tenant before.locks)) before after
GrabsSo tenant s log ids before after Grabbed.Granted =
    IsCurrent (rows_in tenant before.rows) log × NoneHeld (holder_of tenant before.locks) s ids
    × Happens tenant s Grab Grabs (rows_in tenant before.rows) (holding s ids (holder_of tenant before.locks)) before after

abbrev pub EndsSo : ℕ → ℕ → Log → Reply → Writes → Shared → Shared → Ended → Type 0
EndsSo tenant s log reply writes before after (Ended.Stale k) = IsStale (rows_in tenant before.rows) log k × Stays tenant before after
EndsSo tenant s log reply writes before after Ended.Closed =
    IsCurrent (rows_in tenant before.rows) log
    × Happens tenant s (End reply) (Closes (some_writes writes)) (taken writes (rows_in tenant before.rows)) (freed s (holder_of tenant before.locks)) before after

-- ---- as a shard begins

-- no session has opened a request, nothing happened and nothing is held
pub record IsOpened (shard : Shared) (p : ℕ × TenantPart) : Type 0 where
  pub kept : kept_at p.0 shard.tenants ≡ Some (record { part = p.1; sessions = replicate (length p.1.sessions) fresh })
  pub rows : rows_in p.0 shard.rows ≡ seeded p.1.seed

abbrev pub AreOpened : Shared → List (ℕ × TenantPart) → Type 0
AreOpened shard [] = Unit {0}
AreOpened shard (p ∷ ps) = IsOpened shard p × AreOpened shard ps

abbrev pub numbers : List (ℕ × TenantPart) → List ℕ
numbers parts = map (λ (p : ℕ × TenantPart). p.0) parts
