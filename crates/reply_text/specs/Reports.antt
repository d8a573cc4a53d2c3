-- The text of a run (docs/formats.md, "Reports").
use Rattle.std.specs.Prelude.{ℕ, ◌+◌, List, [], ◌∷◌, ◌++◌, length, codes, decimal, replicate, slice_index_or, slice_set, Option, None, Some}
use Rattle.apex_num.specs.Ids.{long_id}
use Rattle.apex_requests.specs.declared.reply.Event.{Event}
use Rattle.apex_requests.specs.declared.reply.EventKind.{EventKind}
use Rattle.apex_requests.specs.declared.reply.EventKind.TheVariants.{Start, Grab, Refuse, Restart, End}
use Rattle.fault_words.specs.declared.fault.Fault.{Fault}
use Rattle.bundle_read.specs.declared.entries.RequestEntry.{RequestEntry}
use Rattle.bundle_read.specs.declared.entries.SessionEntry.{SessionEntry}
use Rattle.bundle_read.specs.declared.entries.TenantPlan.{TenantPlan}
use Rattle.reply_text.specs.Lines.{fault_text, reply_text}

-- what a line begins with: its number, the session and the request
abbrev pub head_text : ℕ → ℕ → ℕ → List ℕ
head_text k s i = decimal k ++ codes " session " ++ decimal s ++ codes " request " ++ decimal i ++ codes " "

-- ---- a tenant that is deployed: its events

-- a line for an event that closes a request
abbrev pub said : EventKind → ℕ → ℕ → ℕ → List ℕ
said (Start n) k s i = []
said Grab k s i = []
said (Refuse row holder) k s i = head_text k s i ++ codes "locked " ++ long_id row ++ codes " by " ++ decimal holder ++ 10 ∷ []
said Restart k s i = []
said (End reply) k s i = head_text k s i ++ reply_text reply

-- the number of the next line
abbrev pub next : EventKind → ℕ → ℕ
next (Start n) k = k
next Grab k = k
next (Refuse row holder) k = k + 1
next Restart k = k
next (End reply) k = k + 1

-- the request of each session that was opened last
abbrev pub with_start : EventKind → ℕ → List ℕ → List ℕ
with_start (Start n) s opened = slice_set opened s n
with_start Grab s opened = opened
with_start (Refuse row holder) s opened = opened
with_start Restart s opened = opened
with_start (End reply) s opened = opened

-- no session has opened a request
abbrev pub unopened : ℕ → List ℕ
unopened sessions = replicate sessions 0

-- the lines of a trail, the first of which has the number k
abbrev pub trail_text : ℕ → List ℕ → List Event → List ℕ
trail_text k opened [] = []
trail_text k opened (e ∷ es) =
    said e.kind k e.session (slice_index_or opened e.session 0) ++ trail_text (next e.kind k) (with_start e.kind e.session opened) es

-- ---- a tenant that isn't: its requests, each with the fault

abbrev pub undeployed_line : ℕ → ℕ → ℕ → Fault → List ℕ
undeployed_line k s i f = head_text k s i ++ codes "not deployed " ++ fault_text f ++ 10 ∷ []

abbrev pub requests_text : ℕ → ℕ → ℕ → Fault → List RequestEntry → List ℕ
requests_text k s i f [] = []
requests_text k s i f (r ∷ rs) = undeployed_line k s i f ++ requests_text (k + 1) s (i + 1) f rs

abbrev pub sessions_text : ℕ → ℕ → Fault → List SessionEntry → List ℕ
sessions_text k s f [] = []
sessions_text k s f (x ∷ xs) = requests_text k s 0 f x.requests ++ sessions_text (k + length x.requests) (s + 1) f xs

-- ---- all tenants

abbrev pub lines_of : TenantPlan → Option Fault → List Event → List ℕ
lines_of plan None trail = trail_text 1 (unopened (length plan.sessions)) trail
lines_of plan (Some f) trail = sessions_text 1 0 f plan.sessions

abbrev pub tenant_text : TenantPlan → Option Fault → List Event → List ℕ
tenant_text plan fault trail = codes "tenant " ++ plan.name ++ 10 ∷ lines_of plan fault trail

-- tenants in the order of the bundle, with the fault of each or none, and its trail
abbrev pub report : List TenantPlan → List (Option Fault) → List (List Event) → List ℕ
report [] faults trails = []
report (plan ∷ plans) (fault ∷ faults) (trail ∷ trails) = tenant_text plan fault trail ++ report plans faults trails
report (plan ∷ plans) (fault ∷ faults) [] = []
report (plan ∷ plans) [] trails = []
