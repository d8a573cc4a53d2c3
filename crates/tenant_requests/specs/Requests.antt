-- The requests of sessions (docs/formats.md, "Requests").
use Rattle.std.specs.Prelude.{◌≡◌, ◌⊎◌, ℕ, List, [], ◌∷◌, ◌++◌, length, slice_get, Option, None, Some}
use Rattle.fault_words.specs.declared.fault.Fault.{Fault}
use Rattle.apex_requests.specs.declared.request.Request.{Request}
use Rattle.apex_requests.specs.declared.request.Work.{Work}
use Rattle.apex_requests.specs.declared.request.Work.TheVariants as W
use Rattle.apex_schema.specs.declared.schema.Schema.{Schema}
use Rattle.apex_syntax.specs.declared.unit.Unit.{Unit as Tree}
use Rattle.bundle_read.specs.declared.entries.RequestEntry.{RequestEntry}
use Rattle.bundle_read.specs.declared.entries.SessionEntry.{SessionEntry}
use Rattle.bundle_read.specs.declared.entries.WorkEntry.{WorkEntry}
use Rattle.bundle_read.specs.declared.entries.WorkEntry.TheVariants as E
use Rattle.save_requests.specs.Saves.{IsOnlyWork}
use Rattle.tenant_units.specs.Faults.{IsFaultOf, Tells}
use Rattle.tenant_units.specs.Trees.{block_rule, block_name, IsBlock}
use Rattle.type_names.specs.declared.fault.TreeFault.{TreeFault}
use Rattle.tenant_parts.specs.declared.session.Session.{Session}
use Rattle.tenant_requests.specs.declared.open.OpenRequest.{OpenRequest}
use Rattle.tenant_requests.specs.declared.open.OpenSession.{OpenSession}
use Rattle.tenant_requests.specs.declared.open.OpenWork.{OpenWork}
use Rattle.tenant_requests.specs.declared.open.OpenWork.TheVariants as O

-- ---- before blocks are checked: each between the trees of the blocks before it, and those with its own

-- the text is a block, which has the next number
pub record IsTree (text : List ℕ) (before : List Tree) (work : OpenWork) (behind : List Tree) : Type 0 where
  pub tree : Tree
  pub is : IsBlock text tree
  pub work_is : work ≡ O.Block (length before) text
  pub behind_is : behind ≡ before ++ tree ∷ []

-- the text is none, and refused by its first fault
pub record IsNoTree (text : List ℕ) (before : List Tree) (work : OpenWork) (behind : List Tree) : Type 0 where
  pub fault : Fault
  pub is : IsFaultOf block_rule block_name text fault
  pub work_is : work ≡ O.Known (W.Refused fault)
  pub behind_is : behind ≡ before

abbrev pub IsBlockWork : List ℕ → List Tree → OpenWork → List Tree → Type 0
IsBlockWork text before work behind = IsTree text before work behind ⊎ IsNoTree text before work behind

abbrev pub IsOpenWork : Schema → WorkEntry → List Tree → OpenWork → List Tree → Type 0
IsOpenWork schema (E.Apex text) before work behind = IsBlockWork text before work behind
IsOpenWork schema (E.Save save) before work behind = ((known : Work) × IsOnlyWork schema save known × (work ≡ O.Known known)) × (behind ≡ before)

pub record IsOpen (schema : Schema) (user : ℕ) (entry : RequestEntry) (before : List Tree) (r : OpenRequest) (behind : List Tree) : Type 0 where
  pub work : IsOpenWork schema entry.work before r.work behind
  pub user_is : r.user ≡ user
  pub now_is : r.now ≡ entry.now

abbrev pub AreOpen : Schema → ℕ → List RequestEntry → List Tree → List OpenRequest → List Tree → Type 0
AreOpen schema user [] before rs behind = (rs ≡ []) × (behind ≡ before)
AreOpen schema user (e ∷ es) before [] behind = ⊥
AreOpen schema user (e ∷ es) before (r ∷ rs) behind = (between : List Tree) × IsOpen schema user e before r between × AreOpen schema user es between rs behind

-- with the user of each
abbrev pub AreOpenSessions : Schema → List ℕ → List SessionEntry → List Tree → List OpenSession → List Tree → Type 0
AreOpenSessions schema users [] before ss behind = (ss ≡ []) × (behind ≡ before)
AreOpenSessions schema (u ∷ us) (e ∷ es) before (s ∷ ss) behind = (between : List Tree) × AreOpen schema u e.requests before s.requests between × AreOpenSessions schema us es between ss behind
AreOpenSessions schema _ (e ∷ es) before _ behind = ⊥

-- ---- behind the check, with the first fault of each block

abbrev pub IsRefused : List ℕ → TreeFault → Work → Type 0
IsRefused text fault work = (told : Fault) × Tells block_name text fault.at fault.word told × (work ≡ W.Refused told)

abbrev pub IsJudgedBy : Option (Option TreeFault) → ℕ → List ℕ → Work → Type 0
IsJudgedBy (Some (Some fault)) n text work = IsRefused text fault work
IsJudgedBy (Some None) n text work = work ≡ W.Apex n
IsJudgedBy None n text work = work ≡ W.Apex n

abbrev pub IsJudged : List (Option TreeFault) → ℕ → List ℕ → Work → Type 0
IsJudged faults n text work = IsJudgedBy (slice_get faults n) n text work

abbrev pub IsClosedWork : List (Option TreeFault) → OpenWork → Work → Type 0
IsClosedWork faults (O.Known known) work = work ≡ known
IsClosedWork faults (O.Block n text) work = IsJudged faults n text work

pub record IsClosed (faults : List (Option TreeFault)) (r : OpenRequest) (request : Request) : Type 0 where
  pub work : IsClosedWork faults r.work request.work
  pub user_is : request.user ≡ r.user
  pub now_is : request.now ≡ r.now

abbrev pub AreClosed : List (Option TreeFault) → List OpenRequest → List Request → Type 0
AreClosed faults [] requests = requests ≡ []
AreClosed faults (r ∷ rs) [] = ⊥
AreClosed faults (r ∷ rs) (q ∷ qs) = IsClosed faults r q × AreClosed faults rs qs

abbrev pub AreClosedSessions : List (Option TreeFault) → List OpenSession → List Session → Type 0
AreClosedSessions faults [] sessions = sessions ≡ []
AreClosedSessions faults (s ∷ ss) [] = ⊥
AreClosedSessions faults (s ∷ ss) (t ∷ ts) = AreClosed faults s.requests t.requests × AreClosedSessions faults ss ts
