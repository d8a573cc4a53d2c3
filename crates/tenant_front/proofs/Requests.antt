-- The requests of sessions are told in one way, before their blocks are checked and behind that.
use Rattle.std.proofs.Common.{◌≡◌, inl, inr, ℕ, List, [], ◌∷◌, ◌++◌, slice_get, Option, None, Some, sym, ap, ap₂, ◌∙◌, subst}
use Rattle.apex_requests.specs.declared.request.Request.{Request}
use Rattle.apex_requests.specs.declared.request.Work.{Work}
use Rattle.apex_requests.specs.declared.request.Work.TheVariants as W
use Rattle.apex_schema.specs.declared.schema.Schema.{Schema}
use Rattle.apex_syntax.specs.declared.unit.Unit.{Unit as Tree}
use Rattle.bundle_read.specs.declared.entries.RequestEntry.{RequestEntry}
use Rattle.bundle_read.specs.declared.entries.SessionEntry.{SessionEntry}
use Rattle.bundle_read.specs.declared.entries.WorkEntry.{WorkEntry}
use Rattle.bundle_read.specs.declared.entries.WorkEntry.TheVariants as E
use Rattle.tenant_parts.specs.declared.session.Session.{Session}
use Rattle.tenant_requests.specs.declared.open.OpenRequest.{OpenRequest}
use Rattle.tenant_requests.specs.declared.open.OpenSession.{OpenSession}
use Rattle.tenant_requests.specs.declared.open.OpenWork.{OpenWork}
use Rattle.tenant_requests.specs.declared.open.OpenWork.TheVariants as O
use Rattle.tenant_requests.specs.Requests.{IsBlockWork, IsOpenWork, IsOpen, AreOpen, AreOpenSessions, IsJudgedBy, IsClosedWork, IsClosed, AreClosed, AreClosedSessions}
use Rattle.tenant_units.specs.Trees.{block_rule, block_name}
use Rattle.tenant_units.proofs.Places.{tells_one}
use Rattle.type_names.specs.declared.fault.TreeFault.{TreeFault}
use Rattle.tenant_front.proofs.Texts.{tree_once, fault_once, tree_or_fault}

-- ---- before blocks are checked

block_once : (text : List ℕ) (before : List Tree) (w v : OpenWork) (behind after : List Tree) → IsBlockWork text before w behind → IsBlockWork text before v after → (v ≡ w) × (after ≡ behind)
block_once text before w v behind after (inl t) (inl u) = (
  u.work_is ∙ sym t.work_is,
  u.behind_is ∙ ap (λ x. before ++ x ∷ []) (tree_once block_rule text t.tree u.tree t.is u.is) ∙ sym t.behind_is,
)
block_once text before w v behind after (inl t) (inr n) = absurd (tree_or_fault block_rule text block_name t.tree n.fault t.is n.is)
block_once text before w v behind after (inr n) (inl t) = absurd (tree_or_fault block_rule text block_name t.tree n.fault t.is n.is)
block_once text before w v behind after (inr n) (inr m) = (
  m.work_is ∙ ap (λ f. O.Known (W.Refused f)) (fault_once block_rule text block_name n.fault m.fault n.is m.is) ∙ sym n.work_is,
  m.behind_is ∙ sym n.behind_is,
)

module _ (schema : Schema) where
  work_once : (entry : WorkEntry) (before : List Tree) (w v : OpenWork) (behind after : List Tree) → IsOpenWork schema entry before w behind → IsOpenWork schema entry before v after → (v ≡ w) × (after ≡ behind)
  work_once (E.Apex text) before w v behind after h k = block_once text before w v behind after h k
  work_once (E.Save save) before w v behind after ((known, only, is), same) ((other, also, at), still) = (at ∙ ap O.Known (only.1 other also.0) ∙ sym is, still ∙ sym same)

  open_once : (user : ℕ) (entry : RequestEntry) (before : List Tree) (r q : OpenRequest) (behind after : List Tree) → IsOpen schema user entry before r behind → IsOpen schema user entry before q after → (q ≡ r) × (after ≡ behind)
  open_once user entry before r q behind after h k =
      let work = work_once entry.work before r.work q.work behind after h.work k.work in
      let eu : q.user ≡ r.user = k.user_is ∙ sym h.user_is in
      let en : q.now ≡ r.now = k.now_is ∙ sym h.now_is in
      let ew : q.work ≡ r.work = work.0 in
      (λ i. record { user = eu i; work = ew i; now = en i }, work.1)

  opens_once : (user : ℕ) (es : List RequestEntry) (before : List Tree) (rs qs : List OpenRequest) (behind after : List Tree) → AreOpen schema user es before rs behind → AreOpen schema user es before qs after → (qs ≡ rs) × (after ≡ behind)
  opens_once user [] before rs qs behind after h k = (k.0 ∙ sym h.0, k.1 ∙ sym h.1)
  opens_once user (e ∷ es) before [] qs behind after h k = absurd h
  opens_once user (e ∷ es) before (r ∷ rs) [] behind after h k = absurd k
  opens_once user (e ∷ es) before (r ∷ rs) (q ∷ qs) behind after (between, h, more) (middle, k, rest) =
      let first = open_once user e before r q between middle h k in
      let others = opens_once user es between rs qs behind after more (subst (λ l. AreOpen schema user es l qs after) first.1 rest) in
      (ap₂ (λ x l. x ∷ l) first.0 others.0, others.1)

  session_is : (s t : OpenSession) → t.requests ≡ s.requests → t ≡ s
  session_is s t e = λ i. record { requests = e i }

  pub open_sessions_once : (us : List ℕ) (es : List SessionEntry) (before : List Tree) (ss ts : List OpenSession) (behind after : List Tree) → AreOpenSessions schema us es before ss behind → AreOpenSessions schema us es before ts after
      → (ts ≡ ss) × (after ≡ behind)
  open_sessions_once us [] before ss ts behind after h k = (k.0 ∙ sym h.0, k.1 ∙ sym h.1)
  open_sessions_once [] (e ∷ es) before ss ts behind after h k = absurd h
  open_sessions_once (u ∷ us) (e ∷ es) before [] ts behind after h k = absurd h
  open_sessions_once (u ∷ us) (e ∷ es) before (s ∷ ss) [] behind after h k = absurd k
  open_sessions_once (u ∷ us) (e ∷ es) before (s ∷ ss) (t ∷ ts) behind after (between, h, more) (middle, k, rest) =
      let first = opens_once u e.requests before s.requests t.requests between middle h k in
      let others = open_sessions_once us es between ss ts behind after more (subst (λ l. AreOpenSessions schema us es l ts after) first.1 rest) in
      (ap₂ (λ x l. x ∷ l) (session_is s t first.0) others.0, others.1)

-- ---- behind the check

judged_once : (fault : Option (Option TreeFault)) (n : ℕ) (text : List ℕ) (w v : Work) → IsJudgedBy fault n text w → IsJudgedBy fault n text v → v ≡ w
judged_once (Some (Some fault)) n text w v (told, tells, is) (other, also, at) = at ∙ ap W.Refused (tells_one block_name text fault.at fault.word told other tells also) ∙ sym is
judged_once (Some None) n text w v h k = k ∙ sym h
judged_once None n text w v h k = k ∙ sym h

module _ (faults : List (Option TreeFault)) where
  closed_work_once : (o : OpenWork) (w v : Work) → IsClosedWork faults o w → IsClosedWork faults o v → v ≡ w
  closed_work_once (O.Known known) w v h k = k ∙ sym h
  closed_work_once (O.Block n text) w v h k = judged_once (slice_get faults n) n text w v h k

  closed_once : (r : OpenRequest) (p q : Request) → IsClosed faults r p → IsClosed faults r q → q ≡ p
  closed_once r p q h k =
      let ew : q.work ≡ p.work = closed_work_once r.work p.work q.work h.work k.work in
      let eu : q.user ≡ p.user = k.user_is ∙ sym h.user_is in
      let en : q.now ≡ p.now = k.now_is ∙ sym h.now_is in
      λ i. record { user = eu i; work = ew i; now = en i }

  all_closed_once : (rs : List OpenRequest) (ps qs : List Request) → AreClosed faults rs ps → AreClosed faults rs qs → qs ≡ ps
  all_closed_once [] ps qs h k = k ∙ sym h
  all_closed_once (r ∷ rs) [] qs h k = absurd h
  all_closed_once (r ∷ rs) (p ∷ ps) [] h k = absurd k
  all_closed_once (r ∷ rs) (p ∷ ps) (q ∷ qs) h k = ap₂ (λ x l. x ∷ l) (closed_once r p q h.0 k.0) (all_closed_once rs ps qs h.1 k.1)

  same_session : (s t : Session) → t.requests ≡ s.requests → t ≡ s
  same_session s t e = λ i. record { requests = e i }

  pub closed_sessions_once : (os : List OpenSession) (ss ts : List Session) → AreClosedSessions faults os ss → AreClosedSessions faults os ts → ts ≡ ss
  closed_sessions_once [] ss ts h k = k ∙ sym h
  closed_sessions_once (o ∷ os) [] ts h k = absurd h
  closed_sessions_once (o ∷ os) (s ∷ ss) [] h k = absurd k
  closed_sessions_once (o ∷ os) (s ∷ ss) (t ∷ ts) h k = ap₂ (λ x l. x ∷ l) (same_session s t (all_closed_once o.requests s.requests t.requests h.0 k.0)) (closed_sessions_once os ss ts h.1 k.1)
