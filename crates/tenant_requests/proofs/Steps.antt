-- Requests and sessions, one after the other.
use Rattle.std.proofs.Common.{arith, ◌≡◌, ◌<◌, ◌+◌, ℕ, List, [], ◌∷◌, ◌++◌, append_assoc, length, take, get_or, Option, refl, sym, ap, ◌∙◌, subst}
use Rattle.std.proofs.lemmas.List.{take_more, length-take-le}
use Rattle.apex_requests.specs.declared.request.Request.{Request}
use Rattle.apex_schema.specs.declared.schema.Schema.{Schema}
use Rattle.apex_syntax.specs.declared.unit.Unit.{Unit as Tree}
use Rattle.bundle_read.specs.declared.entries.RequestEntry.{RequestEntry}
use Rattle.bundle_read.specs.declared.entries.SessionEntry.{SessionEntry}
use Rattle.type_names.specs.declared.fault.TreeFault.{TreeFault}
use Rattle.tenant_parts.specs.declared.session.Session.{Session}
use Rattle.tenant_requests.specs.declared.open.OpenRequest.{OpenRequest}
use Rattle.tenant_requests.specs.declared.open.OpenSession.{OpenSession}
use Rattle.tenant_requests.specs.Requests.{IsOpen, AreOpen, AreOpenSessions, IsClosed, AreClosed, AreClosedSessions}

join : (schema : Schema) (user : ℕ) (es : List RequestEntry) (e : RequestEntry) (before : List Tree) (rs : List OpenRequest) (r : OpenRequest) (between behind : List Tree) → AreOpen schema user es before rs between → IsOpen schema user e between r behind → AreOpen schema user (es ++ e ∷ []) before (rs ++ r ∷ []) behind
join schema user [] e before rs r between behind (none, same) is =
    subst (λ l. AreOpen schema user (e ∷ []) before (l ++ r ∷ []) behind) (sym none) (behind, subst (λ t. IsOpen schema user e t r behind) same is, (refl, refl))
join schema user (f ∷ es) e before [] r between behind h is = absurd h
join schema user (f ∷ es) e before (s ∷ rs) r between behind (middle, here, rest) is = (middle, here, join schema user es e middle rs r between behind rest is)

pub one_more : (schema : Schema) (user : ℕ) (es : List RequestEntry) (i : ℕ) (e : RequestEntry) → i < length es → e ≡ get_or es i e → (before : List Tree) (rs : List OpenRequest) (r : OpenRequest) (between behind : List Tree) → AreOpen schema user (take i es) before rs between → IsOpen schema user e between r behind → AreOpen schema user (take (i + 1) es) before (rs ++ r ∷ []) behind
one_more schema user es i e lt at before rs r between behind h is =
    subst (λ l. AreOpen schema user l before (rs ++ r ∷ []) behind) (sym (take_more es i e lt ∙ ap (λ x. take i es ++ x ∷ []) (sym at))) (join schema user (take i es) e before rs r between behind h is)

join_session : (schema : Schema) (us : List ℕ) (u : ℕ) (es : List SessionEntry) (e : SessionEntry) (before : List Tree) (ss : List OpenSession) (s : OpenSession) (between behind : List Tree) → length us ≡ length es → AreOpenSessions schema us es before ss between → AreOpen schema u e.requests between s.requests behind → AreOpenSessions schema (us ++ u ∷ []) (es ++ e ∷ []) before (ss ++ s ∷ []) behind
join_session schema [] u [] e before ss s between behind same (none, still) is =
    subst (λ l. AreOpenSessions schema (u ∷ []) (e ∷ []) before (l ++ s ∷ []) behind) (sym none) (behind, subst (λ t. AreOpen schema u e.requests t s.requests behind) still is, (refl, refl))
join_session schema (v ∷ us) u [] e before ss s between behind same h is = absurd (omega arith)
join_session schema [] u (f ∷ es) e before ss s between behind same h is = absurd h
join_session schema (v ∷ us) u (f ∷ es) e before [] s between behind same h is = absurd h
join_session schema (v ∷ us) u (f ∷ es) e before (t ∷ ss) s between behind same (middle, here, rest) is =
    (middle, here, join_session schema us u es e middle ss s between behind (omega arith) rest is)

pub one_session_more : (schema : Schema) (us : List ℕ) (es : List SessionEntry) (i u : ℕ) (e : SessionEntry) → length us ≡ length es → i < length es → u ≡ get_or us i 0 → e ≡ get_or es i e → (before : List Tree) (ss : List OpenSession) (s : OpenSession) (between behind : List Tree) → AreOpenSessions schema (take i us) (take i es) before ss between → AreOpen schema u e.requests between s.requests behind → AreOpenSessions schema (take (i + 1) us) (take (i + 1) es) before (ss ++ s ∷ []) behind
one_session_more schema us es i u e same lt at_u at_e before ss s between behind h is =
    let lt_u : i < length us = omega arith in
    let users : take (i + 1) us ≡ take i us ++ u ∷ [] = take_more us i 0 lt_u ∙ ap (λ x. take i us ++ x ∷ []) (sym at_u) in
    let entries : take (i + 1) es ≡ take i es ++ e ∷ [] = take_more es i e lt ∙ ap (λ x. take i es ++ x ∷ []) (sym at_e) in
    subst (λ l. AreOpenSessions schema l (take (i + 1) es) before (ss ++ s ∷ []) behind) (sym users)
    (subst (λ l. AreOpenSessions schema (take i us ++ u ∷ []) l before (ss ++ s ∷ []) behind) (sym entries)
    (join_session schema (take i us) u (take i es) e before ss s between behind (length-take-le i us (omega arith) ∙ sym (length-take-le i es (omega arith))) h is))

pub one_closed : (faults : List (Option TreeFault)) (rs : List OpenRequest) (r : OpenRequest) (qs : List Request) (q : Request) → AreClosed faults rs qs → IsClosed faults r q → AreClosed faults (rs ++ r ∷ []) (qs ++ q ∷ [])
one_closed faults [] r qs q none is = subst (λ l. AreClosed faults (r ∷ []) (l ++ q ∷ [])) (sym none) (is, refl)
one_closed faults (s ∷ rs) r [] q h is = absurd h
one_closed faults (s ∷ rs) r (p ∷ qs) q (here, rest) is = (here, one_closed faults rs r qs q rest is)

pub one_session_closed : (faults : List (Option TreeFault)) (ss : List OpenSession) (s : OpenSession) (ts : List Session) (t : Session) → AreClosedSessions faults ss ts → AreClosed faults s.requests t.requests → AreClosedSessions faults (ss ++ s ∷ []) (ts ++ t ∷ [])
one_session_closed faults [] s ts t none is = subst (λ l. AreClosedSessions faults (s ∷ []) (l ++ t ∷ [])) (sym none) (is, refl)
one_session_closed faults (r ∷ ss) s [] t h is = absurd h
one_session_closed faults (r ∷ ss) s (p ∷ ts) t (here, rest) is = (here, one_session_closed faults ss s ts t rest is)

-- what is left of a list behind one element more
pub rest_more : {A : Type 0} (front rest behind all : List A) (a : A) → front ++ rest ≡ all → rest ≡ a ∷ behind → (front ++ a ∷ []) ++ behind ≡ all
rest_more front rest behind all a e r = append_assoc front (a ∷ []) behind ∙ ap (λ l. front ++ l) (sym r) ∙ e
