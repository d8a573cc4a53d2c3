-- What the tenants of a bundle are, one behind the other.
use Rattle.std.proofs.Common.{◌≡◌, inl, inr, refl, ap, sym, subst, ◌∙◌, ℕ, suc, ◌+◌, ◌<◌, true, false, List, [], ◌∷◌, ◌++◌, length, take, get_or, Option, None, Some, Result, Ok, Err}
use Rattle.std.specs.Prelude.{OnOk}
use Rattle.std.proofs.lemmas.List.{take_more}
use Rattle.std.proofs.lemmas.List.Elements.{All-head, All-tail}
use Rattle.apex_requests.specs.declared.reply.Event.{Event}
use Rattle.fault_words.specs.declared.fault.Fault.{Fault}
use Rattle.bundle_read.specs.declared.entries.Bundle.{Bundle}
use Rattle.bundle_read.specs.declared.entries.TenantPlan.{TenantPlan}
use Rattle.bundle_read.specs.Bundles.{IsRead}
use Rattle.bundle_read.specs.Laws.{AreBounded, IsBounded}
use Rattle.legal_trails.specs.Served.{Pick}
use Rattle.tenant_parts.specs.declared.part.TenantPart.{TenantPart}
use Rattle.tenant_front.specs.Parts.{IsPart, IsFrontFault}
use Rattle.tenant_runs.specs.Laws.{PartsHaveRoom}
use Rattle.tenant_runs.specs.Tenants.{AllHaveRoom, AreRan, EachRan}
use Rattle.stack_code.specs.declared.image.Image.{Image}
use Rattle.turn_lists.specs.declared.turn.Turn.{Turn}
use Rattle.commands.specs.Answers.{Outside}
use Rattle.commands.specs.Built.{is_built}
use Rattle.commands.specs.declared.answer.Answer.TheVariants.{NoMemory}
use Rattle.commands.specs.declared.turns.Book.{Book}
use Rattle.commands.specs.declared.turns.Judged.{Judged}
use Rattle.commands.specs.Turns.{AreJudged, IsInput, Judges, JudgesNext, Refuses, Runs, Turns, bad_line, part_not_yet}
use Rattle.commands.proofs.Statuses.{answered_of}

-- ---- a tenant

pub deployed : (plan : TenantPlan) (part : TenantPart) (before after : Judged) → is_built plan ≡ true → IsPart plan part → after.faults ≡ before.faults ++ None ∷ [] → after.parts ≡ before.parts ++ Some part ∷ [] → JudgesNext plan before after
deployed plan part before after e h f p = record { fault = None; part = Some part; judges = (h, e); faults = f; parts = p }

pub unbuilt : (plan : TenantPlan) (part : TenantPart) (fault : Fault) (before after : Judged) → is_built plan ≡ false → IsPart plan part → fault ≡ part_not_yet → after.faults ≡ before.faults ++ Some fault ∷ [] → after.parts ≡ before.parts ++ None ∷ [] → JudgesNext plan before after
unbuilt plan part fault before after e h is f p = record { fault = Some fault; part = None; judges = inr (part, h, e, is); faults = f; parts = p }

faulty : (plan : TenantPlan) (fault : Fault) (before after : Judged) → IsFrontFault plan fault → after.faults ≡ before.faults ++ Some fault ∷ [] → after.parts ≡ before.parts ++ None ∷ [] → JudgesNext plan before after
faulty plan fault before after h f p = record { fault = Some fault; part = None; judges = inl h; faults = f; parts = p }

pub all_faulty : {A E : Type 0} (r : Result A E) (plan : TenantPlan) (fault told : Fault) (before after : Judged) → IsFrontFault plan fault → told ≡ fault → OnOk r (after.faults ≡ before.faults ++ Some told ∷ []) → OnOk r (after.parts ≡ before.parts ++ None ∷ []) → OnOk r (JudgesNext plan before after)
all_faulty (Ok x) plan fault told before after h e f p = faulty plan told before after (subst (IsFrontFault plan) (sym e) h) f p
all_faulty (Err x) plan fault told before after h e f p = tt

-- ---- all of them

cons_nil : {A : Type 0} {x : A} {xs : List A} → x ∷ xs ≡ [] → ⊥
cons_nil e = cc

judged_more : (ps : List TenantPlan) (fs : List (Option Fault)) (xs : List (Option TenantPart)) (plan : TenantPlan) (f : Option Fault) (p : Option TenantPart) → AreJudged ps fs xs → Judges plan f p → AreJudged (ps ++ plan ∷ []) (fs ++ f ∷ []) (xs ++ p ∷ [])
judged_more [] [] [] plan f p a j = (j, (refl, refl))
judged_more [] (g ∷ fs) xs plan f p a j = absurd (cons_nil a.0)
judged_more [] [] (x ∷ xs) plan f p a j = absurd (cons_nil a.1)
judged_more (q ∷ ps) (g ∷ fs) (x ∷ xs) plan f p a j = (a.0, judged_more ps fs xs plan f p a.1 j)
judged_more (q ∷ ps) [] xs plan f p a j = absurd a
judged_more (q ∷ ps) (g ∷ fs) [] plan f p a j = absurd a

pub judged_next : (ps : List TenantPlan) (n : ℕ) (d : TenantPlan) (before after : Judged) → n < length ps → AreJudged (take n ps) before.faults before.parts → JudgesNext (get_or ps n d) before after → AreJudged (take (n + 1) ps) after.faults after.parts
judged_next ps n d before after lt a j =
    subst (λ qs. AreJudged qs after.faults after.parts) (sym (take_more ps n d lt))
    (subst (λ fs. AreJudged (take n ps ++ get_or ps n d ∷ []) fs after.parts) (sym j.faults)
    (subst (λ xs. AreJudged (take n ps ++ get_or ps n d ∷ []) (before.faults ++ j.fault ∷ []) xs) (sym j.parts)
    (judged_more (take n ps) before.faults before.parts (get_or ps n d) j.fault j.part a j.judges)))

-- Ids have room in each part
pub all_have_room : (ps : List TenantPlan) (fs : List (Option Fault)) (xs : List (Option TenantPart)) → PartsHaveRoom → AreBounded ps → AreJudged ps fs xs → AllHaveRoom xs
all_have_room [] fs xs law b a = subst AllHaveRoom (sym a.1) tt
all_have_room (plan ∷ ps) (None ∷ fs) (Some part ∷ xs) law b a = (law plan part a.0.0 (All-head IsBounded plan ps b), all_have_room ps fs xs law (All-tail IsBounded plan ps b) a.1)
all_have_room (plan ∷ ps) (Some f ∷ fs) (None ∷ xs) law b a = all_have_room ps fs xs law (All-tail IsBounded plan ps b) a.1
all_have_room (plan ∷ ps) (None ∷ fs) (None ∷ xs) law b a = absurd a.0
all_have_room (plan ∷ ps) (Some f ∷ fs) (Some part ∷ xs) law b a = absurd a.0
all_have_room (plan ∷ ps) [] xs law b a = absurd a
all_have_room (plan ∷ ps) (f ∷ fs) [] law b a = absurd a

pub as_many_faults : (ps : List TenantPlan) (fs : List (Option Fault)) (xs : List (Option TenantPart)) → AreJudged ps fs xs → length fs ≡ length ps
as_many_faults [] fs xs a = ap length a.0
as_many_faults (p ∷ ps) (f ∷ fs) (x ∷ xs) a = ap suc (as_many_faults ps fs xs a.1)
as_many_faults (p ∷ ps) [] xs a = absurd a
as_many_faults (p ∷ ps) (f ∷ fs) [] a = absurd a

as_many_parts : (ps : List TenantPlan) (fs : List (Option Fault)) (xs : List (Option TenantPart)) → AreJudged ps fs xs → length xs ≡ length ps
as_many_parts [] fs xs a = ap length a.1
as_many_parts (p ∷ ps) (f ∷ fs) (x ∷ xs) a = ap suc (as_many_parts ps fs xs a.1)
as_many_parts (p ∷ ps) [] xs a = absurd a
as_many_parts (p ∷ ps) (f ∷ fs) [] a = absurd a

as_many_ran : (picks : List Pick) (t : ℕ) (xs : List (Option TenantPart)) (images : List (Option Image)) (trails : List (List Event)) → EachRan picks t xs images trails → length trails ≡ length xs
as_many_ran picks t [] images trails e = ap length e.1
as_many_ran picks t (x ∷ xs) (i ∷ images) (trail ∷ trails) e = ap suc (as_many_ran picks (suc t) xs images trails e.1)
as_many_ran picks t (x ∷ xs) [] trails e = absurd e
as_many_ran picks t (x ∷ xs) (i ∷ images) [] e = absurd e

pub as_many_trails : (ps : List TenantPlan) (fs : List (Option Fault)) (xs : List (Option TenantPart)) (turns : List Turn) (images : List (Option Image)) (trails : List (List Event)) → AreJudged ps fs xs → AreRan xs turns images trails → length trails ≡ length ps
as_many_trails ps fs xs turns images trails a r = as_many_ran r.picks 0 xs images trails r.each ∙ as_many_parts ps fs xs a

-- ---- bytes

pub refuses_bytes : (bytes line : List ℕ) (f : Fault) → IsRead bytes (Err f) → ((b : Bundle) → IsRead bytes (Ok b) → ⊥) → line ≡ bad_line f → Refuses bytes line
refuses_bytes bytes line f is none l = record { fault = f; why = is; none = none; is = l }

pub runs_input : (turns : List Turn) (book : Book) (bytes text : List ℕ) → Runs turns book bytes text → IsInput bytes
runs_input turns book bytes text r = record { bundle = r.bundle; is = r.is_bundle }

pub none_refused : (bytes line : List ℕ) → Refuses bytes line → IsInput bytes → ⊥
none_refused bytes line r i = r.none i.bundle i.is

-- where memory for the list is refused, nothing is read or written
pub unlisted : (turns : List Turn) (book : Book) (s : Outside) → s.held_later ≡ s.held → Turns turns book 5 s
unlisted turns book s e = answered_of (Runs turns book) Refuses 3 IsInput (runs_input turns book) none_refused s 5 NoMemory refl e
