-- What a reading without a fault went through.
use Rattle.std.proofs.Common.{arith, ◌≡◌, ◌≢◌, ◌<◌, ◌||◌, zero, slice_index_or, bytes_eq, refl, ap, sym, subst, ◌∙◌, ℕ, suc, ◌+◌, ◌≤◌, Bool, true, false, List, [], ◌∷◌, ◌++◌, length, Option, None, Some, Result, Ok, Err}
use Rattle.std.specs.Prelude.{All, cond, nat_lt, codes}
use Rattle.std.proofs.lemmas.Bool.{ltb-false}
use Rattle.std.proofs.lemmas.Slice.Eq.{bytes_eq-Decides}
use Rattle.std.proofs.lemmas.List.Elements.{All-cons, All-nil}
use Rattle.serde_json.specs.Data.{Data, Items, no_items, item}
use Rattle.serde_json.specs.Find.{as_array, get}
use Rattle.schema_plans.specs.declared.plan.UserPlan.{UserPlan}
use Rattle.schema_plans.specs.declared.plan.SchemaPlan.{SchemaPlan}
use Rattle.fault_words.specs.declared.fault.Fault.{Fault}
use Rattle.fault_words.specs.declared.fault.FaultWord.TheVariants.{TooMany, Duplicate, BadValue}
use Rattle.bundle_read.specs.declared.entries.Bundle.{Bundle}
use Rattle.bundle_read.specs.declared.entries.RequestEntry.{RequestEntry}
use Rattle.bundle_read.specs.declared.entries.SessionEntry.{SessionEntry}
use Rattle.bundle_read.specs.declared.entries.TenantPlan.{TenantPlan}
use Rattle.bundle_read.specs.Readings.{within, ◌>>=◌, of_kind, unless, found, needed, optional, list_of, count, each, short, fault, object_fault, key_name, item_name, has}
use Rattle.bundle_read.specs.Bundles.{IsRead, as_value, as_nothing, placed, version, bundle, bundle_keys, filled, user, users, role, object_plan, schema, unit, seed_entry, request, text, session, session_keys, tenant, tenant_keys, tenant_name, named, each_tenant, tenants}
use Rattle.bundle_read.specs.Words.{is_tenant_name}
use Rattle.bundle_read.specs.Laws.{HasFewRequests, IsBounded, AreBounded, HaveOwnNames}

-- the first reading had no fault, and the second one read this behind it
pub record Behind {A B : Type 0} (first : Result A Fault) (next : A → Result B Fault) (b : B) : Type 0 where
  pub value : A
  pub first_is : first ≡ Ok value
  pub next_is : next value ≡ Ok b

first_of : {A B : Type 0} (first : Result A Fault) (next : A → Result B Fault) (b : B) → (first >>= next) ≡ Ok b → Behind first next b
first_of (Ok a) next b e = record { value = a; first_is = refl; next_is = e }
first_of (Err f) next b e = cc

within_of : {A : Type 0} (part : List ℕ) (reading : Result A Fault) (a : A) → within part reading ≡ Ok a → reading ≡ Ok a
within_of part (Ok x) a e = e
within_of part (Err f) a e = cc

-- what is read is one value
behind_ok : {A : Type 0} {a b : A} → ◌≡◌ {A = Result A Fault} (Ok a) (Ok b) → b ≡ a
behind_ok e = cc

no_bundle : {A : Type 0} {f : Fault} {b : A} → ◌≡◌ {A = Result A Fault} (Err f) (Ok b) → ⊥
no_bundle e = cc

unless_of : {A : Type 0} (wrong : Option Fault) (reading : Result A Fault) (a : A) → unless wrong reading ≡ Ok a → reading ≡ Ok a
unless_of None reading a e = e
unless_of (Some f) reading a e = cc

found_of : {A : Type 0} (read : Data → Result A Fault) (at : Option Data) (a : A) → found read at ≡ Ok a → (d : Data) × (read d ≡ Ok a)
found_of read None a e = cc
found_of read (Some d) a e = (d, e)

needed_of : {A : Type 0} (read : Data → Result A Fault) (k : List ℕ) (d : Data) (a : A) → needed read k d ≡ Ok a → (at : Data) × (read at ≡ Ok a)
needed_of read k d a e = found_of read (get k d) a (within_of (key_name k) (found read (get k d)) a e)

-- a list that isn't too long
most_of : (over : Bool) (ds es : Items) → cond over (fault TooMany) (Ok ds) ≡ Ok es → (over ≡ false) × (es ≡ ds)
most_of true ds es e = cc
most_of false ds es e = (refl, cc)

-- as many items are read as there are
each_of : {A : Type 0} (read : Data → Result A Fault) (i : ℕ) (ds : Items) (xs : List A) → each read i ds ≡ Ok xs → length xs ≡ count ds
each_of read i no_items xs e = cc
each_of read i (item d ds) xs e =
    let one = first_of (within (item_name i) (read d)) (λ a. each read (i + 1) ds >>= (λ rest. Ok (a ∷ rest))) xs e in
    let more = first_of (each read (i + 1) ds) (λ rest. Ok (one.value ∷ rest)) xs one.next_is in
    let n = each_of read (i + 1) ds more.value more.first_is in
    let is : xs ≡ one.value ∷ more.value = behind_ok more.next_is in
    let longer : length xs ≡ suc (length more.value) = ap length is in
    omega arith

at_most : {A : Type 0} (most : ℕ) (read : Data → Result A Fault) (ds es : Items) (xs : List A) → short (Some most) ds ≡ Ok es → each read 0 es ≡ Ok xs → length xs ≤ most
at_most most read ds es xs s e =
    let m = most_of (nat_lt most (count ds)) ds es s in
    let n = ltb-false most (count ds) m.0 in
    let same : length xs ≡ count ds = each_of read 0 es xs e ∙ ap count m.1 in
    omega arith

-- what is read of each item is true of each that is read
all_of : {A : Type 0} (P : A → Type 0) (read : Data → Result A Fault) → ((d : Data) (a : A) → read d ≡ Ok a → P a) → (i : ℕ) (ds : Items) (xs : List A) → each read i ds ≡ Ok xs → All P xs
all_of P read is i no_items xs e = subst (λ ys. All P ys) (sym (behind_ok e)) (All-nil P)
all_of P read is i (item d ds) xs e =
    let one = first_of (within (item_name i) (read d)) (λ a. each read (i + 1) ds >>= (λ rest. Ok (a ∷ rest))) xs e in
    let more = first_of (each read (i + 1) ds) (λ rest. Ok (one.value ∷ rest)) xs one.next_is in
    let here = is d one.value (within_of (item_name i) (read d) one.value one.first_is) in
    let there = all_of P read is (i + 1) ds more.value more.first_is in
    subst (λ ys. All P ys) (sym (behind_ok more.next_is)) (All-cons P one.value more.value here there)

users_of : (d : Data) (us : List UserPlan) → users d ≡ Ok us → length us ≤ 1000000
users_of d us e =
    let list = first_of (of_kind (as_array d)) _ us e in
    let full = first_of (filled list.value) _ us list.next_is in
    let cut = first_of (short (Some 1000000) full.value) _ us full.next_is in
    at_most 1000000 user full.value cut.value us cut.first_is cut.next_is

schema_of : (d : Data) (p : SchemaPlan) → schema d ≡ Ok p → length p.users ≤ 1000000
schema_of d p e =
    let roles = first_of (optional (list_of None role) (codes "roles") d) _ p e in
    let us = first_of (needed users (codes "users") d) _ p roles.next_is in
    let objects = first_of (needed (list_of None object_plan) (codes "objects") d) _ p us.next_is in
    let at = needed_of users (codes "users") d us.value us.first_is in
    let n = users_of at.0 us.value at.1 in
    let same : length p.users ≡ length us.value = ap (λ (q : SchemaPlan). length q.users) (behind_ok objects.next_is) in
    omega arith

requests_of : (d : Data) (rs : List RequestEntry) → list_of (Some 10000) request d ≡ Ok rs → length rs ≤ 10000
requests_of d rs e =
    let list = first_of (of_kind (as_array d)) _ rs e in
    let cut = first_of (short (Some 10000) list.value) _ rs list.next_is in
    at_most 10000 request list.value cut.value rs cut.first_is cut.next_is

session_of : (d : Data) (s : SessionEntry) → session d ≡ Ok s → HasFewRequests s
session_of d s e =
    let user = first_of (needed text (codes "user") d) _ s (unless_of (object_fault session_keys d) _ s e) in
    let requests = first_of (needed (list_of (Some 10000) request) (codes "requests") d) _ s user.next_is in
    let at = needed_of (list_of (Some 10000) request) (codes "requests") d requests.value requests.first_is in
    let n = requests_of at.0 requests.value at.1 in
    let same : length s.requests ≡ length requests.value = ap (λ (q : SessionEntry). length q.requests) (behind_ok requests.next_is) in
    omega arith

sessions_of : (d : Data) (ss : List SessionEntry) → list_of (Some 10000) session d ≡ Ok ss → (length ss ≤ 10000) × All HasFewRequests ss
sessions_of d ss e =
    let list = first_of (of_kind (as_array d)) _ ss e in
    let cut = first_of (short (Some 10000) list.value) _ ss list.next_is in
    (at_most 10000 session list.value cut.value ss cut.first_is cut.next_is, all_of HasFewRequests session session_of 0 cut.value ss cut.next_is)

-- ---- names

true_false : true ≡ false → ⊥
true_false e = cc

both_false : (a : Bool) → a ≡ false → a || false ≡ false
both_false true e = e
both_false false e = refl

or_none : (a b : Bool) → a || b ≡ false → (a ≡ false) × (b ≡ false)
or_none true b e = cc
or_none false b e = (refl, e)

-- a name that is none of these with one more is none of these, and isn't that one
without_last : (names : List (List ℕ)) (x n : List ℕ) → has (names ++ x ∷ []) n ≡ false → (has names n ≡ false) × (x ≢ n)
without_last [] x n e = (refl, λ same. true_false (sym ((bytes_eq-Decides x n).1 same) ∙ (or_none (bytes_eq x n) false e).0))
without_last (m ∷ names) x n e =
    let two = or_none (bytes_eq m n) (has (names ++ x ∷ []) n) e in
    let more = without_last names x n two.1 in
    (ap (λ b. bytes_eq m n || b) more.0 ∙ (both_false (bytes_eq m n) two.0), more.1)

-- none of these tenants has an earlier name, each behind those before it
abbrev Apart : List (List ℕ) → List TenantPlan → Type 0
Apart earlier [] = Unit {0}
Apart earlier (t ∷ ts) = (has earlier t.name ≡ false) × Apart (earlier ++ t.name ∷ []) ts

not_earlier : (earlier : List (List ℕ)) (ts : List TenantPlan) → Apart earlier ts → (j : ℕ) (d : TenantPlan) → j < length ts → has earlier (slice_index_or ts j d).name ≡ false
not_earlier earlier [] a j d l = absurd (omega arith)
not_earlier earlier (t ∷ ts) a zero d l = a.0
not_earlier earlier (t ∷ ts) a (suc j) d l = (without_last earlier t.name (slice_index_or ts j d).name (not_earlier (earlier ++ t.name ∷ []) ts a.1 j d (omega arith))).0

own_names : (earlier : List (List ℕ)) (ts : List TenantPlan) → Apart earlier ts → HaveOwnNames ts
own_names earlier [] a i j d h l = absurd (omega arith)
own_names earlier (t ∷ ts) a i zero d h l = absurd (omega arith)
own_names earlier (t ∷ ts) a zero (suc j) d h l = (without_last earlier t.name (slice_index_or ts j d).name (not_earlier (earlier ++ t.name ∷ []) ts a.1 j d (omega arith))).1
own_names earlier (t ∷ ts) a (suc i) (suc j) d h l = own_names (earlier ++ t.name ∷ []) ts a.1 i j d (omega arith) (omega arith)

free : (fits taken : Bool) (name n : List ℕ) → cond fits (cond taken (fault Duplicate) (Ok name)) (fault BadValue) ≡ Ok n → (taken ≡ false) × (n ≡ name)
free true true name n e = cc
free true false name n e = (refl, behind_ok e)
free false taken name n e = cc

name_of : (earlier : List (List ℕ)) (d : Data) (n : List ℕ) → tenant_name earlier d ≡ Ok n → has earlier n ≡ false
name_of earlier d n e =
    let read = first_of (text d) (named earlier) n e in
    let told = free (is_tenant_name read.value) (has earlier read.value) read.value n read.next_is in
    ap (has earlier) told.1 ∙ told.0

tenant_of : (earlier : List (List ℕ)) (d : Data) (t : TenantPlan) → tenant earlier d ≡ Ok t → IsBounded t × (has earlier t.name ≡ false)
tenant_of earlier d t e =
    let name = first_of (needed (tenant_name earlier) (codes "name") d) _ t (unless_of (object_fault tenant_keys d) _ t e) in
    let plan = first_of (schema d) _ t name.next_is in
    let units = first_of (needed (list_of None unit) (codes "units") d) _ t plan.next_is in
    let seed = first_of (optional (list_of None seed_entry) (codes "seed") d) _ t units.next_is in
    let sessions = first_of (needed (list_of (Some 10000) session) (codes "sessions") d) _ t seed.next_is in
    let n = schema_of d plan.value plan.first_is in
    let same : length t.schema.users ≡ length plan.value.users = ap (λ (q : TenantPlan). length q.schema.users) (behind_ok sessions.next_is) in
    let at = needed_of (list_of (Some 10000) session) (codes "sessions") d sessions.value sessions.first_is in
    let all = sessions_of at.0 sessions.value at.1 in
    let same_sessions : t.sessions ≡ sessions.value = ap (λ (q : TenantPlan). q.sessions) (behind_ok sessions.next_is) in
    let called = needed_of (tenant_name earlier) (codes "name") d name.value name.first_is in
    let same_name : t.name ≡ name.value = ap (λ (q : TenantPlan). q.name) (behind_ok sessions.next_is) in (
      record {
        users = omega arith;
        sessions = subst (λ ss. length ss ≤ 10000) (sym same_sessions) all.0;
        requests = subst (λ ss. All HasFewRequests ss) (sym same_sessions) all.1;
      },
      ap (has earlier) same_name ∙ name_of earlier called.0 name.value called.1,
    )

each_tenant_of : (earlier : List (List ℕ)) (i : ℕ) (ds : Items) (ts : List TenantPlan) → each_tenant earlier i ds ≡ Ok ts → AreBounded ts × (Apart earlier ts × (length ts ≡ count ds))
each_tenant_of earlier i no_items ts e = subst (λ l. AreBounded l × (Apart earlier l × (length l ≡ 0))) (sym (behind_ok e)) (All-nil IsBounded, (tt, refl))
each_tenant_of earlier i (item d ds) ts e =
    let one = first_of (within (item_name i) (tenant earlier d)) _ ts e in
    let more = first_of (each_tenant (earlier ++ one.value.name ∷ []) (i + 1) ds) _ ts one.next_is in
    let here = tenant_of earlier d one.value (within_of (item_name i) (tenant earlier d) one.value one.first_is) in
    let there = each_tenant_of (earlier ++ one.value.name ∷ []) (i + 1) ds more.value more.first_is in
    let longer : length (one.value ∷ more.value) ≡ count ds + 1 = omega (arith, there.1.1) in
    subst (λ l. AreBounded l × (Apart earlier l × (length l ≡ count ds + 1))) (sym (behind_ok more.next_is))
    (All-cons IsBounded one.value more.value here.0 there.0, ((here.1, there.1.0), longer))

-- what holds of the tenants of a bundle
abbrev Sound : List TenantPlan → Type 0
Sound ts = AreBounded ts × (HaveOwnNames ts × (length ts ≤ 1000))

tenants_of : (d : Data) (ts : List TenantPlan) → tenants d ≡ Ok ts → Sound ts
tenants_of d ts e =
    let list = first_of (of_kind (as_array d)) _ ts e in
    let cut = first_of (short (Some 1000) list.value) _ ts list.next_is in
    let all = each_tenant_of [] 0 cut.value ts cut.next_is in
    let m = most_of (nat_lt 1000 (count list.value)) list.value cut.value cut.first_is in
    let n = ltb-false 1000 (count list.value) m.0 in
    let same : length ts ≡ count list.value = all.1.1 ∙ ap count m.1 in
    (all.0, (own_names [] ts all.1.0, omega arith))

bundle_of : (d : Data) (b : Bundle) → bundle d ≡ Ok b → Sound b.tenants
bundle_of d b e =
    let one = first_of (needed version (codes "version") d) _ b (unless_of (object_fault bundle_keys d) _ b e) in
    let all = first_of (needed tenants (codes "tenants") d) _ b one.next_is in
    let at = needed_of tenants (codes "tenants") d all.value all.first_is in
    subst Sound (sym (ap (λ (q : Bundle). q.tenants) (behind_ok all.next_is))) (tenants_of at.0 all.value at.1)

placed_of : (r : Result Bundle Fault) (b : Bundle) → placed r ≡ Ok b → r ≡ Ok b
placed_of (Ok x) b e = e
placed_of (Err f) b e = cc

read_of : (bytes : List ℕ) (r : Result Bundle Fault) (b : Bundle) → IsRead bytes r → r ≡ Ok b → Sound b.tenants
read_of bytes r b (as_value d is) e = bundle_of d b (placed_of (bundle d) b e)
read_of bytes r b (as_nothing none) e = absurd (no_bundle e)

pub bounded : (bytes : List ℕ) (b : Bundle) → IsRead bytes (Ok b) → AreBounded b.tenants
bounded bytes b is = (read_of bytes (Ok b) b is refl).0

pub named_apart : (bytes : List ℕ) (b : Bundle) → IsRead bytes (Ok b) → HaveOwnNames b.tenants
named_apart bytes b is = (read_of bytes (Ok b) b is refl).1.0

pub are_short : (bytes : List ℕ) (b : Bundle) → IsRead bytes (Ok b) → length b.tenants ≤ 1000
are_short bytes b is = (read_of bytes (Ok b) b is refl).1.1
