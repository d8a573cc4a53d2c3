-- What is read of a list byte by byte is what it says.
use Rattle.std.proofs.Common.{get_or, drop, length, Result, Ok, Err, map, suc, zero, ◌≡◌, ◌<◌, ◌≤◌, ◌⊎◌, inl, inr, refl, sym, ap, subst, ◌∙◌, ℕ, ◌+◌, ◌*◌, ◌-◌, ◌/◌, ◌%◌, ◌&&◌, cond, eqb, Bool, true, false, List, [], ◌∷◌, ◌++◌, append_assoc, append-nil, Option, None, Some, arith}
use Rattle.std.specs.Prelude.{MatchBool, MatchResult, bytes_eq, decimal, nat_lt, nat_le, codes}
use Rattle.std.specs.Char.{is_ascii_digit}
use Rattle.std.proofs.lemmas.Bool.{and_parts, and_from, and_right, leb-true, le-leb, ltb-true, lt-ltb, eqb-true}
use Rattle.std.proofs.lemmas.Fmt.{decimal_by_steps, decimal_digit, decimal_step}
use Rattle.std.proofs.lemmas.Slice.Eq.{bytes_eq-Decides}
use Rattle.turn_lists.specs.declared.fault.TurnsFault.{TurnsFault}
use Rattle.turn_lists.specs.declared.fault.TurnsFault.TheVariants.{NotTurns, NoMemory}
use Rattle.turn_lists.specs.declared.list.At.{At}
use Rattle.turn_lists.specs.declared.list.At.TheVariants.{Tenant, TenantNumber, Session, SessionNumber, Nowhere}
use Rattle.turn_lists.specs.declared.turn.Turn.{Turn}
use Rattle.turn_lists.specs.Lists.{AreTurns, IsCommand, IsNone, IsTurn, Lists, ListsTurns, behind_text, list_text, most, turn_text}
use Rattle.turn_lists.specs.Reading.{IsList, IsNoList, all_ended, ended, first_digit, more_digits, next, or_at, reads, turn_at}

some_is : {A : Type 0} {a b : A} → Some a ≡ Some b → a ≡ b
some_is e = cc

-- ---- digits

digit_of : (b : ℕ) → is_ascii_digit b ≡ true → (48 ≤ b) × (b ≤ 57)
digit_of b e = let p = and_parts (nat_le 48 b) (nat_le b 57) e in (leb-true 48 b p.0, leb-true b 57 p.1)

pub is_digit : (d : ℕ) → d < 10 → is_ascii_digit (48 + d) ≡ true
is_digit d h = and_from (nat_le 48 (48 + d)) (nat_le (48 + d) 57) (le-leb 48 (48 + d) (omega arith)) (le-leb (48 + d) 57 (omega (arith, h)))

first_is : (d : ℕ) → d < 10 → first_digit (48 + d) ≡ Some d
first_is d h = ap (λ b. cond b (Some (48 + d - 48)) None) (is_digit d h) ∙ ap Some (omega arith)

more_is : (n d : ℕ) → 0 < n → n < 100000000 → d < 10 → more_digits n (48 + d) ≡ Some (n * 10 + d)
more_is n d low high h =
    ap (λ b. cond b (Some (n * 10 + (48 + d - 48))) None) (and_from (nat_lt 0 n) (nat_lt n 100000000 && is_ascii_digit (48 + d)) (lt-ltb 0 n low) (and_from (nat_lt n 100000000) (is_ascii_digit (48 + d)) (lt-ltb n 100000000 high) (is_digit d h)))
    ∙ ap (λ m. Some (n * 10 + m)) (omega arith)

pub none_more : (n b : ℕ) → is_ascii_digit b ≡ false → more_digits n b ≡ None
none_more n b e = ap (λ c. cond c (Some (n * 10 + (b - 48))) None) (and_right (nat_lt 0 n) (nat_lt n 100000000 && is_ascii_digit b) (and_right (nat_lt n 100000000) (is_ascii_digit b) e))

-- a first digit is its number
first_from : (b n : ℕ) → first_digit b ≡ Some n → (n ≤ most) × (decimal n ≡ b ∷ [])
first_from b n e = by (is_ascii_digit b) refl e where
  by : (c : Bool) → is_ascii_digit b ≡ c → cond c (Some (b - 48)) None ≡ Some n → (n ≤ most) × (decimal n ≡ b ∷ [])
  by false d f = cc
  by true d f =
      let p = digit_of b d in
      let is : b - 48 ≡ n = some_is f in
      (omega (arith, p.0, p.1, is), decimal_digit n (omega (arith, p.0, p.1, is)) ∙ ap (λ m. m ∷ []) (omega (arith, p.0, p.1, is)))

-- so is one more
more_from : (n b m : ℕ) → n ≤ most → more_digits n b ≡ Some m → (m ≤ most) × (decimal m ≡ decimal n ++ b ∷ []) × (is_ascii_digit b ≡ true)
more_from n b m le e = by (nat_lt 0 n && (nat_lt n 100000000 && is_ascii_digit b)) refl e where
  by : (c : Bool) → (nat_lt 0 n && (nat_lt n 100000000 && is_ascii_digit b)) ≡ c → cond c (Some (n * 10 + (b - 48))) None ≡ Some m → (m ≤ most) × (decimal m ≡ decimal n ++ b ∷ []) × (is_ascii_digit b ≡ true)
  by false d f = cc
  by true d f =
      let p = and_parts (nat_lt 0 n) (nat_lt n 100000000 && is_ascii_digit b) d in
      let q = and_parts (nat_lt n 100000000) (is_ascii_digit b) p.1 in
      let low = ltb-true 0 n p.0 in
      let high = ltb-true n 100000000 q.0 in
      let w = digit_of b q.1 in
      let is : n * 10 + (b - 48) ≡ m = some_is f in
      let front : m / 10 ≡ n = omega (arith, is, w.0, w.1) in
      let last : 48 + m % 10 ≡ b = omega (arith, is, w.0, w.1) in
      (omega (arith, is, w.0, w.1, high), decimal_step m (omega (arith, is, low)) (omega (arith, is, w.0, w.1, high)) ∙ ap (λ k. decimal k ++ (48 + m % 10) ∷ []) front ∙ ap (λ k. decimal n ++ k ∷ []) last, q.1)

pub comma_no_digit : (b : ℕ) → is_ascii_digit b ≡ true → eqb b 44 ≡ false
comma_no_digit b e = by (eqb b 44) refl where
  by : (c : Bool) → eqb b 44 ≡ c → eqb b 44 ≡ false
  by false d = d
  by true d = let is = eqb-true b 44 d in let w = digit_of b e in absurd (omega (arith, is, w.0))

-- ---- what a list says is read so

pub reads_append : (at : At) (u v : List ℕ) → reads at (u ++ v) ≡ reads (reads at u) v
reads_append at [] v = refl
reads_append at (b ∷ u) v = reads_append (next at b) u v

module _ (wrap : ℕ → At) (start : At) (first : (d : ℕ) → d < 10 → next start (48 + d) ≡ wrap d) (more : (n d : ℕ) → 0 < n → n < 100000000 → d < 10 → next (wrap n) (48 + d) ≡ wrap (n * 10 + d)) where
  number_read : (n : ℕ) → n ≤ most → reads start (decimal n) ≡ wrap n
  number_read n le =
      decimal_by_steps (λ m ds. m ≤ most → reads start ds ≡ wrap m) (λ m lt h. first m lt)
      (λ m ds ge before h.
      reads_append start ds ((48 + m % 10) ∷ [])
      ∙ ap (λ at. next at (48 + m % 10)) (before (omega (arith, h)))
      ∙ more (m / 10) (m % 10) (omega (arith, ge)) (omega (arith, h)) (omega arith)
      ∙ ap wrap (omega arith))
      n (omega (arith, le)) le

pub tenant_read : (n : ℕ) → n ≤ most → reads Tenant (decimal n) ≡ TenantNumber n
tenant_read n le = number_read TenantNumber Tenant (λ d h. ap (λ o. or_at TenantNumber o Nowhere) (first_is d h)) (λ n d low high h. ap (λ o. or_at TenantNumber o (cond (eqb (48 + d) 46) (Session n) Nowhere)) (more_is n d low high h)) n le

session_read : (t n : ℕ) → n ≤ most → reads (Session t) (decimal n) ≡ SessionNumber t n
session_read t n le =
    number_read (SessionNumber t) (Session t) (λ d h. ap (λ o. or_at (SessionNumber t) o Nowhere) (first_is d h)) (λ n d low high h. ap (λ o. or_at (SessionNumber t) o (cond (eqb (48 + d) 44) Tenant Nowhere)) (more_is n d low high h)) n le

pub turn_read : (t : Turn) → IsTurn t → reads Tenant (turn_text t) ≡ SessionNumber t.tenant t.session
turn_read t h =
    reads_append Tenant (decimal t.tenant) (46 ∷ decimal t.session)
    ∙ ap (λ at. reads at (46 ∷ decimal t.session)) (tenant_read t.tenant h.tenant)
    ∙ ap (λ o. reads (or_at TenantNumber o (Session t.tenant)) (decimal t.session)) (none_more t.tenant 46 refl)
    ∙ session_read t.tenant t.session h.session

abbrev pub IsEnd : At → Type 0
IsEnd at = (t : ℕ) × (n : ℕ) × (at ≡ SessionNumber t n)

pairs_read : (t : Turn) (ts : List Turn) → IsTurn t → AreTurns ts → IsEnd (reads Tenant (turn_text t ++ behind_text ts))
pairs_read t [] h hs = (t.tenant, t.session, ap (λ bs. reads Tenant bs) (append-nil (turn_text t)) ∙ turn_read t h)
pairs_read t (u ∷ ts) h hs =
    subst IsEnd
    (sym (reads_append Tenant (turn_text t) (44 ∷ turn_text u ++ behind_text ts)
    ∙ ap (λ at. reads at (44 ∷ turn_text u ++ behind_text ts)) (turn_read t h)
    ∙ ap (λ o. reads (or_at (SessionNumber t.tenant) o Tenant) (turn_text u ++ behind_text ts)) (none_more t.session 44 refl)))
    (pairs_read u ts hs.0 hs.1)

pub listed_ends : (word : List ℕ) (turns : List Turn) → (turns ≡ [] → ⊥) → Lists word turns → IsEnd (reads Tenant word)
listed_ends word [] some h = absurd (some refl)
listed_ends word (t ∷ ts) some h = subst (λ bs. IsEnd (reads Tenant bs)) (sym h.0) (pairs_read t ts h.1.0 h.1.1)

-- ---- what is read is what the list says

-- the text of the turn that is on its way
abbrev pub shown : At → List ℕ
shown Tenant = []
shown (TenantNumber n) = decimal n
shown (Session t) = decimal t ++ 46 ∷ []
shown (SessionNumber t n) = decimal t ++ 46 ∷ decimal n
shown Nowhere = []

abbrev pub Fits : At → Type 0
Fits Tenant = Unit {0}
Fits (TenantNumber n) = n ≤ most
Fits (Session t) = t ≤ most
Fits (SessionNumber t n) = (t ≤ most) × (n ≤ most)
Fits Nowhere = ⊥

-- a byte goes on with a turn, or ends it
abbrev pub OnBy : At → ℕ → At → List Turn → Type 0
OnBy at b to ended = (Fits to × (shown to ≡ shown at ++ b ∷ []) × (ended ≡ [])) ⊎ ((t : Turn) × IsTurn t × (to ≡ Tenant) × (b ≡ 44) × (shown at ≡ turn_text t) × (ended ≡ t ∷ []))

none_ended : (c : Bool) (at : At) → turn_at at ≡ [] → cond c (turn_at at) [] ≡ []
none_ended true at e = e
none_ended false at e = refl

nowhere : (bs : List ℕ) → reads Nowhere bs ≡ Nowhere
nowhere [] = refl
nowhere (b ∷ bs) = nowhere bs

on : (at : At) (b : ℕ) → Fits at → (next at b ≡ Nowhere) ⊎ OnBy at b (next at b) (ended at b)
on Tenant b h = by (first_digit b) refl where
  by : (o : Option ℕ) → first_digit b ≡ o → (next Tenant b ≡ Nowhere) ⊎ OnBy Tenant b (next Tenant b) (ended Tenant b)
  by None e = inl (ap (λ o. or_at TenantNumber o Nowhere) e)
  by (Some n) e =
      let f = first_from b n e in
      inr (subst (λ to. OnBy Tenant b to (ended Tenant b)) (sym (ap (λ o. or_at TenantNumber o Nowhere) e)) (inl (f.0, f.1, none_ended (eqb b 44) Tenant refl)))
on (TenantNumber n) b h = by (more_digits n b) refl where
  by : (o : Option ℕ) → more_digits n b ≡ o → (next (TenantNumber n) b ≡ Nowhere) ⊎ OnBy (TenantNumber n) b (next (TenantNumber n) b) (ended (TenantNumber n) b)
  by (Some m) e =
      let f = more_from n b m h e in
      inr (subst (λ to. OnBy (TenantNumber n) b to (ended (TenantNumber n) b)) (sym (ap (λ o. or_at TenantNumber o (cond (eqb b 46) (Session n) Nowhere)) e)) (inl (f.0, f.1, none_ended (eqb b 44) (TenantNumber n) refl)))
  by None e = dot (eqb b 46) refl where
    dot : (c : Bool) → eqb b 46 ≡ c → (next (TenantNumber n) b ≡ Nowhere) ⊎ OnBy (TenantNumber n) b (next (TenantNumber n) b) (ended (TenantNumber n) b)
    dot false d = inl (ap (λ o. or_at TenantNumber o (cond (eqb b 46) (Session n) Nowhere)) e ∙ ap (λ c. cond c (Session n) Nowhere) d)
    dot true d =
        inr (subst (λ to. OnBy (TenantNumber n) b to (ended (TenantNumber n) b)) (sym (ap (λ o. or_at TenantNumber o (cond (eqb b 46) (Session n) Nowhere)) e ∙ ap (λ c. cond c (Session n) Nowhere) d))
        (inl (h, ap (λ k. decimal n ++ k ∷ []) (sym (eqb-true b 46 d)), none_ended (eqb b 44) (TenantNumber n) refl)))
on (Session t) b h = by (first_digit b) refl where
  by : (o : Option ℕ) → first_digit b ≡ o → (next (Session t) b ≡ Nowhere) ⊎ OnBy (Session t) b (next (Session t) b) (ended (Session t) b)
  by None e = inl (ap (λ o. or_at (SessionNumber t) o Nowhere) e)
  by (Some n) e =
      let f = first_from b n e in
      inr (subst (λ to. OnBy (Session t) b to (ended (Session t) b)) (sym (ap (λ o. or_at (SessionNumber t) o Nowhere) e))
      (inl ((h, f.0), ap (λ ds. decimal t ++ 46 ∷ ds) f.1 ∙ sym (append_assoc (decimal t) (46 ∷ []) (b ∷ [])), none_ended (eqb b 44) (Session t) refl)))
on (SessionNumber t n) b h = by (more_digits n b) refl where
  by : (o : Option ℕ) → more_digits n b ≡ o → (next (SessionNumber t n) b ≡ Nowhere) ⊎ OnBy (SessionNumber t n) b (next (SessionNumber t n) b) (ended (SessionNumber t n) b)
  by (Some m) e =
      let f = more_from n b m h.1 e in
      inr (subst (λ to. OnBy (SessionNumber t n) b to (ended (SessionNumber t n) b)) (sym (ap (λ o. or_at (SessionNumber t) o (cond (eqb b 44) Tenant Nowhere)) e))
      (inl ((h.0, f.0), ap (λ ds. decimal t ++ 46 ∷ ds) f.1 ∙ sym (append_assoc (decimal t) (46 ∷ decimal n) (b ∷ [])), ap (λ c. cond c (record { tenant = t; session = n } ∷ []) []) (comma_no_digit b f.2))))
  by None e = comma (eqb b 44) refl where
    comma : (c : Bool) → eqb b 44 ≡ c → (next (SessionNumber t n) b ≡ Nowhere) ⊎ OnBy (SessionNumber t n) b (next (SessionNumber t n) b) (ended (SessionNumber t n) b)
    comma false d = inl (ap (λ o. or_at (SessionNumber t) o (cond (eqb b 44) Tenant Nowhere)) e ∙ ap (λ c. cond c Tenant Nowhere) d)
    comma true d =
        inr (inr (record { tenant = t; session = n }, record { tenant = h.0; session = h.1 }, ap (λ o. or_at (SessionNumber t) o (cond (eqb b 44) Tenant Nowhere)) e ∙ ap (λ c. cond c Tenant Nowhere) d, eqb-true b 44 d, refl, ap (λ c. cond c (record { tenant = t; session = n } ∷ []) []) d))
on Nowhere b h = absurd h

ends_nowhere : (t n : ℕ) → Nowhere ≡ SessionNumber t n → ⊥
ends_nowhere t n e = cc

-- turns that end with this one
abbrev pub Reaches : List ℕ → List Turn → Type 0
Reaches text turns = (first : Turn) × (more : List Turn) × (turns ≡ first ∷ more) × (text ≡ turn_text first ++ behind_text more) × IsTurn first × AreTurns more

said : (at : At) (bs : List ℕ) (t n : ℕ) → Fits at → reads at bs ≡ SessionNumber t n → Reaches (shown at ++ bs) (all_ended at bs ++ record { tenant = t; session = n } ∷ [])
said at [] t n h e = here (subst Fits e h) where
  here : (t ≤ most) × (n ≤ most) → Reaches (shown at ++ []) (record { tenant = t; session = n } ∷ [])
  here w = (record { tenant = t; session = n }, [], refl, ap (λ a. shown a ++ []) e, record { tenant = w.0; session = w.1 }, tt)
said at (b ∷ bs) t n h e = by (on at b h) (λ f. said (next at b) bs t n f e) (λ is. said Tenant bs t n tt (sym (ap (λ a. reads a bs) is) ∙ e)) where
  by : (next at b ≡ Nowhere) ⊎ OnBy at b (next at b) (ended at b) → (Fits (next at b) → Reaches (shown (next at b) ++ bs) (all_ended (next at b) bs ++ record { tenant = t; session = n } ∷ [])) → (next at b ≡ Tenant → Reaches bs (all_ended Tenant bs ++ record { tenant = t; session = n } ∷ [])) →
      Reaches (shown at ++ b ∷ bs) (ended at b ++ all_ended (next at b) bs ++ record { tenant = t; session = n } ∷ [])
  by (inl none) same new = absurd (ends_nowhere t n (sym (ap (λ a. reads a bs) none ∙ nowhere bs) ∙ e))
  by (inr (inl o)) same new =
      subst (λ text. Reaches text (ended at b ++ all_ended (next at b) bs ++ record { tenant = t; session = n } ∷ [])) (ap (λ text. text ++ bs) o.1 ∙ append_assoc (shown at) (b ∷ []) bs)
      (subst (λ es. Reaches (shown (next at b) ++ bs) (es ++ all_ended (next at b) bs ++ record { tenant = t; session = n } ∷ [])) (sym o.2) (same o.0))
  by (inr (inr o)) same new =
      let later = new o.2 in (
        o.0,
        later.0 ∷ later.1,
        ap (λ es. es ++ all_ended (next at b) bs ++ record { tenant = t; session = n } ∷ []) o.5 ∙ ap (λ a. o.0 ∷ all_ended a bs ++ record { tenant = t; session = n } ∷ []) o.2 ∙ ap (λ ts. o.0 ∷ ts) later.2,
        ap (λ text. text ++ b ∷ bs) o.4 ∙ ap (λ k. turn_text o.0 ++ k ∷ bs) o.3 ∙ ap (λ text. turn_text o.0 ++ 44 ∷ text) later.3,
        o.1,
        (later.4, later.5),
      )

pub said_list : (word : List ℕ) (t n : ℕ) (turns : List Turn) → reads Tenant word ≡ SessionNumber t n → turns ≡ all_ended Tenant word ++ record { tenant = t; session = n } ∷ [] → Lists word turns
said_list word t n turns e is = by (said Tenant word t n tt e) where
  by : Reaches word (all_ended Tenant word ++ record { tenant = t; session = n } ∷ []) → Lists word turns
  by r = subst (Lists word) (sym (is ∙ r.2)) (r.3, (r.4, r.5))

-- ---- behind the last byte

drop_whole : {A : Type 0} (xs : List A) (i : ℕ) → length xs ≤ i → drop i xs ≡ []
drop_whole [] zero le = refl
drop_whole [] (suc i) le = refl
drop_whole (x ∷ xs) zero le = absurd (omega (arith, le))
drop_whole (x ∷ xs) (suc i) le = drop_whole xs i (omega (arith, le))

module _ (list : List ℕ) (at : At) (i : ℕ) (le : length list ≤ i) (same : reads at (drop i list) ≡ reads Tenant list) where
  at_end : at ≡ reads Tenant list
  at_end = sym (ap (λ bs. reads at bs) (drop_whole list i le)) ∙ same

  pub read_whole : (turns all : List Turn) (t n : ℕ) → turns ++ all_ended at (drop i list) ≡ all_ended Tenant list → at ≡ SessionNumber t n → all ≡ turns ++ record { tenant = t; session = n } ∷ [] → Lists list all
  read_whole turns all t n before is more =
      said_list list t n all (sym at_end ∙ is) (more ∙ ap (λ ts. ts ++ record { tenant = t; session = n } ∷ []) (sym (append-nil turns) ∙ sym (ap (λ bs. turns ++ all_ended at bs) (drop_whole list i le)) ∙ before))

  pub read_none : ((t n : ℕ) → at ≡ SessionNumber t n → ⊥) → (turns : List Turn) → (turns ≡ [] → ⊥) → Lists list turns → ⊥
  read_none none turns some lists = let e = listed_ends list turns some lists in none e.0 e.1 (at_end ∙ e.2)

  pub word_listed : (t n : ℕ) → at ≡ SessionNumber t n → IsList list
  word_listed t n is = (all_ended Tenant list ++ record { tenant = t; session = n } ∷ [], said_list list t n (all_ended Tenant list ++ record { tenant = t; session = n } ∷ []) (sym at_end ∙ is) refl)

-- ---- words

-- a word that is tested is the list of two words
pub two_tested : {X : Type 0} (f : X → List ℕ) (words : List X) (w v : X) → 2 ≤ length words → length words < 3 → w ≡ get_or words 0 w → v ≡ get_or words 1 v → (list : List ℕ) → list ≡ f v → f w ≡ codes "turns" → (b : Bool) →
    MatchBool b (IsList list) (IsNoList list) → MatchBool b (ListsTurns (map f words)) (ListsTurns (map f words) → ⊥)
two_tested f [] w v low high x y list is turns b h = absurd (omega (arith, low))
two_tested f (q ∷ []) w v low high x y list is turns b h = absurd (omega (arith, low))
two_tested f (q ∷ r ∷ z ∷ ws) w v low high x y list is turns b h = absurd (omega (arith, high))
two_tested f (q ∷ r ∷ []) w v low high x y list is turns true h = (h.0, (ap f (sym x) ∙ turns, subst (λ l. Lists l h.0) (is ∙ ap f y) h.1))
two_tested f (q ∷ r ∷ []) w v low high x y list is turns false h = λ s. h s.0 (subst (λ l. Lists l s.0) (sym (is ∙ ap f y)) s.1.1)

pub none_listed : (turns : List Turn) → list_text turns ≡ codes "-" → AreTurns turns → turns ≡ []
none_listed [] e h = refl
none_listed (t ∷ ts) e h = absurd (no_dash (subst IsEnd (ap (λ bs. reads Tenant bs) e) (pairs_read t ts h.0 h.1))) where
  no_dash : IsEnd Nowhere → ⊥
  no_dash r = ends_nowhere r.0 r.1 r.2

module _ {A : Type 0} (items : A → List Turn) where
  -- a list that isn't the dash
  pub no_dash : (list : List ℕ) → (list ≡ codes "-" → ⊥) → (r : Result A TurnsFault) → MatchResult r (λ a. Lists list (items a)) (IsNone (λ turns. (turns ≡ [] → ⊥) × Lists list turns)) → MatchResult r (λ a. Lists list (items a)) (IsNone (Lists list))
  no_dash list other (Ok a) h = h
  no_dash list other (Err NotTurns) h = λ turns l. h turns ((λ e. other (l.0 ∙ ap list_text e)), l)
  no_dash list other (Err NoMemory) h = tt

  two_words : (word list : List ℕ) → word ≡ codes "turns" → (r : Result A TurnsFault) → MatchResult r (λ a. Lists list (items a)) (IsNone (Lists list)) → MatchResult r (λ a. IsCommand (word ∷ list ∷ []) (items a)) (IsNone (IsCommand (word ∷ list ∷ [])))
  two_words word list is (Ok a) h = (is, h)
  two_words word list is (Err NotTurns) h = λ turns c. h turns c.1
  two_words word list is (Err NoMemory) h = tt

  pub of_words : {X : Type 0} (f : X → List ℕ) (words : List X) (w v : X) → 2 ≤ length words → length words < 3 → w ≡ get_or words 0 w → v ≡ get_or words 1 v → (list : List ℕ) → list ≡ f v → f w ≡ codes "turns" → (r : Result A TurnsFault) →
      MatchResult r (λ a. Lists list (items a)) (IsNone (Lists list)) → MatchResult r (λ a. IsCommand (map f words) (items a)) (IsNone (IsCommand (map f words)))
  of_words f [] w v low high a b list is turns r h = absurd (omega (arith, low))
  of_words f (x ∷ []) w v low high a b list is turns r h = absurd (omega (arith, low))
  of_words f (x ∷ y ∷ z ∷ ws) w v low high a b list is turns r h = absurd (omega (arith, high))
  of_words f (x ∷ y ∷ []) w v low high a b list is turns r h =
      subst (λ l. MatchResult r (λ t. IsCommand (f x ∷ l ∷ []) (items t)) (IsNone (IsCommand (f x ∷ l ∷ [])))) (is ∙ ap f b) (two_words (f x) list (ap f (sym a) ∙ turns) r h)

pub other_word : {X : Type 0} (f : X → List ℕ) (words : List X) (w : X) → w ≡ get_or words 0 w → (f w ≡ codes "turns" → ⊥) → (turns : List Turn) → IsCommand (map f words) turns → ⊥
other_word f [] w a other turns c = c
other_word f (x ∷ []) w a other turns c = c
other_word f (x ∷ y ∷ []) w a other turns c = other (ap f a ∙ c.0)
other_word f (x ∷ y ∷ z ∷ ws) w a other turns c = c

pub same_bytes : (xs ys : List ℕ) → bytes_eq xs ys ≡ true → xs ≡ ys
same_bytes xs ys e = (bytes_eq-Decides xs ys).0 e

pub other_bytes : (xs ys : List ℕ) → bytes_eq xs ys ≡ false → xs ≡ ys → ⊥
other_bytes xs ys e is = by (bytes_eq xs ys) e ((bytes_eq-Decides xs ys).1 is) where
  by : (b : Bool) → b ≡ false → b ≡ true → ⊥
  by true e f = cc
  by false e f = cc
